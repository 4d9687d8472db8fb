-- `makers::make_alike` meets its contract: sixteen sizes, cut at l, are those of the head.
use Rattle.makers.proofs.laws.Refusals.{alike_book}
use Rattle.makers.proofs.make_alike.Goals as goal

pub returns : goal.returns
returns c = search alike_book
