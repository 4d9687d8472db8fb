-- The array of sixteen sizes, cut at l, is the sizes of edition 1.
use Rattle.tables.proofs.laws.Refusals.{cut_checked}
use Rattle.tables.proofs.flaws.check_alike.Goals as goal

pub returns : goal.returns
returns c = search cut_checked
