-- `makers::make_checked` meets its contract: refusals 6 and 7 come in their order, then the book or refusal 8.
use Rattle.makers.proofs.laws.Refusals.{closed_open, closed_book}
use Rattle.tables.proofs.laws.Promised.{passes_ready}
use Rattle.makers.proofs.make_checked.Goals as goal

pub open_rows-requires : goal.open_rows-requires
open_rows-requires c = search passes_ready

pub returns-in-Some : goal.returns-in-Some
returns-in-Some c = search closed_open

pub returns-in-None : goal.returns-in-None
returns-in-None c = search closed_book
