-- `ask`: a rule that is met as it is forbids nothing.
use native.Mathlib.Omega.{arith}
use Rattle.listing.proofs.laws.Looking.{asks_still}
use Rattle.listing.proofs.groups.ask.Goals as goal

pub returns-then-shows : goal.returns-then-shows
returns-then-shows c = search (asks_still, arith)
