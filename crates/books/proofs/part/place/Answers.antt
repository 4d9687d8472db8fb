-- `books::part::place` meets its contract. The invariant says that the place is that of the rules left to pass (Walk).
use native.Mathlib.Omega.{arith}
use Rattle.books.proofs.laws.Part.{walk_start, walk_on, walk_end}
use Rattle.books.proofs.part.place.Goals as goal

pub loop-i-init : goal.loop-i-init
loop-i-init c = search walk_start

pub loop-i-preserved : goal.loop-i-preserved
loop-i-preserved c = search (walk_on, arith)

pub returns : goal.returns
returns c = search (walk_end, arith)
