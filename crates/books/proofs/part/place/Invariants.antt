-- `books::part::place` meets its contract. The invariant says that the place is that of the rules left to pass (Walk).
use Rattle.books.proofs.laws.Part.{Walk}
use Rattle.books.proofs.part.place.Given as goal

abbrev pub invariant-loop-i : goal.invariant-loop-i
invariant-loop-i l = Walk l.book l.number l.p l._i
