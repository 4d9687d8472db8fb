-- `books::rules::idle` meets its contract. The invariant says that the whole answer is that of the literals left (IdleAt).
use Rattle.books.proofs.laws.Idle.{IdleAt}
use Rattle.books.proofs.rules.idle.Given as goal

abbrev pub invariant-loop-i : goal.invariant-loop-i
invariant-loop-i l = IdleAt l.book l.start l.c l.p l._i
