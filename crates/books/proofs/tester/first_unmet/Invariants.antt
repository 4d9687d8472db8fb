-- `books::tester::first_unmet` meets its contract. The invariant says that the whole answer is that of the rules left (UnmetAt).
use Rattle.books.proofs.laws.Asked.{UnmetAt}
use Rattle.books.proofs.tester.first_unmet.Given as goal

abbrev pub invariant-loop-k : goal.invariant-loop-k
invariant-loop-k l = UnmetAt l.book l.combination l.rules l.p l.k
