-- `books::rules::Reader::literals` meets its contract. The invariant says that the whole answer is that of the literals left (LiteralsAt).
use Rattle.books.proofs.laws.Literals.{LiteralsAt}
use Rattle.books.proofs.rules.Reader.literals.Given as goal

abbrev pub invariant-loop-k : goal.invariant-loop-k
invariant-loop-k l = LiteralsAt l.self.book.now l.self.sizes.now l.from l.c l.low l.p l._k
