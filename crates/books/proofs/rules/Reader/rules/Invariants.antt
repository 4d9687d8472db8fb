-- `books::rules::Reader::rules` meets its contract. The invariant says that the whole answer is that of the rules left.
use Rattle.std.proofs.Common.{◌≡◌, ◌-◌, ◌≤◌, length}
use Rattle.books.specs.Format.{rules_of}
use Rattle.books.proofs.rules.Reader.rules.Given as goal

abbrev pub invariant-loop-i : goal.invariant-loop-i
invariant-loop-i l = record {
  whole : rules_of l.self.book.now l.self.sizes.now l.self.family l.start l.count ≡ rules_of l.self.book.now l.self.sizes.now l.self.family l.p (l.count - l._i);
  inside : l.p ≤ length l.self.book.now;
}
