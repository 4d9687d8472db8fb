-- `reducing::counts::number` meets its contract. The invariant counts the literals passed (NumberFrom).
use Rattle.std.proofs.Common.{◌≡◌}
use Rattle.reducing.proofs.laws.Passed.{NumberFrom}
use Rattle.reducing.proofs.counts.number.Given as goal

abbrev pub invariant-loop-literal : goal.invariant-loop-literal
invariant-loop-literal l = (l.literal-iterator.size ≡ 3) × NumberFrom l.literals l.literal-iterator.rest.now l.row l.k
