-- `literals::holding::first_held` meets its contract. The invariant: none of the literals passed holds (HeldFrom).
use Rattle.std.proofs.Common.{◌≡◌}
use Rattle.literals.proofs.laws.Holding.{HeldFrom}
use Rattle.literals.proofs.holding.first_held.Given as goal

abbrev pub invariant-loop-i : goal.invariant-loop-i
invariant-loop-i l =
    (goal.iterator-loop-i).can_next l.i-iterator × (goal.iterator-loop-i).is_finite l.i-iterator ×
    (l.i-iterator.iter.size ≡ 3) × HeldFrom l.literals l.i-iterator.iter.rest.now l.row l.i-iterator.count
