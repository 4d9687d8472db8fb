-- The invariant: what is left of the two rows decides.
use Rattle.std.proofs.Common.{◌≡◌, length}
use Rattle.std.specs.Ordering.{nat_cmp}
use Rattle.std.specs.Cmp.Lexicographic.{slice_cmp}
use Rattle.tables.proofs.order.order.Given as goal

abbrev pub invariant-loop-x : goal.invariant-loop-x
invariant-loop-x l =
    (length l.x-iterator.a.rest.now ≡ length l.x-iterator.b.rest.now) ×
    (slice_cmp nat_cmp l.a l.b ≡ slice_cmp nat_cmp l.x-iterator.a.rest.now l.x-iterator.b.rest.now)
