-- `moved_alike`: sixteen bytes n, of which the first l are lent, are the sizes of edition 1.
use mathlib.Core.Path.{refl}
use native.Mathlib.Omega.{arith}
use Rattle.meaning.proofs.Limits.{limits_known, lent_length, lent_sized}
use Rattle.listing.proofs.laws.Moves.{moved_outside, moved_lent}
use Rattle.listing.proofs.cursor.moved_alike.Goals as goal

pub returns-then-not-limits : goal.returns-then-not-limits
returns-then-not-limits c = moved_outside _ _ _ _ _ c.limits.ensures c.if-not-limits.true

pub overflow_cast-space : goal.overflow_cast-space
overflow_cast-space c = omega (arith, (limits_known _ _ _ c.limits.ensures c.if-not-limits.false).few)

pub slice_bounds-space-end : goal.slice_bounds-space-end
slice_bounds-space-end c = (limits_known _ _ _ c.limits.ensures c.if-not-limits.false).narrow

pub slice_bounds-moved-end : goal.slice_bounds-moved-end
slice_bounds-moved-end c = lent_length _ _ (limits_known _ _ _ c.limits.ensures c.if-not-limits.false) _ refl

pub moved-requires : goal.moved-requires
moved-requires c = lent_sized _ _ (limits_known _ _ _ c.limits.ensures c.if-not-limits.false) _ refl

pub returns : goal.returns
returns c = moved_lent _ _ _ _ _ c.limits.ensures c.if-not-limits.false _ c.moved.ensures
