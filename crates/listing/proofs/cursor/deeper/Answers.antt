-- `deeper`: both ways out are lemmas of laws/Moves.
use mathlib.Core.Path.{refl}
use native.Mathlib.Omega.{arith}
use Rattle.listing.proofs.laws.Moves.{down_fits, down_full, down_on}
use Rattle.listing.proofs.cursor.deeper.Goals as goal

pub returns-then-c-sizes : goal.returns-then-c-sizes
returns-then-c-sizes c = down_full _ _ c.requires.0 _ c.requires.1 refl c.if-c-sizes.true

pub overflow_add-result : goal.overflow_add-result
overflow_add-result c = omega (arith, down_fits _ _ c.requires.0 _ c.requires.1 refl)

pub returns : goal.returns
returns c = down_on _ _ c.requires.0 _ c.requires.1 refl c.if-c-sizes.false
