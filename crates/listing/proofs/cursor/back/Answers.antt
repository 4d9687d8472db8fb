-- `back`: both ways out are lemmas of laws/Moves.
use mathlib.Core.Path.{refl}
use native.Mathlib.Omega.{arith}
use Rattle.listing.proofs.laws.Moves.{up_start, up_on, last_known}
use Rattle.listing.proofs.cursor.back.Goals as goal

pub returns-then-c-eq0 : goal.returns-then-c-eq0
returns-then-c-eq0 c = up_start _ _ c.requires.0 _ c.requires.1 refl c.if-c-eq0.true

pub bounds-values-last : goal.bounds-values-last
bounds-values-last c = omega (arith, last_known _ _ c.requires.0 _ c.requires.1 refl c.if-c-eq0.false)

pub returns : goal.returns
returns c = up_on _ _ c.requires.0 _ c.requires.1 refl c.if-c-eq0.false
