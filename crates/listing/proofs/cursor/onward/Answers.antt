-- `onward`: each way out is a lemma of laws/Moves.
use mathlib.Core.Path.{refl}
use native.Mathlib.Omega.{arith}
use Rattle.listing.proofs.laws.Moves.{along_start, along_last, along_on, last_known}
use Rattle.listing.proofs.cursor.onward.Goals as goal

pub returns-then-c-eq0 : goal.returns-then-c-eq0
returns-then-c-eq0 c = along_start _ _ c.requires.0 _ c.requires.1 refl c.if-c-eq0.true

pub bounds-values-last : goal.bounds-values-last
bounds-values-last c = omega (arith, last_known _ _ c.requires.0 _ c.requires.1 refl c.if-c-eq0.false)

pub overflow_add-v : goal.overflow_add-v
overflow_add-v c = omega (arith, last_known _ _ c.requires.0 _ c.requires.1 refl c.if-c-eq0.false)

pub bounds-sizes-last : goal.bounds-sizes-last
bounds-sizes-last c = omega (arith, last_known _ _ c.requires.0 _ c.requires.1 refl c.if-c-eq0.false)

pub returns-then-sizes-last : goal.returns-then-sizes-last
returns-then-sizes-last c = along_last _ _ c.requires.0 _ c.requires.1 refl c.if-c-eq0.false c.if-sizes-last.true

pub returns : goal.returns
returns c = along_on _ _ c.requires.0 _ c.requires.1 refl c.if-c-eq0.false c.if-sizes-last.false
