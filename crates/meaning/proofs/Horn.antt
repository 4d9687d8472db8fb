-- Horn: what is left of a rule reduced to Horn is part of it and has at most one positive literal. Dual Horn is the same proof, at the other side.
use Prim.Native.Nat.{◌≤◌}
use native.Mathlib.Omega.{arith}
use mathlib.Core.Path.{◌≡◌, refl}
use mathlib.Core.List.{List, [], ◌∷◌}
use mathlib.Core.Option.{Option, none, some}
use lib.Dec.{T}
use Rattle.meaning.specs.Rows.{Row}
use Rattle.meaning.specs.Rules.{Rule, Side, holds, scarce, scarces, horn, Part, done, skip, hold}
use Rattle.meaning.specs.Families.{common, common_and, keep_for, reduce}
use Rattle.meaning.proofs.Tests.{is, isnt, case, tests}
use Rattle.meaning.proofs.Reduced.{part_all}

module _ (s : Side) where
  common_part : (r : Rule) → Part (common s r) r
  unfolding common
  common_part [] = done
  common_part (l ∷ r) = elim (case (scarce s l)) [ is e ↦ rw e (skip (common_part r)) | isnt e ↦ rw e (hold (common_part r)) ]

  common_and_part : (m : Row) (r : Rule) → Part (common_and s m r) r
  unfolding common_and
  common_and_part m [] = done
  common_and_part m (l ∷ r) = elim (case (scarce s l)) [
    | is e ↦ rw e (elim (case (holds l m)) [ is f ↦ rw f (hold (common_part r)) | isnt f ↦ rw f (skip (common_and_part m r)) ])
    | isnt e ↦ rw e (hold (common_and_part m r))
  ]

  common_scarces : (r : Rule) → scarces s (common s r) ≡ 0
  unfolding common scarces
  common_scarces [] = refl
  common_scarces (l ∷ r) = elim (case (scarce s l)) [ is e ↦ rw e (common_scarces r) | isnt e ↦ rw (e, e) (omega (arith, common_scarces r)) ]

  common_and_scarces : (m : Row) (r : Rule) → scarces s (common_and s m r) ≤ 1
  unfolding common_and scarces
  common_and_scarces m [] = omega arith
  common_and_scarces m (l ∷ r) = elim (case (scarce s l)) [
    | is e ↦ rw e (elim (case (holds l m)) [ is f ↦ rw (f, e) (omega (arith, common_scarces r)) | isnt f ↦ rw f (common_and_scarces m r) ])
    | isnt e ↦ rw (e, e) (omega (arith, common_and_scarces m r))
  ]

  keep_for_part : (r : Rule) (k : Option Row) → Part (keep_for s r k) r
  unfolding keep_for
  keep_for_part r none = common_part r
  keep_for_part r (some m) = common_and_part m r

  keep_for_scarces : (r : Rule) (k : Option Row) → scarces s (keep_for s r k) ≤ 1
  unfolding keep_for
  keep_for_scarces r none = omega (arith, common_scarces r)
  keep_for_scarces r (some m) = common_and_scarces m r

  few_horn : (r : Rule) → scarces s r ≤ 1 → T (horn s r)
  unfolding horn
  few_horn r h = simp tests (omega arith)

  pub reduce_part : (rows : List Row) (r : Rule) → Part (reduce s rows r) r
  unfolding reduce
  reduce_part rows r = elim (case (horn s r)) [ is e ↦ rw e (part_all r) | isnt e ↦ rw e (keep_for_part r _) ]

  pub reduce_horn : (rows : List Row) (r : Rule) → T (horn s (reduce s rows r))
  unfolding reduce
  reduce_horn rows r = elim (case (horn s r)) [ is e ↦ rw (e, e) tt | isnt e ↦ rw e (few_horn _ (keep_for_scarces r _)) ]
