-- First: the number of the first rule that a combination does not meet, and the place of its first value outside the sizes.
use Prim.Native.Nat.{ℕ, zero, suc, ◌≤◌, ◌<◌}
use native.Mathlib.Omega.{arith}
use mathlib.Core.Path.{◌≡◌, refl, ap, ◌∙◌}
use mathlib.Core.Logic.{◌↔◌}
use mathlib.Core.Bool.{true, false}
use mathlib.Core.List.{List, [], ◌∷◌}
use lib.Dec.{T, ltb, leb}
use lib.ListN.{length, get_or}
use borrow.Author.Tests.{lt-leb, le-leb, ltb-true, ltb-false}
use Rattle.std.specs.Prelude.{Option}
use Rattle.std.specs.List.{zip, position_or_len}
use Rattle.meaning.specs.Rows.{Row, Sizes, within}
use Rattle.meaning.specs.Rules.{Rule, met, all_met}
use Rattle.meaning.proofs.Tests.{case, is, isnt, yes_of}
use Rattle.literals.specs.Found.{found}
use Rattle.books.specs.Tested.{first_unmet, first_over}

-- ---- rules

module _ (r : Rule) (rs : List Rule) (x : Row) where
  pub first_unmet_met : met r x ≡ true → first_unmet (r ∷ rs) x ≡ suc (first_unmet rs x)
  unfolding first_unmet
  first_unmet_met e = rw e

  pub first_unmet_not : met r x ≡ false → first_unmet (r ∷ rs) x ≡ 0
  unfolding first_unmet
  first_unmet_not e = rw e

pub first_unmet_most : (rs : List Rule) (x : Row) → first_unmet rs x ≤ length rs
unfolding first_unmet
first_unmet_most [] x = omega arith
first_unmet_most (r ∷ rs) x = elim (case (met r x)) [
  | is e ↦ omega (arith, first_unmet_met r rs x e, first_unmet_most rs x)
  | isnt e ↦ omega (arith, first_unmet_not r rs x e)
]

pub first_unmet_all : (rs : List Rule) (x : Row) → (first_unmet rs x ≡ length rs) ↔ T (all_met rs x)
unfolding first_unmet all_met
first_unmet_all [] x = (λ e. tt, λ t. refl)
first_unmet_all (r ∷ rs) x = elim (case (met r x)) [
  | is e ↦ rw e (λ h. (first_unmet_all rs x).0 (omega arith), λ t. ap suc ((first_unmet_all rs x).1 t))
  | isnt e ↦ rw e (λ h. absurd (omega arith), λ t. absurd t)
]

-- the rules before it are met, and it is not
pub first_unmet_before : (rs : List Rule) (x : Row) (j : ℕ) → j < first_unmet rs x → T (met (get_or rs j []) x)
unfolding first_unmet
first_unmet_before [] x j h = absurd (omega arith)
first_unmet_before (r ∷ rs) x zero h = elim (case (met r x)) [ is e ↦ yes_of (met r x) e | isnt e ↦ absurd (omega (arith, first_unmet_not r rs x e)) ]
first_unmet_before (r ∷ rs) x (suc j) h = elim (case (met r x)) [
  | is e ↦ first_unmet_before rs x j (omega (arith, first_unmet_met r rs x e))
  | isnt e ↦ absurd (omega (arith, first_unmet_not r rs x e))
]

pub first_unmet_at : (rs : List Rule) (x : Row) → first_unmet rs x < length rs → met (get_or rs (first_unmet rs x) []) x ≡ false
unfolding first_unmet
first_unmet_at [] x h = absurd (omega arith)
first_unmet_at (r ∷ rs) x h = elim (case (met r x)) [
  | is e ↦ rw (first_unmet_met r rs x e) (first_unmet_at rs x (omega (arith, first_unmet_met r rs x e)))
  | isnt e ↦ rw (first_unmet_not r rs x e) e
]

-- ---- values

pub first_over_most : (ns : Sizes) (x : Row) → first_over ns x ≤ length x
unfolding first_over
first_over_most ns [] = omega arith
first_over_most [] (v ∷ x) = omega arith
first_over_most (n ∷ ns) (v ∷ x) = elim (case (ltb v n)) [
  | is e ↦ rw e (omega (arith, first_over_most ns x))
  | isnt e ↦ rw e (omega arith)
]

pub first_over_all : (ns : Sizes) (x : Row) → length x ≡ length ns → (first_over ns x ≡ length x) ↔ T (within ns x)
unfolding first_over within
first_over_all [] [] h = (λ e. tt, λ t. refl)
first_over_all [] (v ∷ x) h = absurd (omega arith)
first_over_all (n ∷ ns) [] h = absurd (omega arith)
first_over_all (n ∷ ns) (v ∷ x) h = elim (case (ltb v n)) [
  | is e ↦ rw e (λ g. (first_over_all ns x (omega arith)).0 (omega arith), λ t. ap suc ((first_over_all ns x (omega arith)).1 t))
  | isnt e ↦ rw e (λ g. absurd (omega arith), λ t. absurd t)
]

-- a value and its size: the pairs as the code searches them
over_length : (ns : Sizes) (x : Row) → length x ≡ length ns → length (zip x ns) ≡ length x
over_length [] [] h = refl
over_length [] (v ∷ x) h = absurd (omega arith)
over_length (n ∷ ns) [] h = absurd (omega arith)
over_length (n ∷ ns) (v ∷ x) h = ap suc (over_length ns x (omega arith))

over_place : (ns : Sizes) (x : Row) → length x ≡ length ns → position_or_len (λ (p : ℕ × ℕ). leb p.1 p.0) (zip x ns) ≡ first_over ns x
unfolding first_over
over_place [] [] h = refl
over_place [] (v ∷ x) h = absurd (omega arith)
over_place (n ∷ ns) [] h = absurd (omega arith)
over_place (n ∷ ns) (v ∷ x) h = elim (case (ltb v n)) [
  | is e ↦ rw (e, lt-leb n v (ltb-true v n e)) (omega (arith, over_place ns x (omega arith)))
  | isnt e ↦ rw (e, le-leb n v (ltb-false v n e))
]

pub first_over_pairs : (ns : Sizes) (x : Row) (r : Option ℕ) → length x ≡ length ns
    → r ≡ found (length (zip x ns)) (position_or_len (λ (p : ℕ × ℕ). leb p.1 p.0) (zip x ns)) → r ≡ found (length x) (first_over ns x)
first_over_pairs ns x r h e = e ∙ rw (over_place ns x h, over_length ns x h)
