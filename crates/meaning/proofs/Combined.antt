-- Combined: the values of rows combined setting by setting, and when a literal holds at a combined row.
-- What a literal says of the minimum and of the maximum is all in which Horn and dual Horn differ.
use Prim.Native.Nat.{ℕ, zero, suc, ◌≤◌, ◌<◌, max}
use native.Mathlib.Omega.{arith}
use mathlib.Core.Path.{◌≡◌, refl, ◌∙◌}
use mathlib.Core.Logic.{◌↔◌, inl, inr}
use mathlib.Core.Bool.{Bool, true, false, ◌||◌}
use mathlib.Core.List.{[], ◌∷◌}
use lib.Dec.{T, leb, leb→le, le→leb}
use lib.ListN.{length, length-append, get_or-append, get_or-eq_default}
use lib.Seq.{get_or_at}
use Rattle.meaning.specs.Rows.{Row, at}
use Rattle.meaning.specs.Rules.{Literal, at_most, at_least, Side, low, high, holds, scarce}
use Rattle.meaning.specs.Families.{fill, pick, both, mid, median}
use Rattle.meaning.proofs.Tests.{lt_or_le, T-or, tests}

-- ---- fill

length_fill : (g : ℕ → ℕ) (n : ℕ) → length (fill g n) ≡ n
unfolding fill
length_fill g zero = refl
length_fill g (suc n) = rw (length-append, length_fill g n) (omega arith)

at_fill : (g : ℕ → ℕ) (n i : ℕ) → i < n → at (fill g n) i ≡ g i
unfolding fill
at_fill g zero i h = absurd (omega arith)
at_fill g (suc n) i h = elim (lt_or_le i n) [
  | inl k ↦ get_or-append (fill g n) (g n ∷ []) 0 i (omega (arith, length_fill g n)) ∙ at_fill g n i k
  | inr k ↦ let e : i ≡ n = omega arith in rw e (get_or_at (fill g n) (g n) [] 0 n (length_fill g n))
]

-- beyond the end a value is 0
at_end : (a : Row) (i : ℕ) → length a ≤ i → at a i ≡ 0
at_end a i h = get_or-eq_default a 0 h

at_filled : (g : ℕ → ℕ) (n i : ℕ) → (n ≤ i → g i ≡ 0) → at (fill g n) i ≡ g i
at_filled g n i z = elim (lt_or_le i n) [ inl h ↦ at_fill g n i h | inr h ↦ omega (arith, at_end (fill g n) i (omega (arith, length_fill g n)), z h) ]

pick_zero : (s : Side) (u v : ℕ) → u ≡ 0 → v ≡ 0 → pick s u v ≡ 0
unfolding pick
pick_zero low u v d e = omega arith
pick_zero high u v d e = omega arith

pub at_both : (s : Side) (a b : Row) (i : ℕ) → at (both s a b) i ≡ pick s (at a i) (at b i)
unfolding both
at_both s a b i = at_filled _ _ i (λ h. pick_zero s (at a i) (at b i) (at_end a i (omega arith)) (at_end b i (omega arith)))

pub at_median : (a b c : Row) (i : ℕ) → at (median a b c) i ≡ mid (at a i) (at b i) (at c i)
unfolding median mid
at_median a b c i = at_filled _ _ i (λ h. omega (arith, at_end a i (omega arith), at_end b i (omega arith), at_end c i (omega arith)))

pub length_both : (s : Side) (a b : Row) → length (both s a b) ≡ max (length a) (length b)
unfolding both
length_both s a b = length_fill _ _

pub length_median : (a b c : Row) → length (median a b c) ≡ max (max (length a) (length b)) (length c)
unfolding median
length_median a b c = length_fill _ _

-- ---- a literal at a combined row

-- a scarce literal holds where it holds at both
pub scarce_both : (s : Side) (l : Literal) (a b : Row) → T (scarce s l) → T (holds l (both s a b)) ↔ (T (holds l a) × T (holds l b))
unfolding scarce holds pick
scarce_both low (at_most i d) a b t = absurd t
scarce_both low (at_least i d) a b t = simp (at_both, tests) (λ h. (omega arith, omega arith), λ h. omega arith)
scarce_both high (at_most i d) a b t = simp (at_both, tests) (λ h. (omega arith, omega arith), λ h. omega arith)
scarce_both high (at_least i d) a b t = absurd t

-- another literal holds where it holds at one of the two
pub common_both : (s : Side) (l : Literal) (a b : Row) → (¬ T (scarce s l)) → T (holds l (both s a b)) ↔ T (holds l a || holds l b)
unfolding scarce holds pick
common_both low (at_most i d) a b n = simp (at_both, T-or, tests) (λ h k. omega arith, λ f. elim (lt_or_le d (at a i)) [ inl k ↦ omega (arith, f (omega arith)) | inr k ↦ omega arith ])
common_both low (at_least i d) a b n = absurd (n tt)
common_both high (at_most i d) a b n = absurd (n tt)
common_both high (at_least i d) a b n = simp (at_both, T-or, tests) (λ h k. omega arith, λ f. elim (lt_or_le (at a i) d) [ inl k ↦ omega (arith, f (omega arith)) | inr k ↦ omega arith ])

-- ---- a literal at a median: two of the three decide

-- two of three tests pass
pub data Two (a b c : Bool) : Type 0 where
  first_second : T a → T b → Two a b c
  first_third : T a → T c → Two a b c
  second_third : T b → T c → Two a b c

two_of : (a b c : Bool) → (¬ T a → T b × T c) → (¬ T b → T c) → Two a b c
two_of true true c f g = first_second tt tt
two_of true false c f g = first_third tt (g (λ t. t))
two_of false b c f g = second_third (f (λ t. t)).0 (f (λ t. t)).1

module _ (u v w d : ℕ) where
  mid_le : T (leb (mid u v w) d) ↔ Two (leb u d) (leb v d) (leb w d)
  unfolding mid
  mid_le = (
    λ t. two_of _ _ _ (simp tests (omega (arith, leb→le))) (simp tests (omega (arith, leb→le))),
    λ o. elim o [
      | first_second p q ↦ omega (arith, leb→le, le→leb)
      | first_third p q ↦ omega (arith, leb→le, le→leb)
      | second_third p q ↦ omega (arith, leb→le, le→leb)
    ],
  )

  mid_ge : T (leb d (mid u v w)) ↔ Two (leb d u) (leb d v) (leb d w)
  unfolding mid
  mid_ge = (
    λ t. two_of _ _ _ (simp tests (omega (arith, leb→le))) (simp tests (omega (arith, leb→le))),
    λ o. elim o [
      | first_second p q ↦ omega (arith, leb→le, le→leb)
      | first_third p q ↦ omega (arith, leb→le, le→leb)
      | second_third p q ↦ omega (arith, leb→le, le→leb)
    ],
  )

pub median_two : (l : Literal) (a b c : Row) → T (holds l (median a b c)) ↔ Two (holds l a) (holds l b) (holds l c)
unfolding holds
median_two (at_most i d) a b c = rw at_median (mid_le (at a i) (at b i) (at c i) d)
median_two (at_least i d) a b c = rw at_median (mid_ge (at a i) (at b i) (at c i) d)
