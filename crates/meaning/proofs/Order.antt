-- The order of prefixes, and so of rows: strict, and total.
use Prim.Native.Nat.{ℕ, ◌<◌}
use native.Mathlib.Omega.{arith}
use mathlib.Core.Path.{◌≡◌, refl, sym, ◌∙◌}
use mathlib.Core.Bool.{true, false, true≢false, false≢true}
use mathlib.Core.Logic.{◌⊎◌, inl, inr}
use mathlib.Core.List.{[], ◌∷◌}
use borrow.Author.Tests.{lt-ltb, le-ltb, eq-eqb, ne_eqb}
use Rattle.meaning.proofs.Tests.{lt_or_le}
use Rattle.meaning.specs.Rows.{Row, before}

-- nothing comes before the empty prefix, and it comes before all others
pub before_none : (x : Row) → before x [] ≡ false
unfolding before
before_none [] = refl
before_none (u ∷ x) = refl

pub before_some : (v : ℕ) (x : Row) → before [] (v ∷ x) ≡ true
unfolding before
before_some v x = refl

-- by the first value where it differs, else by what follows
pub before_less : (u v : ℕ) (x y : Row) → u < v → before (u ∷ x) (v ∷ y) ≡ true
unfolding before
before_less u v x y h = rw (lt-ltb u v h)

pub before_more : (u v : ℕ) (x y : Row) → v < u → before (u ∷ x) (v ∷ y) ≡ false
unfolding before
before_more u v x y h = rw (le-ltb u v (omega arith), ne_eqb u v (λ e. omega arith))

pub before_same : (v : ℕ) (x y : Row) → before (v ∷ x) (v ∷ y) ≡ before x y
unfolding before
before_same v x y = rw (le-ltb v v (omega arith), eq-eqb v v refl)

-- one of three
pub compare : (u v : ℕ) → (u < v) ⊎ ((u ≡ v) ⊎ (v < u))
compare u v = elim (lt_or_le u v) [ inl h ↦ inl h | inr h ↦ elim (lt_or_le v u) [ inl k ↦ inr (inr k) | inr k ↦ inr (inl (omega arith)) ] ]

pub before_irreflexive : (x : Row) → before x x ≡ false
before_irreflexive [] = before_none []
before_irreflexive (v ∷ x) = before_same v x x ∙ before_irreflexive x

pub before_asymmetric : (x y : Row) → before x y ≡ true → before y x ≡ false
before_asymmetric [] y h = before_none y
before_asymmetric (u ∷ x) [] h = absurd (false≢true (sym (before_none (u ∷ x)) ∙ h))
before_asymmetric (u ∷ x) (v ∷ y) h = elim (compare u v) [
  | inl k ↦ before_more v u y x k
  | inr k ↦ elim k [
    | inl e ↦ rw e (before_same v y x ∙ before_asymmetric x y (sym (before_same v x y) ∙ rw e at h))
    | inr m ↦ absurd (false≢true (sym (before_more u v x y m) ∙ h))
  ]
]

pub before_transitive : (x y z : Row) → before x y ≡ true → before y z ≡ true → before x z ≡ true
before_transitive x y [] h i = absurd (false≢true (sym (before_none y) ∙ i))
before_transitive [] y (w ∷ z) h i = before_some w z
before_transitive (u ∷ x) [] (w ∷ z) h i = absurd (false≢true (sym (before_none (u ∷ x)) ∙ h))
before_transitive (u ∷ x) (v ∷ y) (w ∷ z) h i = elim (compare u v) [
  | inl k ↦ elim (compare v w) [
    | inl l ↦ before_less u w x z (omega arith)
    | inr l ↦ elim l [ inl e ↦ before_less u w x z (omega arith) | inr m ↦ absurd (false≢true (sym (before_more v w y z m) ∙ i)) ]
  ]
  | inr k ↦ elim k [
    | inl e ↦ elim (compare v w) [
      | inl l ↦ before_less u w x z (omega arith)
      | inr l ↦ elim l [
        | inl f ↦ rw (e, f) (before_same w x z ∙ before_transitive x y z (sym (before_same v x y) ∙ rw e at h) (sym (before_same w y z) ∙ rw f at i))
        | inr m ↦ absurd (false≢true (sym (before_more v w y z m) ∙ i))
      ]
    ]
    | inr m ↦ absurd (false≢true (sym (before_more u v x y m) ∙ h))
  ]
]

-- of two different ones, one comes before the other
pub before_total : (x y : Row) → before x y ≡ false → before y x ≡ false → x ≡ y
before_total [] [] h i = refl
before_total [] (v ∷ y) h i = absurd (true≢false (sym (before_some v y) ∙ h))
before_total (u ∷ x) [] h i = absurd (true≢false (sym (before_some u x) ∙ i))
before_total (u ∷ x) (v ∷ y) h i = elim (compare u v) [
  | inl k ↦ absurd (true≢false (sym (before_less u v x y k) ∙ h))
  | inr k ↦ elim k [
    | inl e ↦ rw (e, before_total x y (sym (before_same v x y) ∙ rw e at h) (sym (before_same v y x) ∙ rw e at i))
    | inr m ↦ absurd (true≢false (sym (before_less v u y x m) ∙ i))
  ]
]
