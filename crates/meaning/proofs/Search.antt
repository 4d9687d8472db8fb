-- Search: what it says that a search over numbers, pairs or triples of numbers finds nothing, or finds something.
use Prim.Native.Nat.{ℕ, zero, suc, ◌+◌, ◌-◌, ◌≤◌, ◌<◌}
use native.Mathlib.Omega.{arith}
use mathlib.Core.Path.{◌≡◌, refl, sym, ◌∙◌}
use mathlib.Core.Logic.{◌↔◌, ◌≢◌, ◌⊎◌, inl, inr}
use mathlib.Core.Bool.{Bool, true, false}
use mathlib.Core.Option.{Option, none, some}
use lib.Dec.{T}
use Rattle.meaning.specs.Closed.{or_else, first, first_pair, first_triple, unless, Earlier}
use Rattle.meaning.proofs.Tests.{lt_or_le}

pub none_some : {A : Type 0} {a : A} → none ≢ some a
none_some e = let z : ◌≡◌ {A = ℕ} 0 1 = cc in omega arith

pub unless_none : {A : Type 0} (b : Bool) (a : A) → (unless b a ≡ none) ↔ T b
unfolding unless
unless_none true a = (λ e. tt, λ t. refl)
unless_none false a = (λ e. none_some (sym e), λ t. absurd t)

pub unless_some : {A : Type 0} (b : Bool) (a c : A) → unless b a ≡ some c → (¬ T b) × (a ≡ c)
unfolding unless
unless_some true a c e = absurd (none_some e)
unless_some false a c e = (λ t. t, cc)

module _ {A : Type 0} where
  -- ---- one loop

  pub record Found (f : ℕ → Option A) (s n : ℕ) (a : A) : Type 0 where
    pub place : ℕ
    pub after : s ≤ place
    pub inside : place < s + n
    pub gives : f place ≡ some a
    pub before : (j : ℕ) → s ≤ j → j < place → f j ≡ none

  pub or_else_none : (o p : Option A) → (or_else o p ≡ none) → (o ≡ none) × (p ≡ none)
  unfolding or_else
  or_else_none none p e = (refl, e)
  or_else_none (some a) p e = absurd (none_some (sym e))

  pub first_none : (f : ℕ → Option A) (s n : ℕ) → (first f s n ≡ none) ↔ ((i : ℕ) → s ≤ i → i < s + n → f i ≡ none)
  unfolding first or_else
  first_none f s zero = (λ e i h k. absurd (omega arith), λ g. refl)
  first_none f s (suc n) = (
    λ e i h k.
        let (p, q) = or_else_none (f s) (first f (suc s) n) e in
        elim (lt_or_le s i) [ inl l ↦ (first_none f (suc s) n).0 q i l (omega arith) | inr l ↦ let z : i ≡ s = omega arith in rw z p ],
    λ g. rw (g s (omega arith) (omega arith)) ((first_none f (suc s) n).1 (λ i h k. g i (omega arith) (omega arith))),
  )

  later : (f : ℕ → Option A) (s n : ℕ) (a : A) → f s ≡ none → Found f (suc s) n a → Found f s (suc n) a
  later f s n a e c = record {
    place = c.place;
    after = omega arith;
    inside = omega arith;
    gives = c.gives;
    before = λ j h k. elim (lt_or_le s j) [ inl l ↦ c.before j l k | inr l ↦ let z : j ≡ s = omega arith in rw z e ];
  }

  pub first_some : (f : ℕ → Option A) (s n : ℕ) (a : A) → first f s n ≡ some a → Found f s n a
  unfolding first or_else
  first_some f s zero a e = absurd (none_some e)
  first_some f s (suc n) a e = go (f s) refl (first_some f (suc s) n a) e
    where
      go : (o : Option A) → f s ≡ o → (first f (suc s) n ≡ some a → Found f (suc s) n a) → or_else o (first f (suc s) n) ≡ some a → Found f s (suc n) a
      go none z rec e = later f s n a z (rec e)
      go (some b) z rec e = record { place = s; after = omega arith; inside = omega arith; gives = z ∙ e; before = λ j h k. absurd (omega arith) }

  -- ---- two loops

  pub record FoundPair (f : ℕ → ℕ → Option A) (n : ℕ) (a : A) : Type 0 where
    pub one : ℕ
    pub two : ℕ
    pub order : one < two
    pub inside : two < n
    pub gives : f one two ≡ some a
    pub before : (i j : ℕ) → i < j → j < n → Earlier i j one two → f i j ≡ none

  module _ (f : ℕ → ℕ → Option A) (n : ℕ) where
    pub pair_none : (first_pair f n ≡ none) ↔ ((i j : ℕ) → i < j → j < n → f i j ≡ none)
    unfolding first_pair
    pair_none = (
      λ e i j h k. (first_none (f i) (suc i) (n - suc i)).0 ((first_none (λ i. first (f i) (suc i) (n - suc i)) 0 n).0 e i (omega arith) (omega arith)) j h (omega arith),
      λ g. (first_none (λ i. first (f i) (suc i) (n - suc i)) 0 n).1 (λ i h k. (first_none (f i) (suc i) (n - suc i)).1 (λ j l m. g i j l (omega arith))),
    )

    pub pair_some : (a : A) → first_pair f n ≡ some a → FoundPair f n a
    unfolding first_pair
    pair_some a e =
        let c = first_some (λ i. first (f i) (suc i) (n - suc i)) 0 n a e in
        let d = first_some (f c.place) (suc c.place) (n - suc c.place) a c.gives in
        record {
          one = c.place;
          two = d.place;
          order = d.after;
          inside = omega (arith, d.inside, c.inside);
          gives = d.gives;
          before = λ i j h k o. elim o [
            | inl l ↦ (first_none (f i) (suc i) (n - suc i)).0 (c.before i (omega arith) l) j h (omega arith)
            | inr p ↦ rw p.0 (d.before j (omega (arith, p.0)) p.1)
          ];
        }

  -- ---- three loops

  pub record FoundTriple (f : ℕ → ℕ → ℕ → Option A) (n : ℕ) (a : A) : Type 0 where
    pub one : ℕ
    pub two : ℕ
    pub three : ℕ
    pub order : (one < two) × (two < three)
    pub inside : three < n
    pub gives : f one two three ≡ some a
    pub before : (i j k : ℕ) → i < j → j < k → k < n → Earlier i j one two ⊎ ((i ≡ one) × (j ≡ two) × (k < three)) → f i j k ≡ none

  module _ (f : ℕ → ℕ → ℕ → Option A) (n : ℕ) where
    pub triple_none : (first_triple f n ≡ none) ↔ ((i j k : ℕ) → i < j → j < k → k < n → f i j k ≡ none)
    unfolding first_triple
    triple_none = (
      λ e i j k h l m. (first_none (f i j) (suc j) (n - suc j)).0 ((pair_none (λ i j. first (f i j) (suc j) (n - suc j)) n).0 e i j h (omega arith)) k l (omega arith),
      λ g. (pair_none (λ i j. first (f i j) (suc j) (n - suc j)) n).1 (λ i j h k. (first_none (f i j) (suc j) (n - suc j)).1 (λ k l m. g i j k h l (omega arith))),
    )

    pub triple_some : (a : A) → first_triple f n ≡ some a → FoundTriple f n a
    unfolding first_triple
    triple_some a e =
        let c = pair_some (λ i j. first (f i j) (suc j) (n - suc j)) n a e in
        let d = first_some (f c.one c.two) (suc c.two) (n - suc c.two) a c.gives in
        record {
          one = c.one;
          two = c.two;
          three = d.place;
          order = (c.order, d.after);
          inside = omega (arith, d.inside, c.inside);
          gives = d.gives;
          before = λ i j k h l m o. elim o [
            | inl p ↦ (first_none (f i j) (suc j) (n - suc j)).0 (c.before i j h (omega arith) p) k l (omega arith)
            | inr p ↦ rw (p.0, p.1) (d.before k (omega (arith, p.1)) p.2)
          ];
        }
