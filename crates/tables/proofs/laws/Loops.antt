-- Loops: a search in a loop. At i, what is left of it is `first f i (n - i)`.
use Prim.Native.Nat.{ℕ, zero, suc, ◌+◌, ◌-◌, ◌≤◌, ◌<◌}
use native.Mathlib.Omega.{arith}
use native.Mathlib.Nat.{add-zero, zero-add, add-suc, suc-add}
use native.Mathlib.Numerals.{add-one}
use mathlib.Core.Path.{◌≡◌, refl, sym}
use mathlib.Core.Logic.{inl, inr}
use mathlib.Core.Option.{Option, none, some}
use Rattle.meaning.specs.Closed.{or_else, first}
use Rattle.meaning.proofs.Search.{first_none}
use Rattle.meaning.proofs.Tests.{lt_or_le}

module _ {A : Type 0} (f : ℕ → Option A) (n i : ℕ) where
  pub first_end : n ≤ i → first f i (n - i) ≡ none
  unfolding first
  first_end h = let z : n - i ≡ 0 = omega arith in rw z

  pub first_step : i < n → first f i (n - i) ≡ or_else (f i) (first f (i + 1) (n - (i + 1)))
  unfolding first
  first_step h = let z : n - i ≡ suc (n - (i + 1)) = omega arith in rw (z, add-one)

  pub first_hit : (a : A) → i < n → f i ≡ some a → first f i (n - i) ≡ some a
  unfolding or_else
  first_hit a h e = rw (first_step h, e)

  pub first_miss : i < n → f i ≡ none → first f i (n - i) ≡ first f (i + 1) (n - (i + 1))
  unfolding or_else
  first_miss h e = rw (first_step h, e)

-- ---- what a search from s up to e finds

module _ {A : Type 0} (f : ℕ → Option A) where
  first_at : (s n i : ℕ) (a : A) → s ≤ i → i < s + n → f i ≡ some a → ((k : ℕ) → s ≤ k → k < i → f k ≡ none) → first f s n ≡ some a
  unfolding first or_else
  first_at s zero i a h k e b = absurd (omega arith)
  first_at s (suc n) i a h k e b = elim (lt_or_le s i) [
    | inl l ↦ rw (b s (omega arith) l) (first_at (suc s) n i a l (omega arith) e (λ j p q. b j (omega arith) q))
    | inr l ↦ let z : s ≡ i = omega arith in rw (z, e)
  ]

  module _ (s e : ℕ) where
    abbrev pub Finds : Option A → Type 0
    Finds none = (k : ℕ) → s ≤ k → k < e → f k ≡ none
    Finds (some a) = (i : ℕ) × (s ≤ i) × (i < e) × (f i ≡ some a) × ((k : ℕ) → s ≤ k → k < i → f k ≡ none)

    pub finds : (o : Option A) → Finds o → o ≡ first f s (e - s)
    finds none h = sym ((first_none f s (e - s)).1 (λ k b c. h k b (omega arith)))
    finds (some a) h = sym (first_at s (e - s) h.0 a h.1 (omega (arith, h.1, h.2)) h.3 h.4)

pub or_else_nothing : {A : Type 0} (o : Option A) → or_else o none ≡ o
unfolding or_else
or_else_nothing none = refl
or_else_nothing (some a) = refl

or_else_more : {A : Type 0} (o p q : Option A) → or_else o (or_else p q) ≡ or_else (or_else o p) q
unfolding or_else
or_else_more none p q = refl
or_else_more (some a) p q = refl

-- a search in two parts
pub first_parts : {A : Type 0} (f g : ℕ → Option A) (s t m n : ℕ) → ((i : ℕ) → i < m → g (t + i) ≡ f (s + i))
    → first f s (m + n) ≡ or_else (first g t m) (first f (s + m) n)
unfolding first or_else
first_parts f g s t zero n h = rw (zero-add, add-zero)
first_parts f g s t (suc m) n h =
    let e : suc m + n ≡ suc (m + n) = omega arith in
    let d : s + suc m ≡ suc s + m = omega arith in
    let z : g t ≡ f s = rw (add-zero t, add-zero s) at (h 0 (omega arith)) in
    rw (e, d, z, first_parts f g (suc s) (suc t) m n (λ i b. rw (suc-add t i, suc-add s i, ← add-suc t i, ← add-suc s i) (h (suc i) (omega arith)))) (or_else_more (f s) (first g (suc t) m) (first f (suc s + m) n))
