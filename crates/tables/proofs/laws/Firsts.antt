-- Firsts: what it says that no value is too high and no row too low, or that one is the first.
use Prim.Native.Nat.{ℕ, suc, ◌+◌, ◌%◌, ◌-◌, ◌≤◌, ◌<◌}
use native.Mathlib.Omega.{arith}
use mathlib.Core.Path.{◌≡◌, refl, sym}
use mathlib.Core.Logic.{◌↔◌, inl, inr}
use mathlib.Core.Bool.{Bool}
use mathlib.Core.List.{List}
use mathlib.Core.Option.{none, some}
use lib.Dec.{T, ltb, ltb→lt, lt→ltb}
use lib.ListN.{length}
use Rattle.meaning.proofs.Tests.{lt_or_le}
use Rattle.meaning.specs.Rows.{Row, Sizes, at, row, before, ascending}
use Rattle.meaning.specs.Closed.{first, unless}
use Rattle.meaning.proofs.Search.{unless_none, unless_some, first_none, first_some}
use Rattle.meaning.proofs.Members.{ascending_next}
use Rattle.meaning.proofs.Sound.{ascending_of}
use Rattle.tables.specs.declared.Flaw.{Flaw}
use Rattle.tables.specs.declared.Flaw.TheVariants.{Value, Order}
use Rattle.tables.specs.Check.{try_high, first_high, try_low, first_low}

not_less : (a b : ℕ) → (¬ T (ltb a b)) → b ≤ a
not_less a b n = elim (lt_or_le a b) [ inl h ↦ absurd (n (lt→ltb a b h)) | inr h ↦ h ]

-- ---- a search for the first number that fails a test

module _ {A : Type 0} (test : ℕ → Bool) (g : ℕ → A) where
  pub record Fails (s n : ℕ) (a : A) : Type 0 where
    pub place : ℕ
    pub after : s ≤ place
    pub inside : place < s + n
    pub fails : ¬ T (test place)
    pub gives : g place ≡ a
    pub before : (j : ℕ) → s ≤ j → j < place → T (test j)

  fails_none : (s n : ℕ) → (first (λ k. unless (test k) (g k)) s n ≡ none) ↔ ((k : ℕ) → s ≤ k → k < s + n → T (test k))
  fails_none s n = (
    λ e k h i. (unless_none (test k) (g k)).0 ((first_none (λ k. unless (test k) (g k)) s n).0 e k h i),
    λ f. (first_none (λ k. unless (test k) (g k)) s n).1 (λ k h i. (unless_none (test k) (g k)).1 (f k h i)),
  )

  fails_some : (s n : ℕ) (a : A) → first (λ k. unless (test k) (g k)) s n ≡ some a → Fails s n a
  fails_some s n a e =
      let c = first_some (λ k. unless (test k) (g k)) s n a e in
      let (t, v) = unless_some (test c.place) (g c.place) a c.gives in
      record {
        place = c.place;
        after = c.after;
        inside = c.inside;
        fails = t;
        gives = v;
        before = λ j h i. (unless_none (test j) (g j)).0 (c.before j h i);
      }

-- ---- 4: values

-- the value at place p is below its setting's size
abbrev pub Below : Sizes → List ℕ → ℕ → Type 0
Below ns table p = at table p < at ns (p % length ns)

-- the first that is not
pub record High (ns : Sizes) (table : List ℕ) (p : ℕ) : Type 0 where
  pub inside : p < length table
  pub high : at ns (p % length ns) ≤ at table p
  pub before : (q : ℕ) → q < p → Below ns table q

module _ (ns : Sizes) (table : List ℕ) where
  abbrev is_below : ℕ → Bool
  is_below p = ltb (at table p) (at ns (p % length ns))

  pub high_none : (first_high ns table ≡ none) ↔ ((p : ℕ) → p < length table → Below ns table p)
  unfolding first_high try_high
  high_none = (
    λ e p h. ltb→lt _ _ ((fails_none is_below Value 0 (length table)).0 e p (omega arith) (omega arith)),
    λ f. (fails_none is_below Value 0 (length table)).1 (λ p g h. lt→ltb _ _ (f p (omega arith))),
  )

  pub high_some : (f : Flaw) → first_high ns table ≡ some f → (p : ℕ) × (f ≡ Value p) × High ns table p
  unfolding first_high try_high
  high_some f e =
      let c = fails_some is_below Value 0 (length table) f e in (
        c.place,
        sym c.gives,
        record {
          inside = omega (arith, c.inside);
          high = not_less _ _ c.fails;
          before = λ q h. ltb→lt _ _ (c.before q (omega arith) h);
        },
      )

-- ---- 5: the order of rows

-- the first row that is not above the one before it
pub record Low (rows : List Row) (k : ℕ) : Type 0 where
  pub inside : k < length rows
  pub low : (j : ℕ) × (k ≡ suc j) × ¬ T (before (row rows j) (row rows k))
  pub before : (j : ℕ) → suc j < k → T (before (row rows j) (row rows (suc j)))

module _ (rows : List Row) where
  abbrev pub is_next : ℕ → Bool
  is_next k = before (row rows k) (row rows (suc k))

  pub low_none : (first_low rows ≡ none) ↔ T (ascending rows)
  unfolding first_low try_low
  low_none = (
    λ e. ascending_of rows (λ k h. (fails_none is_next (λ k. Order (suc k)) 0 (length rows - 1)).0 e k (omega arith) (omega arith)),
    λ t. (fails_none is_next (λ k. Order (suc k)) 0 (length rows - 1)).1 (λ k g h. ascending_next rows k t (omega arith)),
  )

  pub low_some : (f : Flaw) → first_low rows ≡ some f → (k : ℕ) × (f ≡ Order k) × Low rows k
  unfolding first_low try_low
  low_some f e =
      let c = fails_some is_next (λ k. Order (suc k)) 0 (length rows - 1) f e in (
        suc c.place,
        sym c.gives,
        record {
          inside = omega (arith, c.inside);
          low = (c.place, refl, c.fails);
          before = λ j h. c.before j (omega arith) (omega arith);
        },
      )
