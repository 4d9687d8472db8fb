-- Flaws: a table over sizes has no flaw just where it is sound and of no more than 512 rows, and each flaw shows where it is.
use Prim.Native.Nat.{ℕ, ◌+◌, ◌*◌, ◌/◌, ◌%◌, ◌≤◌, ◌<◌}
use native.Mathlib.Omega.{arith}
use native.Mathlib.Nat.{mod-lt, mod-eq_of_lt, mul-add-mod_self_right, div-add-mod', div-lt_iff_lt-mul}
use mathlib.Core.Path.{◌≡◌, refl, sym, ◌∙◌}
use mathlib.Core.Logic.{◌↔◌, ◌≢◌}
use mathlib.Core.List.{List}
use mathlib.Core.Option.{Option, none, some}
use lib.Dec.{T, leb, eqb}
use lib.ListN.{length}
use borrow.Author.Tests.{leb-true, leb-false, eqb-true, eqb-false, le-leb, eq-eqb}
use Rattle.meaning.proofs.Tests.{Case, is, isnt, case, and_l, and_r, and_i}
use Rattle.meaning.specs.Rows.{Row, Sizes, at, row, ascending, all_within, sound, rows_of}
use Rattle.meaning.specs.Closed.{or_else, unless}
use Rattle.meaning.proofs.Search.{none_some, or_else_none}
use Rattle.meaning.proofs.Members.{within_at, within_of, row_mem, all_within_mem}
use Rattle.meaning.proofs.Sound.{all_within_of}
use Rattle.meaning.proofs.Flat.{rows_count, row_length, row_at, row_ends}
use Rattle.tables.specs.declared.Flaw.{Flaw}
use Rattle.tables.specs.declared.Flaw.TheVariants.{Limits, Length, Rows, Value, Order}
use Rattle.tables.specs.Check.{first_high, first_low, row_flaw_of, flaw_of}
use Rattle.tables.proofs.laws.Firsts.{Below, High, high_none, high_some, Low, low_none, low_some}

-- past refusals 2 and 3: whole rows, and no more than 512
pub record Counted (ns : Sizes) (table : List ℕ) : Type 0 where
  pub whole : length table % length ns ≡ 0
  pub few : length table / length ns ≤ 512

-- what a flaw shows; 1 is no matter of the table
abbrev pub Shows : Sizes → List ℕ → Flaw → Type 0
Shows ns table Limits = ⊥
Shows ns table Length = length table % length ns ≢ 0
Shows ns table (Rows k) = (length table ≡ k * length ns) × (512 < k)
Shows ns table (Value p) = Counted ns table × High ns table p
Shows ns table (Order k) = Counted ns table × ((p : ℕ) → p < length table → Below ns table p) × Low (rows_of (length ns) table) k

module _ (ns : Sizes) (table : List ℕ) (wide : 0 < length ns) where
  abbrev rows : List Row
  rows = rows_of (length ns) table

  -- ---- all values below their sizes, by place and by row

  below_row : ((p : ℕ) → p < length table → Below ns table p)
      → (k : ℕ) → k < length table / length ns → (i : ℕ) → i < length ns → at (row rows k) i < at ns i
  below_row f k g i h =
      let e : (k * length ns + i) % length ns ≡ i = mul-add-mod_self_right k (length ns) i ∙ mod-eq_of_lt h in
      rw (row_at (length ns) table k g i h)
      (rw e at (f (k * length ns + i) (omega (arith, row_ends (length ns) table k g))))

  below_place : length table % length ns ≡ 0 → T (all_within ns rows) → (p : ℕ) → p < length table → Below ns table p
  below_place whole t p h =
      let g : p / length ns < length table / length ns = (div-lt_iff_lt-mul wide).1 (omega (arith, div-add-mod' (length table) (length ns))) in
      let i : p % length ns < length ns = mod-lt p wide in
      let m = all_within_mem ns rows (row rows (p / length ns)) t (row_mem rows (p / length ns) (omega (arith, rows_count (length ns) table))) in
      rw (row_at (length ns) table (p / length ns) g (p % length ns) i, div-add-mod' p (length ns))
      at (within_at ns (row rows (p / length ns)) m (p % length ns) i)

  pub values_within : length table % length ns ≡ 0 → ((p : ℕ) → p < length table → Below ns table p) ↔ T (all_within ns rows)
  values_within whole = (
    λ f. all_within_of ns rows (λ k h.
        let g : k < length table / length ns = omega (arith, rows_count (length ns) table) in
        within_of ns (row rows k) (row_length (length ns) table k g) (below_row f k g)),
    below_place whole,
  )

  -- ---- the first flaw

  pub flaw_none : (flaw_of ns table ≡ none) ↔ (Counted ns table × T (sound ns rows))
  unfolding flaw_of row_flaw_of unless or_else sound
  flaw_none = (λ e. go e (case (eqb (length table % length ns) 0)) (case (leb (length table / length ns) 512)), back)
    where
      go : flaw_of ns table ≡ none → Case (eqb (length table % length ns) 0) → Case (leb (length table / length ns) 512) → Counted ns table × T (sound ns rows)
      go e (isnt a) b = absurd (none_some (sym (rw a at e)))
      go e (is a) (isnt b) = absurd (none_some (sym (rw (a, b) at e)))
      go e (is a) (is b) =
          let w = eqb-true _ _ a in
          let (p, q) = or_else_none (first_high ns table) (first_low rows) (rw (a, b) at e) in
          (record { whole = w; few = leb-true _ _ b }, and_i (all_within ns rows) (ascending rows) ((values_within w).0 ((high_none ns table).0 p)) ((low_none rows).0 q))

      back : Counted ns table × T (sound ns rows) → flaw_of ns table ≡ none
      back (c, t) = rw (
        eq-eqb _ 0 c.whole,
        le-leb _ 512 c.few,
        (high_none ns table).1 ((values_within c.whole).1 (and_l (all_within ns rows) (ascending rows) t)),
        (low_none rows).1 (and_r (all_within ns rows) (ascending rows) t),
      )

  pub flaw_some : (f : Flaw) → flaw_of ns table ≡ some f → Shows ns table f
  unfolding flaw_of row_flaw_of unless or_else
  flaw_some f e = go e (case (eqb (length table % length ns) 0)) (case (leb (length table / length ns) 512))
    where
      -- the values, then the order
      values : Counted ns table → (o : Option Flaw) → first_high ns table ≡ o → or_else o (first_low rows) ≡ some f → Shows ns table f
      values c (some g) h e =
          let (p, v, t) = high_some ns table f (h ∙ e) in
          rw v (c, t)
      values c none h e =
          let (k, v, t) = low_some rows f e in
          rw v (c, (high_none ns table).0 h, t)

      go : flaw_of ns table ≡ some f → Case (eqb (length table % length ns) 0) → Case (leb (length table / length ns) 512) → Shows ns table f
      go e (isnt a) b = let z : f ≡ Length = cc (rw a at e) in rw z (eqb-false _ _ a)
      go e (is a) (isnt b) =
          let z : f ≡ Rows (length table / length ns) = cc (rw (a, b) at e) in
          let w = eqb-true (length table % length ns) 0 a in
          rw z (omega (arith, div-add-mod' (length table) (length ns)), leb-false _ _ b)
      go e (is a) (is b) = values (record { whole = eqb-true _ _ a; few = leb-true _ _ b }) (first_high ns table) refl (rw (a, b) at e)
