-- Checking: the values row by row, where what is left of them decides; and the order of the rows.
use Prim.Native.Nat.{ℕ, suc, ◌+◌, ◌*◌, ◌/◌, ◌%◌, ◌-◌, ◌≤◌, ◌<◌}
use native.Mathlib.Omega.{arith}
use native.Mathlib.Nat.{zero-add, sub-zero, zero-mul, add-mul, suc-mul, mul-add-mod_self_right, mod-eq_of_lt, div-lt_iff_lt-mul, div-add-mod', le-div_iff_mul-le}
use native.Mathlib.Numerals.{add-one}
use mathlib.Core.Path.{◌≡◌, refl, sym, ap, ◌∙◌}
use mathlib.Core.Bool.{true, false, true≢false}
use mathlib.Core.List.{List, ◌++◌}
use mathlib.Core.Option.{Option, none, some}
use Rattle.std.specs.Prelude as std
use Rattle.std.specs.Prelude.{Result, Some, None, Ok, Err, IfSome, MatchOption}
use Rattle.std.specs.Result.{is_ok}
use lib.Dec.{ltb}
use Rattle.std.proofs.lemmas.List.{length-append, length-drop, take_at, drop_at, drop-drop}
use Rattle.std.specs.List.{zip, AllWithin, HoldsAt}
use Rattle.std.proofs.lemmas.Slice.Zip.{length-zip, get_or-zip}
use lib.ListN.{length, get_or, drop}
use borrow.Author.Tests.{lt-ltb, le-ltb}
use Rattle.meaning.specs.Rows.{Row, Sizes, at, row, rows_of}
use Rattle.meaning.specs.Closed.{or_else, first, unless}
use Rattle.meaning.proofs.Flat.{row_bytes, row_at}
use Rattle.tables.specs.declared.Flaw.{Flaw}
use Rattle.tables.specs.declared.Flaw.TheVariants.{Value, Order}
use Rattle.tables.specs.Check.{try_high, first_high, try_low, first_low, row_flaw_of, answer}
use Rattle.tables.specs.Inner.{value_flaw, passed_of}
use Rattle.tables.proofs.laws.Firsts.{is_next}
use Rattle.tables.proofs.laws.Loops.{finds, first_end, first_parts}

-- ---- the values of one row

module _ (ns : Sizes) (x : Row) (start : ℕ) (same : length x ≡ length ns) where
  abbrev pub pairs : List (ℕ × ℕ)
  pairs = zip x ns

  long : length pairs ≡ length ns
  long = length-zip x ns ∙ omega (arith, same)

  pair : (i : ℕ) → i < length ns → get_or pairs i (0, 0) ≡ (at x i, at ns i)
  pair i h = get_or-zip x ns i (0, 0) (omega (arith, same)) h

  try : ℕ → Option Flaw
  try i = unless (ltb (at x i) (at ns i)) (Value (start + i))

  below : (n : ℕ) → n ≤ length ns → AllWithin (λ p. p.0 < p.1) pairs 0 n → (k : ℕ) → 0 ≤ k → k < n → try k ≡ none
  unfolding try unless
  below n g h k b c = rw (lt-ltb (at x k) (at ns k) (rw (pair k (omega arith)) at (h k (0, 0) b c)))

  -- what the search for a value that is not below its size gives
  pub value_found : (r : std.Option ℕ) → MatchOption r (AllWithin (λ p. p.0 < p.1) pairs 0 (length pairs))
      (λ i. (i < length pairs) × HoldsAt (λ p. p.1 ≤ p.0) pairs i × AllWithin (λ p. p.0 < p.1) pairs 0 i)
      → MatchOption r (Ok tt ≡ passed_of (value_flaw ns x start)) (λ i. Err (Value (start + i)) ≡ passed_of (value_flaw ns x start))
  unfolding value_flaw try unless
  value_found None h = ap passed_of (rw sub-zero at (finds try 0 (length ns) none (below (length ns) (omega arith) (rw long at h))))
  value_found (Some i) h =
      let g : i < length ns = omega (arith, h.0, long) in
      ap passed_of (rw sub-zero at (finds try 0 (length ns) (some (Value (start + i))) (
        i,
        omega arith,
        g,
        rw (le-ltb (at x i) (at ns i) (rw (pair i g) at (h.1 (0, 0)))),
        below i (omega arith) h.2,
      )))

-- ---- the values of all rows: k rows are passed, and `rest` is left

found : (v : Result (Unit {0}) Flaw) (o : Option Flaw) → v ≡ passed_of o → (f : Flaw) → v ≡ Err f → o ≡ some f
found v none e f g = absurd (true≢false (ap is_ok (sym e ∙ g)))
found v (some h) e f g = let z : h ≡ f = cc in rw z

nothing : (v : Result (Unit {0}) Flaw) (o : Option Flaw) → v ≡ passed_of o → v ≡ Ok tt → o ≡ none
nothing v none e g = refl
nothing v (some h) e g = absurd (true≢false (ap is_ok (sym g ∙ e)))

module _ (ns : Sizes) (table : List ℕ) where
  abbrev pub l : ℕ
  l = length ns

  abbrev pub rows : List Row
  rows = rows_of (length ns) table

  unfoldable pub high_from : ℕ → Option Flaw
  high_from p = first (try_high ns table) p (length table - p)

  pub record Checking (k : ℕ) (rest : List ℕ) : Type 0 where
    pub wide : 0 < l
    pub whole : length table % l ≡ 0
    pub place : rest ≡ drop (k * l) table
    pub inside : k * l ≤ length table
    pub high : first_high ns table ≡ high_from (k * l)

  pub checking_start : 0 < l → length table % l ≡ 0 → (k : ℕ) (rest : List ℕ) → k ≡ 0 → rest ≡ table → Checking k rest
  unfolding first_high high_from
  checking_start h e k rest z f = rw (z, f) (record { wide = h; whole = e; place = rw zero-mul; inside = omega arith; high = rw (zero-mul, sub-zero) })

  module _ {k : ℕ} {rest : List ℕ} (c : Checking k rest) where
    left : length rest ≡ length table - k * l
    left = rw c.place (length-drop (k * l) table)

    -- the next row
    module _ (y t : List ℕ) (e : rest ≡ y ++ t) (long : length y ≡ l) where
      ends : k * l + l ≤ length table
      ends =
          let s : length (y ++ t) ≡ length y + length t = length-append y t in
          omega (arith, left, ap length e, s, long, c.inside)

      known : k < length table / l
      known = (le-div_iff_mul-le c.wide).1 (omega (arith, ends, suc-mul k l))

      parts : drop (k * l) table ≡ y ++ t
      parts = sym c.place ∙ e

      is_row : y ≡ row rows k
      is_row = rw (row_bytes l table k known, parts) (sym (take_at y t l long))

      next : t ≡ drop ((k + 1) * l) table
      next = rw (add-one, suc-mul k l, ← drop-drop, parts) (sym (drop_at y t l long))

      -- what is found from this row on is found in it, or else in the rest
      value_is : (i : ℕ) → i < l → unless (ltb (at y i) (at ns i)) (Value (k * l + i)) ≡ try_high ns table (k * l + i)
      unfolding try_high
      value_is i h =
          let m : (k * l + i) % l ≡ i = mul-add-mod_self_right k l i ∙ mod-eq_of_lt h in
          rw (m, is_row, row_at l table k known i h)

      here : high_from (k * l) ≡ or_else (value_flaw ns y (k * l)) (high_from ((k + 1) * l))
      unfolding high_from value_flaw
      here =
          let e : length table - k * l ≡ l + (length table - (k * l + l)) = omega (arith, ends) in
          rw (e, add-one, suc-mul k l) (first_parts (try_high ns table) _ (k * l) 0 l (length table - (k * l + l)) (λ i h. rw (zero-add i) (value_is i h)))

      module _ (v : Result (Unit {0}) Flaw) (told : v ≡ passed_of (value_flaw ns y (k * l))) where
        pub checking_high : (f : Flaw) → v ≡ Err f → Err f ≡ passed_of (first_high ns table)
        unfolding or_else
        checking_high f e = rw (c.high, here, found v (value_flaw ns y (k * l)) told f e)

        pub checking_on : v ≡ Ok tt → Checking (k + 1) t
        unfolding or_else
        checking_on e = record {
          wide = c.wide;
          whole = c.whole;
          place = next;
          inside = omega (arith, ends, add-mul k 1 l);
          high = c.high ∙ here ∙ rw (nothing v (value_flaw ns y (k * l)) told e);
        }

    -- the end
    pub checking_end : length rest < l → Ok tt ≡ passed_of (first_high ns table)
    unfolding high_from
    checking_end short =
        let h : length table < suc k * l = omega (arith, left, short, suc-mul k l) in
        let all : length table / l ≡ k = omega (arith, (div-lt_iff_lt-mul c.wide).1 h, (le-div_iff_mul-le c.wide).1 c.inside) in
        let over : length table ≤ k * l = omega (arith, rw all at (div-add-mod' (length table) l), c.whole) in
        rw (c.high, first_end (try_high ns table) (length table) (k * l) over)

-- ---- the order of the rows

-- what the search for a row that the next is not above gives
module _ (rows : List Row) where
  pub low_found : (n : ℕ) → n ≡ length rows - 1 → (r : std.Option ℕ) → MatchOption r ((k : ℕ) → 0 ≤ k → k < n → is_next rows k ≡ true)
      (λ i. (0 ≤ i) × (i < n) × (is_next rows i ≡ false) × ((k : ℕ) → 0 ≤ k → k < i → is_next rows k ≡ true))
      → MatchOption r (Ok tt ≡ passed_of (first_low rows)) (λ i. Err (Order (i + 1)) ≡ passed_of (first_low rows))
  unfolding first_low try_low unless
  low_found n e None h = ap passed_of (rw (sub-zero, e) at (finds (try_low rows) 0 n none (λ k b c. rw (h k b c))))
  low_found n e (Some i) h =
      ap passed_of (rw (sub-zero, e) at (finds (try_low rows) 0 n (some (Order (i + 1))) (i, h.0, h.1, rw (h.2, add-one), λ k b c. rw (h.3 k b c))))

-- ---- values before order

module _ (ns : Sizes) (table : List ℕ) (k : ℕ) (v : Result (Unit {0}) Flaw) (told : v ≡ passed_of (first_high ns table)) where
  pub high_refused : (f : Flaw) → v ≡ Err f → Err f ≡ answer k (row_flaw_of ns table)
  unfolding row_flaw_of or_else
  high_refused f e = rw (found v (first_high ns table) told f e)

  module _ (passed : v ≡ Ok tt) (w : Result (Unit {0}) Flaw) (ordered : w ≡ passed_of (first_low (rows_of (length ns) table))) where
    pub low_refused : (f : Flaw) → w ≡ Err f → Err f ≡ answer k (row_flaw_of ns table)
    unfolding row_flaw_of or_else
    low_refused f e = rw (nothing v (first_high ns table) told passed, found w (first_low (rows_of (length ns) table)) ordered f e)

    pub rows_passed : w ≡ Ok tt → Ok k ≡ answer k (row_flaw_of ns table)
    unfolding row_flaw_of or_else
    rows_passed e = rw (nothing v (first_high ns table) told passed, nothing w (first_low (rows_of (length ns) table)) ordered e)
