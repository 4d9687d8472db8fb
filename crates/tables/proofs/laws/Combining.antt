-- Combining: two or three rows of a table are combined value by value into an array of sixteen.
use Prim.Native.Nat.{ℕ, zero, suc, ◌+◌, ◌*◌, ◌/◌, ◌-◌, ◌≤◌, ◌<◌, max}
use native.Mathlib.Omega.{arith}
use mathlib.Core.Path.{◌≡◌, refl, ◌∙◌}
use mathlib.Core.Bool.{Bool}
use mathlib.Core.List.{List}
use lib.ListN.{length, get_or, take, drop}
use lib.Seq.{take-suc}
use Rattle.std.proofs.lemmas.List.{length-take, length-drop}
use Rattle.meaning.specs.Rows.{Row, at, row, is_row, rows_of}
use Rattle.meaning.specs.Rules.{Side}
use Rattle.meaning.specs.Families.{fill, pick, mid, both, median}
use Rattle.meaning.proofs.Flat.{row_bytes, row_ends, row_length, rows_count}
use Rattle.tables.specs.Inner.{Ready, Known, pair_of, median_of}

-- ---- a row, where it stands

pub cut_out : (l : ℕ) (table : List ℕ) (i : ℕ) → i < length table / l
    → take (i * l + l - i * l) (drop (i * l) table) ≡ row (rows_of l table) i
cut_out l table i h =
    let e : i * l + l - i * l ≡ l = omega arith in
    rw (e, row_bytes l table i h)

pub cut_wide : (l : ℕ) (table : List ℕ) (i : ℕ) → i * l + l ≤ length table → length (take (i * l + l - i * l) (drop (i * l) table)) ≡ l
cut_wide l table i h = rw length-take (omega (arith, length-drop (i * l) table))

pub is_known : (l : ℕ) (table : List ℕ) (i : ℕ) → i < length table / l → Known l table i
is_known l table i h = record { known = h; ends = row_ends l table i h }

pub is_one : (l : ℕ) (table : List ℕ) (i : ℕ) → i < length (rows_of l table) → Known l table i
is_one l table i h = is_known l table i (omega (arith, rows_count l table))

-- ---- an array that is filled

-- its first n values are the row that `fill` gives
filled_row : (g : ℕ → ℕ) (out : List ℕ) (n : ℕ) → n ≤ length out → ((k : ℕ) → k < n → get_or out k 0 ≡ g k) → take n out ≡ fill g n
unfolding fill
filled_row g out zero h f = refl
filled_row g out (suc n) h f = rw (take-suc out n 0 (omega arith), filled_row g out n (omega arith) (λ k i. f k (omega arith)), f n (omega arith))

-- ---- the combined row in an array of sixteen, and whether it is a row

max-self : (n : ℕ) → max n n ≡ n
max-self n = omega arith

module _ (l : ℕ) (table : List ℕ) (q : Ready l table) (out : List ℕ) (long : length out ≡ 16) where
  abbrev pub rows : List Row
  rows = rows_of l table

  wide : (i : ℕ) → i < length rows → length (row rows i) ≡ l
  wide i h = row_length l table i (omega (arith, rows_count l table))

  module _ (i j : ℕ) (a : i < length rows) (b : j < length rows) where
    pub pair_found : (s : Side) → ((k : ℕ) → k < l → get_or out k 0 ≡ pick s (at (row rows i) k) (at (row rows j) k))
        → (r : Bool) → r ≡ is_row (take l out) rows → r ≡ is_row (pair_of s rows i j) rows
    unfolding both
    pair_found s f r e = e ∙ rw (filled_row _ out l (omega (arith, long, q.narrow)) f, wide i a, wide j b, max-self)

    pub median_found : (m : ℕ) → m < length rows → ((k : ℕ) → k < l → get_or out k 0 ≡ mid (at (row rows i) k) (at (row rows j) k) (at (row rows m) k))
        → (r : Bool) → r ≡ is_row (take l out) rows → r ≡ is_row (median_of rows i j m) rows
    unfolding median
    median_found m c f r e = e ∙ rw (filled_row _ out l (omega (arith, long, q.narrow)) f, wide i a, wide j b, wide m c, max-self, max-self)
