-- Flat: the rows of a table as they stand in its bytes. Row k is the l bytes from k * l on.
use Prim.Native.Nat.{ℕ, zero, suc, ◌+◌, ◌*◌, ◌/◌, ◌≤◌, ◌<◌}
use native.Mathlib.Omega.{arith}
use native.Mathlib.Nat.{add_comm, div-add-mod', div-eq_of_eq-mul_left, mul-le-mul_right, suc-mul, zero-mul}
use mathlib.Core.Path.{◌≡◌, refl, ap, ◌∙◌}
use mathlib.Core.List.{List}
use lib.ListN.{length, take, drop, length-take, length-drop}
use lib.Seq.{drop-drop, get_or-take, get_or-drop}
use Rattle.meaning.specs.Rows.{at, row, rows_in, rows_of}

pub rows_in_length : (l : ℕ) (table : List ℕ) (count : ℕ) → length (rows_in l table count) ≡ count
unfolding rows_in
rows_in_length l table zero = refl
rows_in_length l table (suc count) = ap suc (rows_in_length l (drop l table) count)

pub rows_in_row : (l : ℕ) (table : List ℕ) (count k : ℕ) → k < count → row (rows_in l table count) k ≡ take l (drop (k * l) table)
unfolding rows_in
rows_in_row l table zero k h = absurd (omega arith)
rows_in_row l table (suc count) zero h = rw zero-mul
rows_in_row l table (suc count) (suc k) h =
    rows_in_row l (drop l table) count k (omega arith) ∙ rw (drop-drop, suc-mul, add_comm l)

module _ (l : ℕ) (table : List ℕ) where
  pub rows_count : length (rows_of l table) ≡ length table / l
  rows_count = rows_in_length l table (length table / l)

  module _ (k : ℕ) (known : k < length table / l) where
    pub row_bytes : row (rows_of l table) k ≡ take l (drop (k * l) table)
    row_bytes = rows_in_row l table (length table / l) k known

    -- it ends within the table
    pub row_ends : k * l + l ≤ length table
    row_ends = omega (arith, div-add-mod' (length table) l, mul-le-mul_right l known, suc-mul k l)

    pub row_length : length (row (rows_of l table) k) ≡ l
    row_length = rw row_bytes (simp (length-take, length-drop) (omega (arith, row_ends)))

    pub row_at : (i : ℕ) → i < l → at (row (rows_of l table) k) i ≡ at table (k * l + i)
    row_at i h = rw (row_bytes, get_or-take, get_or-drop)

-- a table of k whole rows
pub rows_whole : (l : ℕ) (table : List ℕ) (k : ℕ) → 0 < l → length table ≡ k * l → length table / l ≡ k
rows_whole l table k h e = div-eq_of_eq-mul_left h e
