-- Rows: the rows of a table, gone through l bytes after l.
use Prim.Native.Nat.{ℕ, suc, ◌+◌, ◌-◌, ◌/◌, ◌≤◌, ◌<◌}
use native.Mathlib.Omega.{arith}
use native.Mathlib.Nat.{div-eq-sub-div, div-eq_of_lt}
use native.Mathlib.Numerals.{add-one}
use mathlib.Core.Path.{◌≡◌, ◌∙◌}
use mathlib.Core.List.{List, [], ◌∷◌, ◌++◌}
use lib.ListN.{length, length-append}
use Rattle.std.proofs.lemmas.List.{take_at, drop_at}
use Rattle.meaning.specs.Rows.{rows_in, rows_of}

-- the first l bytes are the first row
pub rows_first : {l : ℕ} (x t : List ℕ) → 0 < l → length x ≡ l → rows_of l (x ++ t) ≡ x ∷ rows_of l t
unfolding rows_in
rows_first {l} x t pos e =
    let more : l + length t - l ≡ length t = omega arith in
    let h : l ≤ l + length t = omega arith in
    let n : length (x ++ t) / l ≡ suc (length t / l) = rw (length-append x t, e) (div-eq-sub-div pos h ∙ rw (more, add-one)) in
    rw (n, take_at x t l (omega (arith, e)), drop_at x t l (omega (arith, e)))

-- fewer are none
pub rows_over : {l : ℕ} (t : List ℕ) → length t < l → rows_of l t ≡ []
unfolding rows_in
rows_over t h = rw (div-eq_of_lt h)

pub rows_on : {l : ℕ} {rest : List ℕ} (x t : List ℕ) → 0 < l → rest ≡ x ++ t → length x ≡ l → rows_of l rest ≡ x ∷ rows_of l t
rows_on x t pos e n = rw e (rows_first x t pos n)
