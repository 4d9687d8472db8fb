-- Check: what is wrong with a table. Refusals 1 to 5 of document 01, in their order, with their numbers and values.
use Rattle.std.specs.Prelude.{Result, Ok, Err, ℕ, suc, ◌/◌, ◌%◌, ◌-◌, ◌≤◌, ◌*◌, List, [], ◌∷◌, ◌≡◌, leb, ltb, eqb, T, length}
use Rattle.std.proofs.Math.Option.{Option, none, some}
use Rattle.meaning.specs.Rows.{Row, Sizes, alike, at, row, before, rows_of, sound, limits, Limited}
use Rattle.meaning.specs.Closed.{or_else, first, unless}
use Rattle.tables.specs.declared.Flaw.{Flaw}
use Rattle.tables.specs.declared.Flaw.TheVariants.{Limits, Length, Rows, Value, Order}

abbrev pub number_of : Flaw → ℕ
number_of Limits = 1
number_of Length = 2
number_of (Rows k) = 3
number_of (Value p) = 4
number_of (Order k) = 5

-- what the refusal gives also
abbrev pub values_of : Flaw → List ℕ
values_of Limits = []
values_of Length = []
values_of (Rows k) = k ∷ []
values_of (Value p) = p ∷ []
values_of (Order k) = k ∷ []

-- 4: the value at place p is not below its setting's size
unfoldable pub try_high : Sizes → List ℕ → ℕ → Option Flaw
try_high ns table p = unless (ltb (at table p) (at ns (p % length ns))) (Value p)

unfoldable pub first_high : Sizes → List ℕ → Option Flaw
first_high ns table = first (try_high ns table) 0 (length table)

-- 5: the row after row k is not above it
unfoldable pub try_low : List Row → ℕ → Option Flaw
try_low rows k = unless (before (row rows k) (row rows (suc k))) (Order (suc k))

unfoldable pub first_low : List Row → Option Flaw
first_low rows = first (try_low rows) 0 (length rows - 1)

-- 4 before 5, wherever they stand
unfoldable pub row_flaw_of : Sizes → List ℕ → Option Flaw
row_flaw_of ns table = or_else (first_high ns table) (first_low (rows_of (length ns) table))

-- the first flaw of a table over the sizes: 2 to 5, each only where none before it is found
unfoldable pub flaw_of : Sizes → List ℕ → Option Flaw
flaw_of ns table =
    or_else (unless (eqb (length table % length ns) 0) Length)
    (or_else (unless (leb (length table / length ns) 512) (Rows (length table / length ns)))
    (row_flaw_of ns table))

-- success gives the number of rows
abbrev pub answer : ℕ → Option Flaw → Result ℕ Flaw
answer k none = Ok k
answer k (some f) = Err f

unfoldable pub checked_of : ℕ → ℕ → List ℕ → Result ℕ Flaw
checked_of n l table = answer (length table / l) (or_else (unless (limits n l) Limits) (flaw_of (alike n l) table))

-- a table that passes all five, of k rows
pub record Passes (n l : ℕ) (table : List ℕ) (k : ℕ) : Type 0 where
  pub limited : Limited n l
  pub whole : length table ≡ k * l
  pub few : k ≤ 512
  pub rows_sound : T (sound (alike n l) (rows_of l table))
