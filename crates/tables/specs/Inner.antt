-- Inner: the words that only inner contracts cite.
use Rattle.std.specs.Prelude as std
use Rattle.std.specs.Prelude.{Result, Ok, Err, Some, None, ℕ, ◌<◌, ◌+◌, ◌*◌, ◌/◌, ◌≤◌, suc, ◌-◌, List, [], ◌∷◌, ltb, T, length}
use Rattle.std.proofs.Math.Option.{Option, none, some}
use Rattle.meaning.specs.Rows.{Row, Sizes, at, ascending, rows_of, row}
use Rattle.meaning.specs.Rules.{Side}
use Rattle.meaning.specs.Families.{both, median}
use Rattle.meaning.specs.Closed.{first, try_pair, try_triple, unless}
use Rattle.tables.specs.declared.Open.{Open}
use Rattle.tables.specs.declared.Open.TheVariants.{Pair, Triple}
use Rattle.tables.specs.declared.Flaw.{Flaw}
use Rattle.tables.specs.declared.Flaw.TheVariants.{Value}

-- the rows of the table, l bytes each, ascend
pub record Rising (l : ℕ) (table : List ℕ) : Type 0 where
  pub wide : 0 < l
  pub rising : T (ascending (rows_of l table))

-- the rows ascend, and are no wider than the array
pub record Ready (l : ℕ) (table : List ℕ) : Type 0 where
  pub narrow : l ≤ 16
  pub ordered : Rising l table

-- row i is one of them
pub record Known (l : ℕ) (table : List ℕ) (i : ℕ) : Type 0 where
  pub known : i < length table / l
  pub ends : i * l + l ≤ length table

abbrev pub pair_of : Side → List Row → ℕ → ℕ → Row
pair_of s rows i j = both s (row rows i) (row rows j)

abbrev pub median_of : List Row → ℕ → ℕ → ℕ → Row
median_of rows i j m = median (row rows i) (row rows j) (row rows m)

-- the rows that the answer shows
abbrev pub shown : std.Option Open → Option (List ℕ)
shown None = none
shown (Some (Pair i j)) = some (i ∷ j ∷ [])
shown (Some (Triple i j k)) = some (i ∷ j ∷ k ∷ [])

unfoldable pub pair_after : Side → List Row → ℕ → Option (List ℕ)
pair_after s rows i = first (try_pair s rows i) (suc i) (length rows - suc i)

unfoldable pub triple_after : List Row → ℕ → ℕ → Option (List ℕ)
triple_after rows i j = first (try_triple rows i j) (suc j) (length rows - suc j)

unfoldable pub triples_after : List Row → ℕ → Option (List ℕ)
triples_after rows i = first (triple_after rows i) (suc i) (length rows - suc i)

-- the first value of the row that is not below its size, where the row stands from `start` on
unfoldable pub value_flaw : Sizes → Row → ℕ → Option Flaw
value_flaw ns x start = first (λ i. unless (ltb (at x i) (at ns i)) (Value (start + i))) 0 (length ns)

-- where nothing is found, all is well
abbrev pub passed_of : Option Flaw → Result (Unit {0}) Flaw
passed_of none = Ok tt
passed_of (some f) = Err f
