-- Given: what holds of every source of rules.
use Rattle.std.specs.Prelude.{ℕ, ◌≤◌, ◌/◌, ◌≡◌, List, length, T}
use Rattle.meaning.specs.Rows.{Sizes, rows_of, sound}

-- a sound table of so many rows over the sizes
pub record Given (ns : Sizes) (table : List ℕ) (rows : ℕ) : Type 0 where
  pub some : 1 ≤ length ns
  pub few : length ns ≤ 16
  pub count : rows ≡ length table / length ns
  pub most : rows ≤ 512
  pub right : T (sound ns (rows_of (length ns) table))
