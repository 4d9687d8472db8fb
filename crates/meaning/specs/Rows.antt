-- Rows: the values of the settings, their sizes and limits, their order, and what makes a table sound.
use Rattle.std.specs.Prelude.{ℕ, zero, suc, ◌/◌, ◌≤◌, Bool, true, false, ◌&&◌, ◌||◌, List, [], ◌∷◌, ltb, eqb, leb, length, get_or, take, drop, replicate}

-- values, setting by setting: a row, a combination, or a prefix, which is the first few values of one
abbrev pub Row : Type 0
Row = List ℕ

-- how many values each setting has
abbrev pub Sizes : Type 0
Sizes = List ℕ

-- edition 1: one n serves all l settings
abbrev pub alike : ℕ → ℕ → Sizes
alike n l = replicate l n

-- the limits: n from 1 to 64, and l from 1 to 16
unfoldable pub limits : ℕ → ℕ → Bool
limits n l = (leb 1 n && leb n 64) && (leb 1 l && leb l 16)

-- the same as a fact
pub record Limited (n l : ℕ) : Type 0 where
  pub some : 1 ≤ n
  pub few : n ≤ 64
  pub wide : 1 ≤ l
  pub narrow : l ≤ 16

-- the value of a setting, counted from 0
abbrev pub at : Row → ℕ → ℕ
at x i = get_or x i 0

-- row number k, counted from 0
abbrev pub row : List Row → ℕ → Row
row rows k = get_or rows k []

-- a combination within the sizes: a value for each setting, below its size
unfoldable pub within : Sizes → Row → Bool
within [] [] = true
within [] (v ∷ x) = false
within (n ∷ ns) [] = false
within (n ∷ ns) (v ∷ x) = ltb v n && within ns x

-- a prefix within the sizes: the first few values of such a combination
unfoldable pub begins : Sizes → Row → Bool
begins ns [] = true
begins [] (v ∷ p) = false
begins (n ∷ ns) (v ∷ p) = ltb v n && begins ns p

-- the order: a proper prefix comes first; otherwise the first difference decides
unfoldable pub before : Row → Row → Bool
before [] [] = false
before [] (v ∷ y) = true
before (u ∷ x) [] = false
before (u ∷ x) (v ∷ y) = ltb u v || (eqb u v && before x y)

-- each above the one before it
unfoldable pub ascending : List Row → Bool
ascending [] = true
ascending (m ∷ []) = true
ascending (m ∷ k ∷ rows) = before m k && ascending (k ∷ rows)

unfoldable pub all_within : Sizes → List Row → Bool
all_within ns [] = true
all_within ns (m ∷ rows) = within ns m && all_within ns rows

-- a sound table: rows within the sizes, strictly ascending; no rows at all are sound
unfoldable pub sound : Sizes → List Row → Bool
sound ns rows = all_within ns rows && ascending rows

unfoldable pub same : Row → Row → Bool
same [] [] = true
same [] (v ∷ y) = false
same (u ∷ x) [] = false
same (u ∷ x) (v ∷ y) = eqb u v && same x y

unfoldable pub is_row : Row → List Row → Bool
is_row x [] = false
is_row x (m ∷ rows) = same x m || is_row x rows

-- a table's bytes, l to a row: the first k rows
unfoldable pub rows_in : ℕ → List ℕ → ℕ → List Row
rows_in l table zero = []
rows_in l table (suc k) = take l table ∷ rows_in l (drop l table) k

-- all of them
abbrev pub rows_of : ℕ → List ℕ → List Row
rows_of l table = rows_in l table (length table / l)
