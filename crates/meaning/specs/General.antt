-- The general maker: the rules of a table, as document 01 words them.
-- Document 01 counts rows from 1 and calls setting i level i + 1; here both count from 0, so its row k is `row rows (k - 1)`.
use Rattle.std.specs.Prelude.{ℕ, zero, suc, ◌+◌, ◌-◌, cond, List, [], ◌∷◌, ◌++◌, ltb, eqb, length}
use Rattle.meaning.specs.Lists.{opt, each}
use Rattle.meaning.specs.Rows.{Row, Sizes, at, row}
use Rattle.meaning.specs.Rules.{at_most, at_least, Rule}

-- setting i, of n values, differs from v: "at most v-1" if v > 0 and "at least v+1" if v < n-1
unfoldable pub differs : ℕ → ℕ → ℕ → Rule
differs i n v = opt (ltb 0 v) (at_most i (v - 1)) ++ opt (ltb (v + 1) n) (at_least i (v + 1))

-- differs from m at every setting before i
unfoldable pub earlier : Sizes → Row → ℕ → Rule
earlier ns m zero = []
earlier ns m (suc i) = earlier ns m i ++ differs i (at ns i) (at m i)

-- the first setting at which two rows differ
unfoldable pub split : Row → Row → ℕ
split [] b = 0
split (u ∷ a) [] = 0
split (u ∷ a) (v ∷ b) = cond (eqb u v) (suc (split a b)) 0

-- the level at which row k-1 and row k part: 0 before the first row and after the last
unfoldable pub fork : List Row → ℕ → ℕ
fork rows zero = 0
fork rows (suc k) = cond (ltb (suc k) (length rows)) (split (row rows k) (row rows (suc k)) + 1) 0

-- left: if m at i is above 0, differs from m earlier, or at least m's value at i
unfoldable pub left_at : Sizes → Row → ℕ → List Rule
left_at ns m i = opt (ltb 0 (at m i)) (earlier ns m i ++ (at_least i (at m i) ∷ []))

-- right: if m at i is below n-1, differs from m earlier, or at most m's value at i
unfoldable pub right_at : Sizes → Row → ℕ → List Rule
right_at ns m i = opt (ltb (at m i + 1) (at ns i)) (earlier ns m i ++ (at_most i (at m i) ∷ []))

-- middle: if m at i plus 1 is below m' at i, differs from m earlier, or at most m's value at i, or at least that of m'
unfoldable pub mid_at : Sizes → Row → Row → ℕ → List Rule
mid_at ns m m' i = opt (ltb (at m i + 1) (at m' i)) (earlier ns m i ++ (at_most i (at m i) ∷ at_least i (at m' i) ∷ []))

-- the middle rule between row k and the next, where there is a next
unfoldable pub middle : Sizes → List Row → ℕ → List Rule
middle ns rows k = cond (ltb (suc k) (length rows)) (mid_at ns (row rows k) (row rows (suc k)) (split (row rows k) (row rows (suc k)))) []

-- the rules of row k: left, right, middle
unfoldable pub row_rules : Sizes → List Row → ℕ → List Rule
row_rules ns rows k =
    each (left_at ns (row rows k)) (fork rows k) (length ns - fork rows k)
    ++ each (right_at ns (row rows k)) (fork rows (suc k)) (length ns - fork rows (suc k))
    ++ middle ns rows k

-- the rules of a table; the departure: for no rows one rule without literals, which permits nothing
unfoldable pub general : Sizes → List Row → List Rule
general ns [] = [] ∷ []
general ns (m ∷ rows) = each (row_rules ns (m ∷ rows)) 0 (length (m ∷ rows))
