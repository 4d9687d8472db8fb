-- Inner: the words that only inner contracts cite.
use Rattle.std.specs.Prelude.{ℕ, suc, ◌≤◌, ◌<◌, Bool, true, false, cond, ◌&&◌, [], ◌∷◌, leb, length, get_or}
use Rattle.meaning.specs.Rows.{Row, Sizes}
use Rattle.meaning.specs.Rules.{Rule, holds, Side, low, high}

-- each value of q is the last of its setting
abbrev pub all_last : Sizes → Row → Bool
all_last ns [] = true
all_last [] (v ∷ q) = true
all_last (n ∷ ns) (v ∷ q) = leb n (suc v) && all_last ns q

-- what the code asks of sizes that are lent to it: at most sixteen, each from 1 to 64
pub record Sized (ns : Sizes) : Type 0 where
  pub short : length ns ≤ 16
  pub some : (i : ℕ) → i < length ns → 1 ≤ get_or ns i 0
  pub few : (i : ℕ) → i < length ns → get_or ns i 0 ≤ 64

-- the number of the first literal that holds, counted from 0; the number of literals, where none does
unfoldable pub first_held : Rule → Row → ℕ
first_held [] x = 0
first_held (c ∷ r) x = cond (holds c x) 0 (suc (first_held r x))
