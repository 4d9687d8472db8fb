-- Inner: the words that only inner contracts cite.
use Rattle.std.specs.Prelude.{ℕ, ◌+◌, ◌*◌, ◌≤◌, ◌<◌, Bool, cond, List, [], ◌∷◌, leb, eqb, length}
use Rattle.meaning.specs.Lists.{All}
use Rattle.meaning.specs.Rules.{Rule, setting}
use Rattle.meaning.specs.Bytes.{literal, literals_at}

-- the literal of sign g and bound d holds of the value v
unfoldable pub holds_by : ℕ → ℕ → ℕ → Bool
holds_by g d v = cond (eqb g 0) (leb v d) (leb d v)

-- the literals of which these are the bytes, three each
unfoldable pub literals_in : List ℕ → Rule
literals_in (i ∷ g ∷ d ∷ b) = literal g i d ∷ literals_in b
literals_in (i ∷ g ∷ []) = []
literals_in (i ∷ []) = []
literals_in [] = []

-- every setting of the rule is one of l
abbrev pub Known : ℕ → Rule → Type 0
Known l r = All (λ c. setting c < l) r

-- c literals from `start` on that may be asked of a row of l values: they are inside the bytes, on settings that it has
pub record Askable (b : List ℕ) (start c l : ℕ) : Type 0 where
  pub inside : start + 3 * c ≤ length b
  pub known : Known l (literals_at b start c)
