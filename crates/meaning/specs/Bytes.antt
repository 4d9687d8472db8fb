-- The book in bytes: how a head and its rules are written, and what stands in bytes, whatever they are.
use Rattle.std.specs.Prelude.{ℕ, zero, suc, ◌+◌, ◌*◌, ◌/◌, ◌%◌, ◌≤◌, List, [], ◌∷◌, ◌++◌, length, get_or}
use Rattle.meaning.specs.Rows.{alike}
use Rattle.meaning.specs.Rules.{Literal, at_most, at_least, Rule, setting, sign, bound, AllGood}

-- ---- writing

unfoldable pub encode_literals : Rule → List ℕ
encode_literals [] = []
encode_literals (c ∷ r) = setting c ∷ sign c ∷ bound c ∷ encode_literals r

-- 52 55, the number of literals, and three bytes each
unfoldable pub encode_rule : Rule → List ℕ
encode_rule r = 82 ∷ 85 ∷ length r ∷ encode_literals r

unfoldable pub encode_rules : List Rule → List ℕ
encode_rules [] = []
encode_rules (r ∷ rs) = encode_rule r ++ encode_rules rs

-- 52 42, n, l, family, and the number of rules in two bytes, high byte first
abbrev pub encode_head : ℕ → ℕ → ℕ → ℕ → List ℕ
encode_head n l family rules = 82 ∷ 66 ∷ n ∷ l ∷ family ∷ rules / 256 ∷ rules % 256 ∷ []

-- 52 45
abbrev pub encode_end : List ℕ
encode_end = 82 ∷ 69 ∷ []

unfoldable pub encode : ℕ → ℕ → ℕ → List Rule → List ℕ
encode n l family rs = encode_head n l family (length rs) ++ (encode_rules rs ++ encode_end)

-- what a book may hold
pub record WellFormed (n l family : ℕ) (rs : List Rule) : Type 0 where
  pub n_low : 1 ≤ n
  pub n_high : n ≤ 64
  pub l_low : 1 ≤ l
  pub l_high : l ≤ 16
  pub families : family ≤ 3
  pub few : length rs ≤ 24576
  pub all_good : AllGood (alike n l) family rs

-- ---- what stands in bytes

-- the literal that a sign, a setting and a bound make
abbrev pub literal : ℕ → ℕ → ℕ → Literal
literal zero i d = at_most i d
literal (suc g) i d = at_least i d

abbrev pub literal_at : List ℕ → ℕ → Literal
literal_at b p = literal (get_or b (p + 1) 0) (get_or b p 0) (get_or b (p + 2) 0)

-- k literals from place p on
unfoldable pub literals_at : List ℕ → ℕ → ℕ → Rule
literals_at b p zero = []
literals_at b p (suc k) = literal_at b p ∷ literals_at b (p + 3) k

-- the rule whose mark is at place p, and where it ends
abbrev pub rule_at : List ℕ → ℕ → Rule
rule_at b p = literals_at b (p + 3) (get_or b (p + 2) 0)

abbrev pub end_at : List ℕ → ℕ → ℕ
end_at b p = p + 3 + 3 * get_or b (p + 2) 0

-- k rules from place p on
unfoldable pub rules_at : List ℕ → ℕ → ℕ → List Rule
rules_at b p zero = []
rules_at b p (suc k) = rule_at b p ∷ rules_at b (end_at b p) k

-- where the k-th rule from place p on stands
unfoldable pub place_at : List ℕ → ℕ → ℕ → ℕ
place_at b p zero = p
place_at b p (suc k) = place_at b (end_at b p) k

-- two bytes, high first
abbrev pub word_at : List ℕ → ℕ → ℕ
word_at b p = 256 * get_or b p 0 + get_or b (p + 1) 0

-- the rules of a book: after the seven bytes of its head, as many as it says
abbrev pub rules_in : List ℕ → List Rule
rules_in b = rules_at b 7 (word_at b 5)
