-- Inner: the words that only inner contracts cite.
use Rattle.std.specs.Prelude.{ℕ, ◌+◌, ◌≤◌, ◌-◌, ◌≡◌, List, [], ◌∷◌, ◌++◌, Bool, true, false, not, ◌&&◌, Some, None, length, get_or, drop, take, replicate, eqb}
use Rattle.std.specs.Prelude as code
use Rattle.std.proofs.Math.Option.{Option, none, some}
use Rattle.meaning.specs.Rules.{Rule, Literal, holds}
use Rattle.meaning.specs.Bytes.{encode_literals}
use Rattle.meaning.specs.Rows.{rows_of, Row}
use Rattle.literals.specs.Inner.{literals_in}
use Rattle.reducing.specs.declared.rows.Rows.{Rows}

-- bytes that a book may have for a rule: each sign is 0 or 1
abbrev pub Written : List ℕ → Type 0
Written b = b ≡ encode_literals (literals_in b)

-- the first of the bytes, so many, are a rule's, of as many literals as fit; zeros fill the room behind them
pub record Held (count : ℕ) (bytes : List ℕ) : Type 0 where
  pub few : count ≤ 96
  pub room : length bytes ≡ 96
  pub written : Written (take count bytes)
  pub blank : drop count bytes ≡ replicate (96 - count) 0

-- how many bytes the rule takes, and all that a hand has which holds it
abbrev pub taken : Rule → ℕ
taken r = length (encode_literals r)

abbrev pub filled : Rule → List ℕ
filled r = encode_literals r ++ replicate (96 - taken r) 0

abbrev pub rows_in : Rows → List Row
rows_in rows = rows_of rows.l rows.table.now

unfoldable pub one : Bool → ℕ
one true = 1
one false = 0

-- how many literals of the rule pass the test
unfoldable pub number : (Literal → Bool) → Rule → ℕ
number t [] = 0
number t (c ∷ r) = one (t c) + number t r

module _ {A : Type 0} (f : ℕ → A → ℕ) where
  -- each number beside an element m becomes f of both; the numbers behind stay
  unfoldable pub change : List A → List ℕ → List ℕ
  change [] ns = ns
  change (m ∷ ms) ns = f (get_or ns 0 0) m ∷ change ms (drop 1 ns)

-- a row's number anew, and without a literal
abbrev pub counting : Rule → ℕ → Row → ℕ
counting r n m = number (λ c. holds c m) r

abbrev pub lowering : Literal → ℕ → Row → ℕ
lowering c n m = n - one (holds c m)

-- no row's number is the literal's own part of it
unfoldable pub spare : Literal → List Row → List ℕ → Bool
spare c [] ns = true
spare c (m ∷ rows) ns = not (eqb (get_or ns 0 0) (one (holds c m))) && spare c rows (drop 1 ns)

-- the row of l values, or none
abbrev pub row_in : ℕ → code.Option (List ℕ) → Option Row
row_in l None = none
row_in l (Some values) = some (take l values)

-- a row is given, and the literal holds in it
abbrev pub serves : Literal → Option Row → Bool
serves c none = false
serves c (some m) = holds c m
