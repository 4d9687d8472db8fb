-- Rules: literals, what a rule asks of a combination, and which rules a book may hold.
use Rattle.std.specs.Prelude.{ℕ, zero, suc, ◌+◌, ◌*◌, ◌-◌, ◌≤◌, ◌<◌, ◌≡◌, Bool, true, false, cond, ◌&&◌, ◌||◌, List, [], ◌∷◌, leb, ltb, eqb, length, get_or}
use Rattle.meaning.specs.Rows.{Row, Sizes, at}

-- "setting at most d", negative, or "setting at least d", positive
pub data Literal : Type 0 where
  at_most at_least : ℕ → ℕ → Literal

abbrev pub setting : Literal → ℕ
setting (at_most i d) = i
setting (at_least i d) = i

-- 0 at most, 1 at least
abbrev pub sign : Literal → ℕ
sign (at_most i d) = 0
sign (at_least i d) = 1

abbrev pub bound : Literal → ℕ
bound (at_most i d) = d
bound (at_least i d) = d

abbrev pub Rule : Type 0
Rule = List Literal

unfoldable pub holds : Literal → Row → Bool
holds (at_most i d) x = leb (at x i) d
holds (at_least i d) x = leb d (at x i)

-- one of the literals holds; a rule with no literals is never met
unfoldable pub met : Rule → Row → Bool
met [] x = false
met (c ∷ r) x = holds c x || met r x

-- a book is met when all its rules are: the combination is permitted
unfoldable pub all_met : List Rule → Row → Bool
all_met [] x = true
all_met (r ∷ rs) x = met r x && all_met rs x

-- ---- the bounds: at most 0 to n-2, at least 1 to n-1

-- a bound of sign g, on a setting of n values, is at least g and below top_of n g
unfoldable pub top_of : ℕ → ℕ → ℕ
top_of n zero = n - 1
top_of n (suc g) = n

pub record Fits (ns : Sizes) (c : Literal) : Type 0 where
  pub known : setting c < length ns
  pub low : sign c ≤ bound c
  pub high : bound c < top_of (get_or ns (setting c) 0) (sign c)

abbrev pub AllFit : Sizes → Rule → Type 0
AllFit ns [] = Unit {0}
AllFit ns (c ∷ r) = Fits ns c × AllFit ns r

-- ---- the order: by setting ascending, negative before positive, so at most one of each sign for a setting

abbrev pub key_of : ℕ → ℕ → ℕ
key_of i g = 2 * i + g

abbrev pub key : Literal → ℕ
key c = key_of (setting c) (sign c)

-- each key is above the one before it, and the first is at least low
abbrev pub Ordered : ℕ → Rule → Type 0
Ordered low [] = Unit {0}
Ordered low (c ∷ r) = (low ≤ key c) × Ordered (key c + 1) r

-- ---- idle: "at most a" and "at least b" on one setting with b no greater than a

-- a and b make a rule idle
unfoldable pub covers : ℕ → ℕ → Bool
covers a b = leb b a

unfoldable pub overlap : Literal → Literal → Bool
overlap (at_most i a) (at_most j b) = false
overlap (at_most i a) (at_least j b) = eqb i j && covers a b
overlap (at_least i a) (at_most j b) = false
overlap (at_least i a) (at_least j b) = false

unfoldable pub overlaps : Literal → Rule → Bool
overlaps c [] = false
overlaps c (d ∷ r) = (overlap c d || overlap d c) || overlaps c r

unfoldable pub idle : Rule → Bool
idle [] = false
idle (c ∷ r) = overlaps c r || idle r

-- ---- families

-- low: conjunction, the minimum, Horn. high: disjunction, the maximum, dual Horn
pub data Side : Type 0 where
  low high : Side

-- the literals of which the side's family has at most one in a rule: positive for Horn, negative for dual Horn
unfoldable pub scarce : Side → Literal → Bool
scarce low (at_most i d) = false
scarce low (at_least i d) = true
scarce high (at_most i d) = true
scarce high (at_least i d) = false

unfoldable pub scarces : Side → Rule → ℕ
scarces s [] = 0
scarces s (c ∷ r) = cond (scarce s c) 1 0 + scarces s r

-- Horn: at most one positive literal. Dual Horn: at most one negative
unfoldable pub horn : Side → Rule → Bool
horn s r = ltb (scarces s r) 2

-- at most two literals
unfoldable pub bijunctive : Rule → Bool
bijunctive r = ltb (length r) 3

-- by the number of the family: 0 general, 1 Horn, 2 dual Horn, 3 bijunctive
abbrev pub by_family : {A : Type 0} → ℕ → A → A → A → A → A
by_family zero g h d b = g
by_family (suc zero) g h d b = h
by_family (suc (suc zero)) g h d b = d
by_family (suc (suc (suc f))) g h d b = b

unfoldable pub in_family : ℕ → Rule → Bool
in_family family r = by_family family true (horn low r) (horn high r) (bijunctive r)

-- ---- a rule that a book may hold

pub record Good (ns : Sizes) (family : ℕ) (r : Rule) : Type 0 where
  pub short : length r ≤ 2 * length ns
  pub fit : AllFit ns r
  pub ordered : Ordered 0 r
  pub busy : idle r ≡ false
  pub kept : in_family family r ≡ true

abbrev pub AllGood : Sizes → ℕ → List Rule → Type 0
AllGood ns family [] = Unit {0}
AllGood ns family (r ∷ rs) = Good ns family r × AllGood ns family rs

-- ---- parts

-- r is s with some literals left out
pub data Part : Rule → Rule → Type 0 where
  done : Part [] []
  skip : {l : Literal} {r s : Rule} → Part r s → Part r (l ∷ s)
  hold : {l : Literal} {r s : Rule} → Part r s → Part (l ∷ r) (l ∷ s)

-- each rule of the first list is part of the rule at the same place of the second
pub data Parts : List Rule → List Rule → Type 0 where
  ended : Parts [] []
  next : {r s : Rule} {rs ss : List Rule} → Part r s → Parts rs ss → Parts (r ∷ rs) (s ∷ ss)
