-- Closed: when a table is closed, and the first rows that show it is not.
use Rattle.std.specs.Prelude.{ℕ, zero, suc, ◌-◌, ◌<◌, Bool, true, false, ◌≡◌, ◌⊎◌, length}
use mathlib.Core.List.{List, [], ◌∷◌, Memᴰ}
use Rattle.std.proofs.Math.Option.{Option, none, some}
use Rattle.meaning.specs.Rows.{Row, row, is_row}
use Rattle.meaning.specs.Rules.{Side, low, high, by_family}
use Rattle.meaning.specs.Families.{both, median}

-- closed under conjunction (low) or disjunction (high): for all rows, in any order and with repeats
abbrev pub Closed : Side → List Row → Type 0
Closed s rows = (a b : Row) → Memᴰ a rows → Memᴰ b rows → Memᴰ (both s a b) rows

-- closed under median
abbrev pub MedianClosed : List Row → Type 0
MedianClosed rows = (a b c : Row) → Memᴰ a rows → Memᴰ b rows → Memᴰ c rows → Memᴰ (median a b c) rows

-- the closure that a family asks for; general asks for none
abbrev pub ClosedFor : ℕ → List Row → Type 0
ClosedFor zero rows = Unit {0}
ClosedFor (suc zero) rows = Closed low rows
ClosedFor (suc (suc zero)) rows = Closed high rows
ClosedFor (suc (suc (suc f))) rows = MedianClosed rows

-- ---- the search

unfoldable pub or_else : {A : Type 0} → Option A → Option A → Option A
or_else none o = o
or_else (some a) o = some a

-- what is first found among f s, f (s + 1), .., n of them
unfoldable pub first : {A : Type 0} → (ℕ → Option A) → ℕ → ℕ → Option A
first f s zero = none
first f s (suc n) = or_else (f s) (first f (suc s) n)

-- over i < j below n, i changing last; over i < j < k
unfoldable pub first_pair : {A : Type 0} → (ℕ → ℕ → Option A) → ℕ → Option A
first_pair f n = first (λ i. first (f i) (suc i) (n - suc i)) 0 n

unfoldable pub first_triple : {A : Type 0} → (ℕ → ℕ → ℕ → Option A) → ℕ → Option A
first_triple f n = first_pair (λ i j. first (f i j) (suc j) (n - suc j)) n

-- a is found where the test fails
unfoldable pub unless : {A : Type 0} → Bool → A → Option A
unless true a = none
unless false a = some a

abbrev pub try_pair : Side → List Row → ℕ → ℕ → Option (List ℕ)
try_pair s rows i j = unless (is_row (both s (row rows i) (row rows j)) rows) (i ∷ j ∷ [])

abbrev pub try_triple : List Row → ℕ → ℕ → ℕ → Option (List ℕ)
try_triple rows i j k = unless (is_row (median (row rows i) (row rows j) (row rows k)) rows) (i ∷ j ∷ k ∷ [])

-- the first pair of ascending row numbers whose result is no row
unfoldable pub open_pair : Side → List Row → Option (List ℕ)
open_pair s rows = first_pair (try_pair s rows) (length rows)

-- the first triple of ascending row numbers whose median is no row
unfoldable pub open_triple : List Row → Option (List ℕ)
open_triple rows = first_triple (try_triple rows) (length rows)

-- the first rows that show the table not closed for the family; none for general
unfoldable pub open_rows : ℕ → List Row → Option (List ℕ)
open_rows family rows = by_family family none (open_pair low rows) (open_pair high rows) (open_triple rows)

-- (i', j') stands before (i, j)
abbrev pub Earlier : ℕ → ℕ → ℕ → ℕ → Type 0
Earlier i' j' i j = (i' < i) ⊎ ((i' ≡ i) × (j' < j))

module _ (s : Side) (rows : List Row) where
  -- the result of rows i and j is a row
  abbrev pub PairIn : ℕ → ℕ → Type 0
  PairIn i j = Memᴰ (both s (row rows i) (row rows j)) rows

  -- ---- something is found

  pub record FirstOpen (numbers : List ℕ) : Type 0 where
    pub one : ℕ
    pub two : ℕ
    pub found : numbers ≡ one ∷ two ∷ []
    pub order : one < two
    pub inside : two < length rows
    pub no_row : ¬ PairIn one two
    pub earlier : (i j : ℕ) → i < j → j < length rows → Earlier i j one two → PairIn i j

-- ---- triples

module _ (rows : List Row) where
  -- the median of rows i, j and k is a row
  abbrev pub TripleIn : ℕ → ℕ → ℕ → Type 0
  TripleIn i j k = Memᴰ (median (row rows i) (row rows j) (row rows k)) rows

  -- ---- something is found

  pub record FirstOpenTriple (numbers : List ℕ) : Type 0 where
    pub one : ℕ
    pub two : ℕ
    pub three : ℕ
    pub found : numbers ≡ one ∷ two ∷ three ∷ []
    pub order : (one < two) × (two < three)
    pub inside : three < length rows
    pub no_row : ¬ TripleIn one two three
    pub earlier : (i j k : ℕ) → i < j → j < k → k < length rows → Earlier i j one two ⊎ ((i ≡ one) × (j ≡ two) × (k < three)) → TripleIn i j k

-- the rows that refusal 7 names; general has none
abbrev pub FirstOpenFor : ℕ → List Row → List ℕ → Type 0
FirstOpenFor zero rows numbers = ⊥
FirstOpenFor (suc zero) rows numbers = FirstOpen low rows numbers
FirstOpenFor (suc (suc zero)) rows numbers = FirstOpen high rows numbers
FirstOpenFor (suc (suc (suc f))) rows numbers = FirstOpenTriple rows numbers
