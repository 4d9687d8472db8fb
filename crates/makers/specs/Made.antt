-- Made: what making a book gives. Refusals 1 to 8 of document 01, in their order, or the book written to the start of the room.
use Rattle.std.specs.Prelude.{ℕ, ◌/◌, ◌≤◌, cond, List, [], ◌∷◌, ◌++◌, leb, ltb, length, drop, Result, Ok, Err}
use Rattle.std.proofs.Math.Option.{Option, none, some}
use Rattle.meaning.specs.Rows.{alike, at, rows_of}
use Rattle.meaning.specs.Rules.{Rule}
use Rattle.meaning.specs.Families.{rules_for}
use Rattle.meaning.specs.Closed.{open_rows, ClosedFor}
use Rattle.meaning.specs.Bytes.{encode}
use Rattle.tables.specs.declared.Flaw.{Flaw}
use Rattle.tables.specs.declared.Open as tables
use Rattle.tables.specs.declared.Open.TheVariants.{Pair, Triple}
use Rattle.tables.specs.Check as check
use Rattle.tables.specs.Check.{checked_of, Passes}
use Rattle.makers.specs.declared.Made.{Made}
use Rattle.makers.specs.declared.Unmade.{Unmade}
use Rattle.makers.specs.declared.Unmade.TheVariants.{Flawed, Family, Open, Room}

-- document 01's number of each refusal
abbrev pub refusal_number : Unmade → ℕ
refusal_number (Flawed f) = check.number_of f
refusal_number Family = 6
refusal_number (Open rows) = 7
refusal_number (Room length) = 8

-- document 01's number of each outcome, 0 for success
abbrev pub number_of : Result Made Unmade → ℕ
number_of (Ok made) = 0
number_of (Err e) = refusal_number e

-- what the refusal gives also
abbrev pub refusal_values : Unmade → List ℕ
refusal_values (Flawed f) = check.values_of f
refusal_values Family = []
refusal_values (Open (Pair i j)) = i ∷ j ∷ []
refusal_values (Open (Triple i j k)) = i ∷ j ∷ k ∷ []
refusal_values (Room length) = length ∷ []

-- what the outcome gives also
abbrev pub values_of : Result Made Unmade → List ℕ
values_of (Ok made) = made.length ∷ made.rules ∷ []
values_of (Err e) = refusal_values e

-- ---- the book

-- the rules of the table in the family, and the bytes of its book
abbrev pub rules_made : ℕ → ℕ → ℕ → List ℕ → List Rule
rules_made n l family table = rules_for family (alike n l) (rows_of l table)

abbrev pub bytes_made : ℕ → ℕ → ℕ → List ℕ → List ℕ
bytes_made n l family table = encode n l family (rules_made n l family table)

-- ---- in their order

-- 1 to 5: the first flaw of the table
abbrev pub unless_flawed : Result ℕ Flaw → List ℕ → Result Made Unmade × List ℕ → Result Made Unmade × List ℕ
unless_flawed (Ok k) room next = next
unless_flawed (Err f) room next = (Err (Flawed f), room)

-- 7 by its row numbers: two are a pair, three a triple
abbrev pub open_as : List ℕ → tables.Open
open_as numbers = cond (ltb (length numbers) 3) (Pair (at numbers 0) (at numbers 1)) (Triple (at numbers 0) (at numbers 1) (at numbers 2))

-- 7: the first rows that show the table not closed for the family
abbrev pub unless_open : Option (List ℕ) → List ℕ → Result Made Unmade × List ℕ → Result Made Unmade × List ℕ
unless_open none room next = next
unless_open (some numbers) room next = (Err (Open (open_as numbers)), room)

-- 8 where the room is too short for the bytes; else they are written at its start, and what is beyond them stays
unfoldable pub fitting : List ℕ → ℕ → List ℕ → Result Made Unmade × List ℕ
fitting bytes rules room = cond (leb (length bytes) (length room)) (Ok (record { length = length bytes; rules = rules }), bytes ++ drop (length bytes) room) (Err (Room (length bytes)), room)

-- 8, or the book
unfoldable pub book_alike : ℕ → ℕ → ℕ → List ℕ → List ℕ → Result Made Unmade × List ℕ
book_alike n l family table room = fitting (bytes_made n l family table) (length (rules_made n l family table)) room

-- 6, 7, 8, or the book
unfoldable pub closed_of : ℕ → ℕ → ℕ → List ℕ → List ℕ → Result Made Unmade × List ℕ
closed_of n l family table room =
    cond (ltb 3 family) (Err Family, room) (unless_open (open_rows family (rows_of l table)) room (book_alike n l family table room))

unfoldable pub made_of : ℕ → ℕ → ℕ → List ℕ → List ℕ → Result Made Unmade × List ℕ
made_of n l family table room = unless_flawed (checked_of n l table) room (closed_of n l family table room)

-- ---- the cases

-- a sound table of rows of l values below n
abbrev pub Tested : ℕ → ℕ → List ℕ → Type 0
Tested n l table = Passes n l table (length table / l)

module _ (n l family : ℕ) (table : List ℕ) where
  abbrev pub bytes : List ℕ
  bytes = bytes_made n l family table

  -- ---- given

  -- the conditions under which a book is given
  pub record Grants (room : List ℕ) : Type 0 where
    pub tested : Tested n l table
    pub families : family ≤ 3
    pub closed : ClosedFor family (rows_of l table)
    pub enough : length bytes ≤ length room
