-- Pages: the answer of a page, in document 01's words.
use Rattle.std.specs.Prelude.{ℕ, ◌/◌, Bool, cond, Result, Ok, Err, ◌||◌, List, ◌++◌, [], ◌∷◌, eqb, ltb, length, drop}
use Rattle.meaning.specs.Rows.{Row, Sizes, alike}
use Rattle.meaning.specs.Bytes.{rules_in}
use Rattle.meaning.specs.Listing.{dead, Page, page}
use Rattle.books.specs.declared.Fault.{Fault}
use Rattle.books.specs.declared.Head.{Head}
use Rattle.books.specs.Format.{read_of}
use Rattle.listing.specs.declared.cursor.Cursor.{Cursor}
use Rattle.listing.specs.declared.paging.Paged.{Paged}
use Rattle.listing.specs.declared.paging.Listed.{Listed}
use Rattle.listing.specs.declared.paging.Unlisted.{Unlisted}
use Rattle.listing.specs.declared.paging.Unlisted.TheVariants.{BadCursor, NoRoom, BadBudget, Faulty}
use Rattle.listing.specs.Cursors.{prefix_of, cursor_of, cursor_ok}

-- the answer, and the bytes of the lent room
abbrev pub P : Type 0
P = Paged × List ℕ

-- from the cursor c: the last prefix beside what is listed, or c beside why nothing is
abbrev pub beside : Cursor → Result (Cursor × Listed) Unlisted → Paged
beside c (Ok x) = record { cursor = x.0; outcome = Ok x.1 }
beside c (Err u) = record { cursor = c; outcome = Err u }

-- a refusal: the given cursor, and the room as it was
abbrev pub refused : Cursor → Unlisted → List ℕ → P
refused c u o = (beside c (Err u), o)

-- rows one after another, as they stand in the room
abbrev pub flat : List Row → List ℕ
flat [] = []
flat (x ∷ xs) = x ++ flat xs

-- a page of rows: they stand at the room's start, and the bytes past them stay
abbrev pub told : List ℕ → Page → P
told o g = (
  record { cursor = cursor_of g.last; outcome = Ok (record { rows = length g.rows; steps = g.steps; finished = g.finished }) },
  flat g.rows ++ drop (length (flat g.rows)) o,
)

-- the page from a cursor, as many rows as fit
unfoldable pub listed_in : Sizes → (Row → Bool) → Cursor → ℕ → List ℕ → P
listed_in ns d c budget o = told o (page ns d (length o / length ns) budget (prefix_of c))

-- the refusals before it: 18, 20, 19
unfoldable pub page_in : Sizes → (Row → Bool) → Cursor → ℕ → List ℕ → P
page_in ns d c budget o =
    cond (cursor_ok ns c)
    (cond (ltb (length o) (length ns)) (refused c NoRoom o)
    (cond (eqb budget 0 || ltb 65535 budget) (refused c BadBudget o) (listed_in ns d c budget o)))
    (refused c BadCursor o)

-- by what reading the book gives: its faults first, then the page over its sizes and its rules
unfoldable pub page_by : List ℕ → Result Head Fault → Cursor → ℕ → List ℕ → P
page_by b (Ok h) c budget o = page_in (alike h.n h.l) (dead (rules_in b)) c budget o
page_by b (Err f) c budget o = refused c (Faulty f) o

unfoldable pub page_of : List ℕ → Cursor → ℕ → List ℕ → P
page_of b c budget o = page_by b (read_of b) c budget o
