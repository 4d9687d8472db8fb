-- Determined: for each public call, any two outcomes that its contract allows are equal, the lent bytes at exit among them.
use Rattle.std.specs.Prelude.{ℕ, ◌≡◌, List, [], Option, Result}
use Rattle.std.proofs.Common.{sym, ◌∙◌}
use Rattle.std.specs.Borrow.{Bor}
use Rattle.meaning.specs.Rows.{Row}
use Rattle.tables.specs.declared.Flaw.{Flaw}
use Rattle.tables.specs.Check.{checked_of}
use Rattle.makers.specs.declared.Made.{Made}
use Rattle.makers.specs.declared.Unmade.{Unmade}
use Rattle.makers.specs.Made.{made_of}
use Rattle.books.specs.declared.Fault.{Fault}
use Rattle.books.specs.declared.Head.{Head}
use Rattle.books.specs.declared.Untested.{Untested}
use Rattle.books.specs.declared.part.RulePart.{RulePart}
use Rattle.books.specs.Format.{read_of}
use Rattle.books.specs.Tested.{tested_of}
use Rattle.books.specs.Part.{IsPart, part_where}
use Rattle.listing.specs.declared.cursor.Cursor.{Cursor}
use Rattle.listing.specs.Cursors.{cursor_of, down_of, along_of, up_of}
use Rattle.listing.specs.Pages.{P, page_of}

-- a contract that is an equation allows one outcome
pub alone : {A : Type 0} (a r s : A) → r ≡ a → s ≡ a → r ≡ s
alone a r s p q = p ∙ sym q

pub check_determined : (n l : ℕ) (table : List ℕ) (r s : Result ℕ Flaw) → r ≡ checked_of n l table → s ≡ checked_of n l table → r ≡ s
check_determined n l table = alone (checked_of n l table)

-- the answer and the room at exit
pub make_determined : (n l family : ℕ) (table room : List ℕ) (r s : Result Made Unmade × List ℕ) → r ≡ made_of n l family table room → s ≡ made_of n l family table room → r ≡ s
make_determined n l family table room = alone (made_of n l family table room)

pub read_determined : (book : List ℕ) (r s : Result Head Fault) → r ≡ read_of book → s ≡ read_of book → r ≡ s
read_determined book = alone (read_of book)

pub test_determined : (book : List ℕ) (x : Row) (r s : Result (Option ℕ) Untested) → r ≡ tested_of book x → s ≡ tested_of book x → r ≡ s
test_determined book x = alone (tested_of book x)

pub rule_part_determined : (book : List ℕ) (number : ℕ) (r s : RulePart) → r ≡ part_where book number → s ≡ part_where book number → r ≡ s
rule_part_determined book number = alone (part_where book number)

-- a rule by its number: the part as a value, its bytes and where it stands in what was lent
pub rule_determined : (lent r s : Bor (List ℕ)) (p : ℕ) (bytes : List ℕ) → IsPart lent r p bytes → IsPart lent s p bytes → r ≡ s
rule_determined lent r s p bytes a b =
    let block : r.ref_ptr.0 ≡ s.ref_ptr.0 = alone lent.ref_ptr.0 _ _ a.block b.block in
    let offset : r.ref_ptr.1 ≡ s.ref_ptr.1 = alone _ _ _ a.offset b.offset in
    let held : r.now ≡ s.now = alone bytes _ _ a.bytes_are b.bytes_are in
    λ i. record { ref_ptr = (block i, offset i); now = held i }

pub beginning_determined : (r s : Cursor) → r ≡ cursor_of [] → s ≡ cursor_of [] → r ≡ s
beginning_determined = alone (cursor_of [])

pub down_determined : (n l : ℕ) (c r s : Cursor) → r ≡ down_of n l c → s ≡ down_of n l c → r ≡ s
down_determined n l c = alone (down_of n l c)

pub along_determined : (n l : ℕ) (c r s : Cursor) → r ≡ along_of n l c → s ≡ along_of n l c → r ≡ s
along_determined n l c = alone (along_of n l c)

pub up_determined : (n l : ℕ) (c r s : Cursor) → r ≡ up_of n l c → s ≡ up_of n l c → r ≡ s
up_determined n l c = alone (up_of n l c)

-- the answer, the cursor beside it, and the room at exit
pub page_determined : (book : List ℕ) (c : Cursor) (budget : ℕ) (room : List ℕ) (r s : P) → r ≡ page_of book c budget room → s ≡ page_of book c budget room → r ≡ s
page_determined book c budget room = alone (page_of book c budget room)
