-- Determined: for each export that has an answer of its own, any two outcomes that its contract allows are equal, the lent bytes at
-- exit among them. The other exports have the contracts of the calls that they hand on.
use Rattle.std.specs.Prelude.{ℕ, ◌≡◌, List}
use Rattle.tables.specs.Check.{checked_of}
use Rattle.makers.specs.Made.{made_of}
use Rattle.books.specs.Format.{read_of}
use Rattle.books.specs.Tested.{tested_of}
use Rattle.listing.specs.declared.cursor.Cursor.{Cursor}
use Rattle.listing.specs.Pages.{page_of}
use Rattle.rulebook.specs.Told.{checked_told, reading_told, tested_told}
use Rattle.rulebook.specs.Determined.{alone}
use Rattle.rulebook_c.specs.Answers.{answer_of, made_answer, page_answer}

-- one outcome, `it`, is allowed: any two that are it are equal
abbrev Same : {A : Type 0} → A → Type 0
Same {A} it = (a b : A) → a ≡ it → b ≡ it → a ≡ b

pub check_determined : (n l : ℕ) (table : List ℕ) → Same (answer_of (checked_told (checked_of n l table)))
check_determined n l table = alone (answer_of (checked_told (checked_of n l table)))

pub make_determined : (n l family : ℕ) (table room : List ℕ) → Same (made_answer (made_of n l family table room))
make_determined n l family table room = alone (made_answer (made_of n l family table room))

pub read_determined : (book : List ℕ) → Same (answer_of (reading_told (read_of book)))
read_determined book = alone (answer_of (reading_told (read_of book)))

pub test_determined : (book x : List ℕ) → Same (answer_of (tested_told (tested_of book x)))
test_determined book x = alone (answer_of (tested_told (tested_of book x)))

pub page_determined : (book : List ℕ) (c : Cursor) (budget : ℕ) (room : List ℕ) → Same (page_answer (page_of book c budget room))
page_determined book c budget room = alone (page_answer (page_of book c budget room))
