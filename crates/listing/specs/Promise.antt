-- Promise: the words of demand 3: pages of a book one after the other, what they have shown together, and when that is the whole.
use Rattle.std.specs.Prelude.{ℕ, ◌+◌, ◌*◌, ◌≤◌, ◌≡◌, Bool, true, false, cond, Result, Ok, Err, List, [], ◌∷◌, ◌++◌, length, take}
use Rattle.meaning.specs.Lists.{keep, All}
use Rattle.meaning.specs.Rows.{alike}
use Rattle.meaning.specs.Rules.{all_met}
use Rattle.meaning.specs.Bytes.{rules_in}
use Rattle.meaning.specs.Listing.{dead, combinations, visits}
use Rattle.books.specs.Format.{Book, read_of}
use Rattle.listing.specs.declared.cursor.Cursor.{Cursor}
use Rattle.listing.specs.Pages.{P, page_of, flat}
use Rattle.listing.specs.declared.paging.Listed.{Listed}
use Rattle.listing.specs.declared.paging.Unlisted.{Unlisted}

-- ---- a run of calls

-- ---- what an outcome says of a page

abbrev pub rows_in : Result Listed Unlisted → ℕ
rows_in (Ok x) = x.rows
rows_in (Err u) = 0

abbrev pub steps_in : Result Listed Unlisted → ℕ
steps_in (Ok x) = x.steps
steps_in (Err u) = 0

abbrev pub finished_in : Result Listed Unlisted → Bool
finished_in (Ok x) = x.finished
finished_in (Err u) = false

-- a call for each lent room and budget, each with the cursor that the last one gave, until one says that it is finished
abbrev pub run_of : List ℕ → List (List ℕ × ℕ) → Cursor → List P
run_of b [] c = []
run_of b (k ∷ ks) c =
    let g = page_of b c k.1 k.0 in
    let r = run_of b ks g.0.cursor in
    g ∷ cond (finished_in g.0.outcome) [] r

-- the bytes of the rows that a page shows, l to a row
abbrev pub shown_in : ℕ → P → List ℕ
shown_in l g = take (rows_in g.0.outcome * l) g.1

abbrev pub all_shown : ℕ → List P → List ℕ
all_shown l [] = []
all_shown l (g ∷ gs) = shown_in l g ++ all_shown l gs

abbrev pub all_made : List P → ℕ
all_made [] = 0
all_made (g ∷ gs) = steps_in g.0.outcome + all_made gs

-- the last page is finished; t where there is none
abbrev pub last_done : Bool → List P → Bool
last_done t [] = t
last_done t (g ∷ gs) = last_done (finished_in g.0.outcome) gs

-- each room has space for a row, and each budget is within its limits
abbrev pub Enough : ℕ → List (List ℕ × ℕ) → Type 0
Enough l ks = All (λ k. (l ≤ length k.0) × (1 ≤ k.1) × (k.1 ≤ 65535)) ks

module _ (b : List ℕ) (n l family k : ℕ) (h : read_of b ≡ Book n l family k) where
  -- ---- a run of them

  -- THEOREM: a run from the beginning, with at least one page and at least as many as there are visited prefixes, ends; its rows are the
  -- permitted combinations, each once, ascending; its steps are as many as the visited prefixes
  pub record Whole (gs : List P) : Type 0 where
    pub shown : all_shown l gs ≡ flat (keep (λ x. all_met (rules_in b) x) (combinations (alike n l)))
    pub made : all_made gs ≡ length (visits (alike n l) (dead (rules_in b)))
    pub done : last_done false gs ≡ true
