-- Demand 1: every call takes any bytes and refuses by number, in document 01's order, giving what document 01's table says.
use Rattle.std.specs.Prelude.{ℕ, zero, suc, ◌/◌, ◌%◌, ◌≡◌, ◌≢◌, Bool, true, false, not, ◌||◌, List, [], ◌∷◌, ◌++◌, leb, eqb, Result, Ok, Err}
use Rattle.std.proofs.Math.Path.{refl, sym}
use Rattle.std.proofs.Common.{ap, ◌∙◌}
use Rattle.std.proofs.Math.Bool.{cond}
use Rattle.std.proofs.Math.Option.{Option, none, some}
use Rattle.std.proofs.Math.Dec.{ltb}
use Rattle.std.proofs.Math.ListN.{length}
use Rattle.meaning.proofs.Tests.{case, is, isnt}
use Rattle.meaning.specs.Rows.{Row, alike, rows_of, limits}
use Rattle.meaning.proofs.Alike.{alike_length}
use Rattle.meaning.specs.Closed.{or_else, unless, open_rows, FirstOpenFor}
use Rattle.tables.specs.declared.Flaw.{Flaw}
use Rattle.tables.specs.declared.Flaw.TheVariants.{Limits}
use Rattle.tables.specs.Check.{first_high, first_low, row_flaw_of, flaw_of, answer, checked_of, values_of}
use Rattle.tables.proofs.laws.Firsts.{high_some, low_some}
use Rattle.meaning.specs.Rules.{Rule}
use Rattle.meaning.proofs.Given.{open_first}
use Rattle.makers.specs.declared.Unmade.TheVariants.{Open}
use Rattle.makers.specs.Made.{number_of, rules_made, bytes_made, fitting, unless_flawed, open_as, unless_open, book_alike, closed_of, made_of}
use Rattle.makers.proofs.laws.Cases.{made_stays}
use Rattle.meaning.specs.Bytes.{rules_in}
use Rattle.books.specs.declared.Fault.{Fault}
use Rattle.books.specs.declared.Head.{Head}
use Rattle.books.specs.Faults as faults
use Rattle.books.specs.Format.{read_of}
use Rattle.books.specs.Tested.{judge_of, judge_read, tested_of, first_unmet, first_over}
use Rattle.meaning.specs.Listing.{dead, page}
use Rattle.listing.specs.declared.cursor.Cursor.{Cursor}
use Rattle.listing.specs.Cursors.{prefix_of, cursor_ok}
use Rattle.listing.specs.Pages.{page_in, page_by, listed_in, page_of}
use Rattle.rulebook.specs.Told.{Told, Refusal, flaw_told, checked_told, made_told, tested_told, outcome_told, first_of, first_of_append}

-- ---- check: 1 to 5

abbrev pub found : {A : Type 0} → Option A → Bool
found none = false
found (some a) = true

abbrev pub flaw_gives : Option Flaw → List ℕ
flaw_gives none = []
flaw_gives (some f) = values_of f

-- document 01's table, for a table call: 1 limits, 2 length, 3 rows, 4 the first value too high, 5 the first row not above the one before it
abbrev pub table_refusals : ℕ → ℕ → List ℕ → List Refusal
table_refusals n l table =
    (1, not (limits n l), [])
    ∷ (2, not (eqb (length table % l) 0), [])
    ∷ (3, not (leb (length table / l) 512), length table / l ∷ [])
    ∷ (4, found (first_high (alike n l) table), flaw_gives (first_high (alike n l) table))
    ∷ (5, found (first_low (rows_of l table)), flaw_gives (first_low (rows_of l table)))
    ∷ []

-- what a check tells, where t is told of a sound table
abbrev pub after_check : Result ℕ Flaw → Told → Told
after_check (Ok k) t = t
after_check (Err f) t = flaw_told f

module _ (ns : List ℕ) (table : List ℕ) (rows : List Row) (k : ℕ) (t : Told) where
  values_told : after_check (answer k (or_else (first_high ns table) (first_low rows))) t
      ≡ first_of ((4, found (first_high ns table), flaw_gives (first_high ns table)) ∷ (5, found (first_low rows), flaw_gives (first_low rows)) ∷ []) t
  unfolding or_else first_of
  values_told = go (first_high ns table) refl (first_low rows) refl
    where
      go : (o : Option Flaw) → first_high ns table ≡ o → (p : Option Flaw) → first_low rows ≡ p
          → after_check (answer k (or_else o p)) t ≡ cond (found o) (4, flaw_gives o) (cond (found p) (5, flaw_gives p) t)
      go none e none g = refl
      go none e (some f) g = let c = low_some rows f g in rw c.1
      go (some f) e p g = let c = high_some ns table f e in rw c.1

module _ (n l : ℕ) (table : List ℕ) where
  pub check_told_then : (t : Told) → after_check (checked_of n l table) t ≡ first_of (table_refusals n l table) t
  unfolding checked_of flaw_of row_flaw_of or_else unless first_of
  check_told_then t = elim (case (limits n l)) [
    | isnt e ↦ rw e
    | is e ↦ rw (e, alike_length n l) (elim (case (eqb (length table % l) 0)) [
      | isnt f ↦ rw f
      | is f ↦ rw f (elim (case (leb (length table / l) 512)) [
        | isnt g ↦ rw g
        | is g ↦ rw g (values_told (alike n l) table (rows_of l table) (length table / l) t)
      ])
    ])
  ]

  -- a check gives the number of rows, or the first refusal that applies
  pub check_told : checked_told (checked_of n l table) ≡ first_of (table_refusals n l table) (0, length table / l ∷ [])
  unfolding checked_of
  check_told = go (or_else (unless (limits n l) Limits) (flaw_of (alike n l) table)) ∙ check_told_then (0, length table / l ∷ [])
    where
      go : (o : Option Flaw) → checked_told (answer (length table / l) o) ≡ after_check (answer (length table / l) o) (0, length table / l ∷ [])
      go none = refl
      go (some f) = refl

-- ---- make: 1 to 8

abbrev pub numbers : Option (List ℕ) → List ℕ
numbers none = []
numbers (some rows) = rows

-- two row numbers are told as a pair, three as a triple
pub open_told : (family : ℕ) (rows : List Row) (r : List ℕ) → FirstOpenFor family rows r → made_told (Err (Open (open_as r))) ≡ (7, r)
open_told zero rows r c = absurd c
open_told (suc zero) rows r c = rw c.found
open_told (suc (suc zero)) rows r c = rw c.found
open_told (suc (suc (suc f))) rows r c = rw c.found

module _ (n l family : ℕ) (table room : List ℕ) where
  abbrev rules : List Rule
  rules = rules_made n l family table

  abbrev book : List ℕ
  book = bytes_made n l family table

  -- 6 family, 7 the first rows that show the table not closed, 8 room with the length needed
  abbrev pub book_refusals : List Refusal
  book_refusals =
      (6, ltb 3 family, [])
      ∷ (7, found (open_rows family (rows_of l table)), numbers (open_rows family (rows_of l table)))
      ∷ (8, not (leb (length book) (length room)), length book ∷ [])
      ∷ []

  fits_told : made_told (fitting book (length rules) room).0
      ≡ cond (not (leb (length book) (length room))) (8, length book ∷ []) (0, length book ∷ length rules ∷ [])
  unfolding fitting
  fits_told = elim (case (leb (length book) (length room))) [ is f ↦ rw f | isnt f ↦ rw f ]

  book_told : made_told (closed_of n l family table room).0 ≡ first_of book_refusals (0, length book ∷ length rules ∷ [])
  unfolding closed_of book_alike first_of
  book_told = elim (case (ltb 3 family)) [
    | is e ↦ rw e
    | isnt e ↦ rw e (go (open_rows family (rows_of l table)) refl)
  ]
    where
      go : (o : Option (List ℕ)) → open_rows family (rows_of l table) ≡ o
          → made_told (unless_open o room (fitting book (length rules) room)).0
          ≡ cond (found o) (7, numbers o) (cond (not (leb (length book) (length room))) (8, length book ∷ []) (0, length book ∷ length rules ∷ []))
      go none e = fits_told
      go (some r) e = open_told family (rows_of l table) r (open_first family (rows_of l table) r e)

  -- making gives the book's length and number of rules, or the first refusal that applies
  pub make_told : made_told (made_of n l family table room).0 ≡ first_of (table_refusals n l table ++ book_refusals) (0, length book ∷ length rules ∷ [])
  unfolding made_of
  make_told = go (checked_of n l table) refl
    where
      whole : after_check (checked_of n l table) (first_of book_refusals (0, length book ∷ length rules ∷ []))
          ≡ first_of (table_refusals n l table ++ book_refusals) (0, length book ∷ length rules ∷ [])
      whole = check_told_then n l table (first_of book_refusals (0, length book ∷ length rules ∷ [])) ∙ sym (first_of_append (table_refusals n l table) book_refusals _)

      go : (c : Result ℕ Flaw) → checked_of n l table ≡ c
          → made_told (unless_flawed c room (closed_of n l family table room)).0 ≡ first_of (table_refusals n l table ++ book_refusals) (0, length book ∷ length rules ∷ [])
      go (Ok k) e = book_told ∙ sym (ap (λ (c : Result ℕ Flaw). after_check c (first_of book_refusals (0, length book ∷ length rules ∷ []))) e) ∙ whole
      go (Err f) e = sym (ap (λ (c : Result ℕ Flaw). after_check c (first_of book_refusals (0, length book ∷ length rules ∷ []))) e) ∙ whole

  -- 'changing no lent byte': a refusal leaves the room as it was
  pub make_unchanged : number_of (made_of n l family table room).0 ≢ 0 → (made_of n l family table room).1 ≡ room
  make_unchanged = made_stays n l family table room

-- ---- read and test: book faults, then 16, 17

-- a book's fault as the refusal that comes first
abbrev pub fault_first : Result Head Fault → List Refusal
fault_first (Ok h) = []
fault_first (Err f) = (faults.number_of f, true, faults.values_of f) ∷ []

-- what comes after an accepted head
abbrev pub if_accepted : {A : Type 0} → Result Head Fault → (ℕ → ℕ → A) → A → A
if_accepted (Ok h) f a = f h.n h.l
if_accepted (Err g) f a = a

-- 16 its length, 17 the place of its first value outside its size
abbrev pub combination_refusals : Row → ℕ → ℕ → List Refusal
combination_refusals x n l =
    (16, not (eqb (length x) l), [])
    ∷ (17, ltb (first_over (alike n l) x) (length x), first_over (alike n l) x ∷ [])
    ∷ []

-- permitted, or the number of the first rule not met
abbrev pub verdict_told : List ℕ → Row → Told
verdict_told b x = cond (ltb (first_unmet (rules_in b) x) (length (rules_in b))) (0, 0 ∷ first_unmet (rules_in b) x ∷ []) (0, 1 ∷ [])

pub test_told : (b : List ℕ) (x : Row)
    → tested_told (tested_of b x) ≡ first_of (fault_first (read_of b) ++ if_accepted (read_of b) (combination_refusals x) []) (verdict_told b x)
unfolding tested_of judge_of first_of
test_told b x = go (read_of b)
  where
    go : (r : Result Head Fault) → tested_told (judge_read b x r) ≡ first_of (fault_first r ++ if_accepted r (combination_refusals x) []) (verdict_told b x)
    go (Err f) = refl
    go (Ok h) = rw (alike_length h.n h.l) (elim (case (eqb (length x) h.l)) [
      | isnt e ↦ rw e
      | is e ↦ rw e (elim (case (ltb (first_over (alike h.n h.l) x) (length x))) [
        | is f ↦ rw f
        | isnt f ↦ rw f (elim (case (ltb (first_unmet (rules_in b) x) (length (rules_in b)))) [ is g ↦ rw g | isnt g ↦ rw g ])
      ])
    ])

-- ---- page: book faults, 18, 20, 19

-- 18 the cursor, 20 room for a row, 19 the budget
abbrev pub page_refusals : Cursor → ℕ → List ℕ → ℕ → ℕ → List Refusal
page_refusals c budget room n l =
    (18, not (cursor_ok (alike n l) c), [])
    ∷ (20, ltb (length room) l, [])
    ∷ (19, eqb budget 0 || ltb 65535 budget, [])
    ∷ []

-- the number of rows, of steps, and 1 if finished, of the page that document 01 defines
abbrev pub page_told : List ℕ → Cursor → ℕ → List ℕ → ℕ → ℕ → Told
page_told b c budget room n l =
    let g = page (alike n l) (dead (rules_in b)) (length room / l) budget (prefix_of c) in
    (0, length g.rows ∷ g.steps ∷ cond g.finished 1 0 ∷ [])

module _ (b : List ℕ) (c : Cursor) (budget : ℕ) (room : List ℕ) where
  pub page_is_told : outcome_told (page_of b c budget room).0.outcome
      ≡ first_of (fault_first (read_of b) ++ if_accepted (read_of b) (page_refusals c budget room) []) (if_accepted (read_of b) (page_told b c budget room) (0, []))
  unfolding page_of page_by page_in listed_in first_of
  page_is_told = go (read_of b)
    where
      go : (r : Result Head Fault) → outcome_told (page_by b r c budget room).0.outcome
          ≡ first_of (fault_first r ++ if_accepted r (page_refusals c budget room) []) (if_accepted r (page_told b c budget room) (0, []))
      go (Err f) = refl
      go (Ok h) = rw (alike_length h.n h.l) (elim (case (cursor_ok (alike h.n h.l) c)) [
        | isnt e ↦ rw e
        | is e ↦ rw e (elim (case (ltb (length room) h.l)) [
          | is f ↦ rw f
          | isnt f ↦ rw f (elim (case (eqb budget 0 || ltb 65535 budget)) [ is g ↦ rw g | isnt g ↦ rw g ])
        ])
      ])

  -- a refusal gives the given cursor back and leaves the room as it was
  pub page_unchanged : (outcome_told (page_of b c budget room).0.outcome).0 ≢ 0 → ((page_of b c budget room).0.cursor ≡ c) × ((page_of b c budget room).1 ≡ room)
  unfolding page_of page_by page_in listed_in
  page_unchanged = go (read_of b)
    where
      go : (r : Result Head Fault) → (outcome_told (page_by b r c budget room).0.outcome).0 ≢ 0 → ((page_by b r c budget room).0.cursor ≡ c) × ((page_by b r c budget room).1 ≡ room)
      go (Err f) = λ h. (refl, refl)
      go (Ok d) = elim (case (cursor_ok (alike d.n d.l) c)) [
        | isnt e ↦ rw e (λ h. (refl, refl))
        | is e ↦ rw e (elim (case (ltb (length room) (length (alike d.n d.l)))) [
          | is f ↦ rw f (λ h. (refl, refl))
          | isnt f ↦ rw f (elim (case (eqb budget 0 || ltb 65535 budget)) [ is g ↦ rw g (λ h. (refl, refl)) | isnt g ↦ rw g (λ h. absurd (h refl)) ])
        ])
      ]
