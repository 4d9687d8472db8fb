-- Demand 2: a combination meets the rules made from a table exactly when it is a row.
use Rattle.std.specs.Prelude.{ℕ, ◌/◌, ◌≤◌, ◌<◌, ◌≡◌, refl, ◌↔◌, T, length, take, get_or}
use Rattle.std.proofs.Common.{arith}
use mathlib.Core.List.{List, [], Memᴰ}
use Rattle.meaning.specs.Rows.{Row, Sizes, alike, within, sound, rows_of}
use Rattle.meaning.specs.Rules.{Rule, all_met, AllGood, Parts}
use Rattle.meaning.specs.General.{general}
use Rattle.meaning.specs.Families.{rules_for, Has}
use Rattle.meaning.specs.Closed.{ClosedFor, FirstOpenFor}
use Rattle.meaning.proofs.Given.{open_none, open_first}
use Rattle.meaning.proofs.Made as meant
use Rattle.meaning.proofs.Bounds as bounds
use Rattle.meaning.proofs.Converse.{has_closed}
use Rattle.meaning.specs.Bytes.{encode, rules_in, WellFormed}
use Rattle.meaning.proofs.Encoded.{encoded_rules}
use Rattle.books.specs.Format.{Book, read_of}
use Rattle.books.proofs.laws.Written as books
use Rattle.books.proofs.laws.Accepted as accepted
use Rattle.books.specs.Tested.{Permitted, tested_of}
use Rattle.books.proofs.laws.Tested.{tested_permitted}
use Rattle.makers.specs.Made.{number_of, rules_made, bytes_made, made_of, Tested, Grants}
use Rattle.makers.proofs.laws.Cases.{Makes, flawed, unknown, unclosed, narrow, given, made_cases}
use Rattle.makers.proofs.laws.Promised.{Gives, made_given, made_gives, made_general}
use Rattle.tables.proofs.laws.Promised.{checked_sound}
use Rattle.rulebook.specs.Told.{made_told}
use Rattle.rulebook.specs.Demand1.{open_told}

-- ---- given

module _ (n l family : ℕ) (table room : List ℕ) where
  -- 'General rules always; Horn, dual Horn, bijunctive exactly when the table is closed under conjunction, disjunction, median':
  -- a book is given just where the table is sound, the family known, the table closed for it, and the room long enough
  pub given_when : (number_of (made_of n l family table room).0 ≡ 0) ↔ Grants n l family table room
  given_when = made_given n l family table room

  -- 'else the first rows that show it': 7 with their numbers, where every earlier pair's (triple's) result is a row and theirs is not
  pub record Named : Type 0 where
    pub numbers : List ℕ
    pub told : made_told (made_of n l family table room).0 ≡ (7, numbers)
    pub first : FirstOpenFor family (rows_of l table) numbers

  pub not_closed_named : Tested n l table → family ≤ 3 → (¬ ClosedFor family (rows_of l table)) → Named
  not_closed_named t h c = go (made_of n l family table room) refl (made_cases n l family table room)
    where
      go : (o : _) → made_of n l family table room ≡ o → Makes n l family table room o → Named
      go o q (flawed f e) =
          let s = (checked_sound n l table (length table / l)).1 t in
          let z : ◌≡◌ {A = ℕ} 0 1 = cc in
          absurd (omega arith)
      go o q (unknown u k) = absurd (omega arith)
      go o q (unclosed u k numbers e) =
          let f = open_first family (rows_of l table) numbers e in
          record { numbers = numbers; told = rw q (open_told family (rows_of l table) numbers f); first = f }
      go o q (narrow u k e w) = absurd (c ((open_none family (alike n l) (rows_of l table) u.rows_sound).0 e))
      go o q (given u k e w) = absurd (c ((open_none family (alike n l) (rows_of l table) u.rows_sound).0 e))

-- general rules need no closure
pub general_given : (n l : ℕ) (table room : List ℕ) → Tested n l table → length (bytes_made n l 0 table) ≤ length room → number_of (made_of n l 0 table room).0 ≡ 0
general_given = made_general

-- the other half, as in the paper: some rules of the family permit exactly the rows just where the table is closed for it
pub family_has : (family : ℕ) (ns : Sizes) (rows : List Row) → T (sound ns rows) → Has ns rows family ↔ ClosedFor family rows
family_has = has_closed

-- ---- exact

-- the book that make wrote: the first bytes of the room, as many as it gave
abbrev pub book_in : ℕ → ℕ → ℕ → List ℕ → List ℕ → List ℕ
book_in n l family table room = take (length (bytes_made n l family table)) (made_of n l family table room).1

module _ (n l family : ℕ) (table room : List ℕ) (ok : number_of (made_of n l family table room).0 ≡ 0) where
  gave : Gives n l family table room
  gave = made_gives n l family table room ((made_given n l family table room).0 ok)

  -- 'A combination meets the rules made from a table exactly when it is a row', asked by the calls themselves:
  -- of the book that make wrote, test answers permitted just for the rows
  pub made_tested : (x : Row) → T (within (alike n l) x) → (tested_of (book_in n l family table room) x ≡ Permitted) ↔ Memᴰ x (rows_of l table)
  made_tested x w =
      let p = tested_permitted (bytes_made n l family table) x n l family (length (rules_made n l family table)) gave.accepted w in
      let q = gave.permits x w in
      rw gave.start (
        λ e. q.0 (rw gave.rules_are at (p.0 e)),
        λ h. p.1 (rw gave.rules_are (q.1 h)),
      )

  -- a made book is accepted, with the head that was asked for and the number of rules that was given
  pub made_read : read_of (book_in n l family table room) ≡ Book n l family (length (rules_made n l family table))
  made_read = rw gave.start gave.accepted

-- the same of the definitions, over the sizes: for a sound table that is closed for the family
pub rules_exact : (family : ℕ) (ns : Sizes) (rows : List Row) (x : Row) → T (sound ns rows) → ClosedFor family rows → T (within ns x)
    → T (all_met (rules_for family ns rows) x) ↔ Memᴰ x rows
rules_exact = meant.exact

-- no rows: nothing is permitted, in every family
pub no_rows : (family : ℕ) (ns : Sizes) (x : Row) → ¬ T (all_met (rules_for family ns []) x)
no_rows = meant.empty_none

-- ---- in the family

-- every made rule is one that a book may hold: in its family, within the bounds, in order, not idle
pub rules_good : (family : ℕ) (ns : Sizes) (rows : List Row) → T (sound ns rows) → ClosedFor family rows → AllGood ns family (rules_for family ns rows)
rules_good = bounds.rules_good

-- each is the general rule at its place with literals left out
pub rules_parts : (family : ℕ) (ns : Sizes) (rows : List Row) → Parts (rules_for family ns rows) (general ns rows)
rules_parts = meant.rules_parts

-- at most 24,576 of them
pub rules_bounded : (family : ℕ) (ns : Sizes) (rows : List Row) → length ns ≤ 16 → length rows ≤ 512 → length (rules_for family ns rows) ≤ 24576
rules_bounded = bounds.rules_bounded

-- ---- bytes

-- 'A written book reads back as the same rules'
pub reads_back : (n l family : ℕ) (rs : List Rule) → WellFormed n l family rs
    → (read_of (encode n l family rs) ≡ Book n l family (length rs)) × (rules_in (encode n l family rs) ≡ rs)
reads_back n l family rs w = (books.written n l family rs w, encoded_rules n l family rs)

-- an accepted book is the encoding of its head and rules, and these are well formed
pub accepted_is : (b : List ℕ) (n l family k : ℕ) → ((i : ℕ) → get_or b i 0 < 256) → read_of b ≡ Book n l family k
    → (b ≡ encode n l family (rules_in b)) × WellFormed n l family (rules_in b) × (length (rules_in b) ≡ k)
accepted_is = accepted.accepted

-- 'one list of rules under one head has one encoding'
pub one_encoding : (b b' : List ℕ) (n l family k : ℕ) → ((i : ℕ) → get_or b i 0 < 256) → ((i : ℕ) → get_or b' i 0 < 256)
    → read_of b ≡ Book n l family k → read_of b' ≡ Book n l family k → rules_in b ≡ rules_in b' → b ≡ b'
one_encoding = accepted.one_encoding
