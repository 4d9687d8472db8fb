-- Cases: the answers in document 01's order, each with what it says. A refusal writes nothing.
use Prim.Native.Nat.{ℕ, ◌≤◌, ◌<◌}
use native.Mathlib.Omega.{arith}
use mathlib.Core.Path.{◌≡◌, refl}
use mathlib.Core.Logic.{◌≢◌, inl, inr}
use mathlib.Core.List.{List, ◌++◌}
use mathlib.Core.Option.{Option, none, some}
use lib.ListN.{length, drop}
use borrow.Author.Tests.{lt-ltb, le-ltb, le-leb, lt-leb}
use Rattle.std.specs.Prelude.{Result, Ok, Err}
use Rattle.meaning.specs.Rows.{rows_of}
use Rattle.meaning.specs.Rules.{Rule}
use Rattle.meaning.specs.Closed.{open_rows}
use Rattle.tables.specs.declared.Flaw.{Flaw}
use Rattle.tables.specs.declared.Flaw.TheVariants.{Limits, Length, Rows, Value, Order}
use Rattle.tables.specs.Check.{checked_of}
use Rattle.meaning.proofs.Tests.{lt_or_le}
use Rattle.meaning.proofs.Flat.{rows_whole}
use Rattle.tables.proofs.laws.Promised.{checked_sound}
use Rattle.makers.specs.declared.Made.{Made}
use Rattle.makers.specs.declared.Unmade.{Unmade}
use Rattle.makers.specs.declared.Unmade.TheVariants.{Flawed, Family, Open, Room}
use Rattle.makers.specs.Made.{number_of, rules_made, bytes_made, open_as, unless_flawed, unless_open, fitting, book_alike, closed_of, made_of, Tested}

-- ---- the numbers

pub flaw_number : (f : Flaw) → (0 < number_of (Err (Flawed f))) × (number_of (Err (Flawed f)) ≤ 5)
flaw_number Limits = omega arith
flaw_number Length = omega arith
flaw_number (Rows k) = omega arith
flaw_number (Value p) = omega arith
flaw_number (Order k) = omega arith

module _ (n l family : ℕ) (table : List ℕ) where
  abbrev rules : List Rule
  rules = rules_made n l family table

  abbrev bytes : List ℕ
  bytes = bytes_made n l family table

  pub data Makes (room : List ℕ) : Result Made Unmade × List ℕ → Type 0 where
    flawed : (f : Flaw) → checked_of n l table ≡ Err f → Makes room (Err (Flawed f), room)
    unknown : Tested n l table → 3 < family → Makes room (Err Family, room)
    unclosed : Tested n l table → family ≤ 3 → (numbers : List ℕ) → open_rows family (rows_of l table) ≡ some numbers → Makes room (Err (Open (open_as numbers)), room)
    narrow : Tested n l table → family ≤ 3 → open_rows family (rows_of l table) ≡ none → length room < length bytes → Makes room (Err (Room (length bytes)), room)
    given : Tested n l table → family ≤ 3 → open_rows family (rows_of l table) ≡ none → length bytes ≤ length room
        → Makes room (Ok (record { length = length bytes; rules = length rules }), bytes ++ drop (length bytes) room)

  module _ (room : List ℕ) where
    book_cases : Tested n l table → family ≤ 3 → open_rows family (rows_of l table) ≡ none → Makes room (book_alike n l family table room)
    unfolding book_alike fitting
    book_cases t h e = elim (lt_or_le (length room) (length bytes)) [
      | inl k ↦ rw (lt-leb (length bytes) (length room) k) (narrow t h e k)
      | inr k ↦ rw (le-leb (length bytes) (length room) k) (given t h e k)
    ]

    closed_cases : Tested n l table → Makes room (closed_of n l family table room)
    unfolding closed_of
    closed_cases t = elim (lt_or_le 3 family) [
      | inl h ↦ rw (lt-ltb 3 family h) (unknown t h)
      | inr h ↦ rw (le-ltb 3 family h) (go h (open_rows family (rows_of l table)) refl)
    ]
      where
        go : family ≤ 3 → (o : Option (List ℕ)) → open_rows family (rows_of l table) ≡ o → Makes room (unless_open o room (book_alike n l family table room))
        go h none e = book_cases t h e
        go h (some numbers) e = unclosed t h numbers e

    pub made_cases : Makes room (made_of n l family table room)
    unfolding made_of
    made_cases = go (checked_of n l table) refl
      where
        go : (a : Result ℕ Flaw) → checked_of n l table ≡ a → Makes room (unless_flawed a room (closed_of n l family table room))
        go (Err f) e = flawed f e
        go (Ok k) e =
            let p = (checked_sound n l table k).0 e in
            closed_cases (rw (rows_whole l table k p.limited.wide p.whole) p)

  -- ---- refusals

  stays : (room : List ℕ) (o : Result Made Unmade × List ℕ) → Makes room o → number_of o.0 ≢ 0 → o.1 ≡ room
  stays room o (flawed f e) n = refl
  stays room o (unknown t h) n = refl
  stays room o (unclosed t h numbers e) n = refl
  stays room o (narrow t h e k) n = refl
  stays room o (given t h e k) n = absurd (n refl)

  -- a refusal writes nothing
  pub made_stays : (room : List ℕ) → number_of (made_of n l family table room).0 ≢ 0 → (made_of n l family table room).1 ≡ room
  made_stays room = stays room (made_of n l family table room) (made_cases room)
