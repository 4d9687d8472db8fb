-- Refusals: each way out of making a book, from the check of the table on.
use native.Mathlib.Omega.{arith}
use Prim.Native.Nat.{ℕ, zero, suc, ◌/◌, ◌≤◌, ◌<◌}
use mathlib.Core.Path.{◌≡◌, refl, sym, ◌∙◌}
use mathlib.Core.List.{List}
use lib.ListN.{length, take, replicate}
use borrow.Author.Tests.{lt-ltb, le-ltb}
use Rattle.std.specs.Prelude as std
use Rattle.std.specs.Prelude.{Result, Ok, Err, Some, None}
use Rattle.meaning.specs.Rows.{rows_of}
use Rattle.meaning.proofs.Flat.{rows_whole}
use Rattle.meaning.proofs.Alike.{alike_length, alike_lent}
use Rattle.meaning.specs.Closed.{open_rows}
use Rattle.literals.specs.Kinds.{family_of, number_of}
use Rattle.tables.specs.declared.Flaw.{Flaw}
use Rattle.tables.specs.declared.Open as tables
use Rattle.tables.specs.declared.Open.TheVariants.{Pair, Triple}
use Rattle.tables.specs.Check.{checked_of, Passes}
use Rattle.tables.proofs.laws.Promised.{checked_sound}
use Rattle.tables.specs.Inner.{shown}
use Rattle.makers.specs.declared.Made.{Made}
use Rattle.makers.specs.declared.Unmade.{Unmade}
use Rattle.makers.specs.declared.Unmade.TheVariants.{Flawed, Family, Open}
use Rattle.makers.specs.declared.rows.Source.{Source}
use Rattle.makers.specs.Inner.{book_of}
use Rattle.makers.specs.Made.{book_alike, closed_of, made_of}

pub made_passes : (n l : ℕ) (table : List ℕ) (k : ℕ) → Ok k ≡ checked_of n l table → Passes n l table (length table / l)
made_passes n l table k e =
    let p = (checked_sound n l table k).0 (sym e) in
    rw (rows_whole l table k p.limited.wide p.whole) p

number_back : (family : ℕ) → family ≤ 3 → number_of (family_of family) ≡ family
number_back zero h = refl
number_back (suc zero) h = refl
number_back (suc (suc zero)) h = refl
number_back (suc (suc (suc zero))) h = refl
number_back (suc (suc (suc (suc f)))) h = absurd (omega arith)

module _ (n l family : ℕ) (table : List ℕ) where
  pub alike_book : (s : Source) (room : List ℕ) (r : Result Made Unmade × List ℕ) → family ≤ 3 → Passes n l table (length table / l) → s.n ≡ n
      → s.sizes.now ≡ take l (replicate 16 n) → s.family ≡ family_of family → s.table.now ≡ table → r ≡ book_of s room → r ≡ book_alike n l family table room
  unfolding book_alike book_of
  alike_book s room r f p en es ef et q = q ∙ rw (en, es, ef, et, number_back family f, alike_lent n l p.limited.narrow, alike_length n l)

  module _ (room : List ℕ) where
    pub closed_family : 3 < family → ◌≡◌ {A = Result Made Unmade × List ℕ} (Err Family, room) (closed_of n l family table room)
    unfolding closed_of
    closed_family h = rw (lt-ltb 3 family h)

    module _ (h : family ≤ 3) (o : std.Option tables.Open) (q : shown o ≡ open_rows family (rows_of l table)) where
      pub closed_open : (rows : tables.Open) → o ≡ Some rows
          → ◌≡◌ {A = Result Made Unmade × List ℕ} (Err (Open rows), room) (closed_of n l family table room)
      unfolding closed_of
      closed_open (Pair i j) e = rw (le-ltb 3 family h, ← q, e)
      closed_open (Triple i j k) e = rw (le-ltb 3 family h, ← q, e)

      pub closed_book : (r : Result Made Unmade × List ℕ) → o ≡ None → r ≡ book_alike n l family table room → r ≡ closed_of n l family table room
      unfolding closed_of
      closed_book r e p = p ∙ rw (le-ltb 3 family h, ← q, e)

    pub made_flawed : (f : Flaw) → Err f ≡ checked_of n l table → ◌≡◌ {A = Result Made Unmade × List ℕ} (Err (Flawed f), room) (made_of n l family table room)
    unfolding made_of
    made_flawed f e = rw (← e)

    pub made_sound : (k : ℕ) (r : Result Made Unmade × List ℕ) → Ok k ≡ checked_of n l table → r ≡ closed_of n l family table room → r ≡ made_of n l family table room
    unfolding made_of
    made_sound k r e p = p ∙ rw (← e)
