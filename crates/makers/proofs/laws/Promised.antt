-- Promised: a book is given just for a sound table that is closed for the family, with room enough; it is accepted and permits exactly the rows.
use Prim.Native.Nat.{ℕ, ◌/◌, ◌≤◌}
use native.Mathlib.Omega.{arith}
use mathlib.Core.Path.{◌≡◌, refl, ap}
use mathlib.Core.Logic.{◌↔◌}
use mathlib.Core.List.{List, ◌++◌, Memᴰ}
use lib.Dec.{T}
use lib.ListN.{length, take, drop}
use lib.Seq.{take-append_seam, drop-append_seam}
use Rattle.std.specs.Prelude.{Result, Ok}
use Rattle.meaning.specs.Rows.{Row, alike, within, rows_of}
use Rattle.meaning.specs.Rules.{Rule, all_met}
use Rattle.meaning.specs.Bytes.{rules_in}
use Rattle.books.specs.Format.{Book as Accepted, read_of}
use Rattle.meaning.proofs.Given.{open_none}
use Rattle.meaning.proofs.Made.{exact}
use Rattle.meaning.proofs.Bounds.{made_well_formed}
use Rattle.meaning.proofs.Encoded.{encoded_rules}
use Rattle.meaning.proofs.Flat.{rows_count}
use Rattle.books.proofs.laws.Written.{written}
use Rattle.tables.proofs.laws.Promised.{checked_sound}
use Rattle.makers.specs.declared.Made.{Made}
use Rattle.makers.specs.declared.Unmade.{Unmade}
use Rattle.makers.specs.Made.{number_of, rules_made, bytes_made, made_of, Tested, bytes, Grants}
use Rattle.makers.proofs.laws.Cases.{Makes, flawed, unknown, unclosed, narrow, given, made_cases, flaw_number}

module _ (n l family : ℕ) (table : List ℕ) where
  abbrev rules : List Rule
  rules = rules_made n l family table

  grants : (room : List ℕ) (o : Result Made Unmade × List ℕ) → Makes n l family table room o → number_of o.0 ≡ 0 → Grants n l family table room
  grants room o (flawed f e) q = absurd (omega (arith, flaw_number f))
  grants room o (unknown t h) q = absurd (omega arith)
  grants room o (unclosed t h numbers e) q = absurd (omega arith)
  grants room o (narrow t h e k) q = absurd (omega arith)
  grants room o (given t h e k) q =
      record { tested = t; families = h; closed = (open_none family (alike n l) (rows_of l table) t.rows_sound).0 e; enough = k }

  makes : (room : List ℕ) (o : Result Made Unmade × List ℕ) → Makes n l family table room o → Grants n l family table room
      → o ≡ (Ok (record { length = length (bytes n l family table); rules = length rules }), bytes n l family table ++ drop (length (bytes n l family table)) room)
  makes room o (flawed f e) g =
      let q = (checked_sound n l table (length table / l)).1 g.tested in
      let z : ◌≡◌ {A = ℕ} 0 1 = cc in
      absurd (omega arith)
  makes room o (unknown t h) g = absurd (omega (arith, g.families))
  makes room o (unclosed t h numbers e) g =
      let q = (open_none family (alike n l) (rows_of l table) t.rows_sound).1 g.closed in
      let z : ◌≡◌ {A = ℕ} 0 1 = cc in
      absurd (omega arith)
  makes room o (narrow t h e k) g = absurd (omega (arith, g.enough))
  makes room o (given t h e k) g = refl

  -- a book is given just where the table is sound and closed for the family, and the room is long enough
  pub made_given : (room : List ℕ) → (number_of (made_of n l family table room).0 ≡ 0) ↔ Grants n l family table room
  made_given room = (
    grants room (made_of n l family table room) (made_cases n l family table room),
    λ g. rw (makes room (made_of n l family table room) (made_cases n l family table room) g),
  )

  -- ---- what is given

  -- exactly the book at the start of the room, whose rules permit exactly the rows; what is beyond it stays
  pub record Gives (room : List ℕ) : Type 0 where
    pub answer : (made_of n l family table room).0 ≡ Ok (record { length = length (bytes n l family table); rules = length rules })
    pub start : take (length (bytes n l family table)) (made_of n l family table room).1 ≡ bytes n l family table
    pub beyond : drop (length (bytes n l family table)) (made_of n l family table room).1 ≡ drop (length (bytes n l family table)) room
    pub accepted : read_of (bytes n l family table) ≡ Accepted n l family (length rules)
    pub rules_are : rules_in (bytes n l family table) ≡ rules
    pub permits : (x : Row) → T (within (alike n l) x) → T (all_met rules x) ↔ Memᴰ x (rows_of l table)

  pub made_gives : (room : List ℕ) → Grants n l family table room → Gives room
  made_gives room g =
      let e = makes room (made_of n l family table room) (made_cases n l family table room) g in
      let t = g.tested in
      let w = made_well_formed n l family (rows_of l table) t.limited.some t.limited.few t.limited.wide t.limited.narrow g.families
      (omega (arith, rows_count l table, t.few)) t.rows_sound g.closed in
      record {
        answer = ap (λ (o : Result Made Unmade × List ℕ). o.0) e;
        start = rw e (take-append_seam (bytes n l family table) (drop (length (bytes n l family table)) room));
        beyond = rw e (drop-append_seam (bytes n l family table) (drop (length (bytes n l family table)) room));
        accepted = written n l family rules w;
        rules_are = encoded_rules n l family rules;
        permits = λ x h. exact family (alike n l) (rows_of l table) x t.rows_sound g.closed h;
      }

-- general rules are given for every sound table with room enough
pub made_general : (n l : ℕ) (table room : List ℕ) → Tested n l table → length (bytes_made n l 0 table) ≤ length room → number_of (made_of n l 0 table room).0 ≡ 0
made_general n l table room t h = (made_given n l 0 table room).1 (record { tested = t; families = omega arith; closed = tt; enough = h })
