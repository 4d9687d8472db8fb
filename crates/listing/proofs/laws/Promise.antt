-- Promise: pages of an accepted book from the beginning, each with the cursor that the last one gave, end; together they show every
-- permitted combination once, ascending, and their steps add up to the visited prefixes. Known by the contract of `page` alone.
use Prim.Native.Nat.{ℕ, zero, suc, ◌+◌, ◌*◌, ◌-◌, ◌/◌, ◌≤◌}
use native.Mathlib.Nat.{le-div_iff_mul-le}
use native.Mathlib.Omega.{arith}
use mathlib.Core.Path.{◌≡◌, refl, sym, ap, ◌∙◌}
use mathlib.Core.Bool.{Bool, true, false, cond}
use mathlib.Core.List.{List, [], ◌∷◌, ◌++◌, append-nil}
use lib.Dec.{T}
use lib.ListN.{length, drop, replicate}
use lib.Seq.{take_at, drop-append_seam}
use borrow.Author.Tests.{ne_eqb, le-ltb, le-leb}
use Rattle.meaning.specs.Lists.{is_nil}
use Rattle.meaning.specs.Rows.{Row, Sizes, alike, begins}
use Rattle.meaning.specs.Bytes.{rules_in}
use Rattle.meaning.specs.Listing.{dead, visits, shown, front, Page, after, page}
use Rattle.books.specs.Format.{Book, read_of}
use Rattle.meaning.proofs.Tests.{is_yes}
use Rattle.meaning.proofs.Listing.{run, all_rows, all_steps}
use Rattle.meaning.proofs.Visited.{begins_nil}
use Rattle.meaning.proofs.Dead.{AllDecided, good_decided}
use Rattle.meaning.proofs.Paged.{page_begins, page_moves}
use Rattle.meaning.proofs.Runs.{ended, Enough as EnoughRooms, run_whole, run_moves}
use Rattle.meaning.proofs.Alike.{alike_length}
use Rattle.books.proofs.laws.Accepted.{headed}
use Rattle.listing.specs.Cursors.{prefix_of, cursor_of, all_zero, fits, clean, cursor_ok}
use Rattle.listing.specs.Pages.{P, told, listed_in, page_in, page_by, page_of, flat}
use Rattle.listing.specs.Promise.{run_of, shown_in, all_shown, all_made, last_done, Enough, Whole, steps_in, finished_in}
use Rattle.listing.proofs.laws.Prefixes.{prefix_cursor, begins_length}
use Rattle.listing.proofs.laws.Filled.{flat_append, flat_length}

-- ---- the cursor of a prefix within the sizes is good

zeros_zero : (k : ℕ) → all_zero (replicate k 0) ≡ true
unfolding all_zero
zeros_zero zero = refl
zeros_zero (suc k) = zeros_zero k

cursor_good : (ns : Sizes) (q : Row) → T (begins ns q) → cursor_ok ns (cursor_of q) ≡ true
unfolding cursor_ok cursor_of fits clean
cursor_good ns q h =
    rw (le-leb (length q) (length ns) (begins_length ns q h), prefix_cursor q, is_yes (begins ns q) h, drop-append_seam q (replicate (16 - length q) 0))
    (zeros_zero (16 - length q))

module _ (b : List ℕ) (n l family k : ℕ) (h : read_of b ≡ Book n l family k) where
  abbrev ns : Sizes
  ns = alike n l

  abbrev d : Row → Bool
  d = dead (rules_in b)

  settings : 1 ≤ length ns
  settings = omega (arith, alike_length n l, (headed b n l family k h).well_formed.l_low)

  decided : AllDecided (length ns) (rules_in b)
  decided = good_decided ns family (rules_in b) (headed b n l family k h).well_formed.all_good

  -- a page with room and budget is the page that document 01 asks for
  listed : (q : Row) (o : List ℕ) (budget : ℕ) → T (begins ns q) → (l ≤ length o) × (1 ≤ budget) × (budget ≤ 65535)
      → page_of b (cursor_of q) budget o ≡ told o (page ns d (length o / length ns) budget q)
  unfolding page_of page_by page_in listed_in
  listed q o budget i e =
      rw (h, cursor_good ns q i, le-ltb (length o) (length ns) (omega (arith, e.0, alike_length n l)), ne_eqb budget 0 (λ z. omega (arith, e.1)), le-ltb 65535 budget e.2)
      (ap (λ (x : Row). told o (page ns d (length o / length ns) budget x)) (prefix_cursor q))

  -- ---- one page

  -- THEOREM: finished says exactly that no visited prefix comes after the cursor that the page gives
  pub page_finished : (q : Row) (o : List ℕ) (budget : ℕ) → T (begins ns q) → (l ≤ length o) × (1 ≤ budget) × (budget ≤ 65535)
      → finished_in (page_of b (cursor_of q) budget o).0.outcome ≡ is_nil (after ns d (prefix_of (page_of b (cursor_of q) budget o).0.cursor))
  page_finished q o budget i e =
      rw (listed q o budget i e) (sym (ap (λ (x : Row). is_nil (after ns d x)) (prefix_cursor (page ns d (length o / length ns) budget q).last)))

  some_room : (o : List ℕ) → l ≤ length o → 1 ≤ length o / length ns
  some_room o e = (le-div_iff_mul-le {k = length ns} {x = 1} {y = length o} settings).1 (omega (arith, alike_length n l))

  -- THEOREM: an unfinished page has made at least one step
  pub page_steps : (q : Row) (o : List ℕ) (budget : ℕ) → T (begins ns q) → (l ≤ length o) × (1 ≤ budget) × (budget ≤ 65535)
      → finished_in (page_of b (cursor_of q) budget o).0.outcome ≡ false → 1 ≤ steps_in (page_of b (cursor_of q) budget o).0.outcome
  page_steps q o budget i e f =
      rw (listed q o budget i e) (page_moves ns d (length o / length ns) budget q (some_room o e.0) e.1 (rw (listed q o budget i e) at f))

  abbrev rooms : List (List ℕ × ℕ) → List (ℕ × ℕ)
  rooms [] = []
  rooms (j ∷ ks) = (length j.0 / length ns, j.1) ∷ rooms ks

  rooms_length : (ks : List (List ℕ × ℕ)) → length (rooms ks) ≡ length ks
  rooms_length [] = refl
  rooms_length (j ∷ ks) = ap suc (rooms_length ks)

  rooms_enough : (ks : List (List ℕ × ℕ)) → Enough l ks → EnoughRooms (rooms ks)
  rooms_enough [] e = tt
  rooms_enough (j ∷ ks) e = ((some_room j.0 e.0.0, e.0.1), rooms_enough ks e.1)

  -- what the calls and the pages of the definitions have the same
  record Same (X : List P) (Y : List Page) : Type 0 where
    pub shown : all_shown l X ≡ flat (all_rows Y)
    pub made : all_made X ≡ all_steps Y
    pub done : (t : Bool) → last_done t X ≡ ended t Y

  shown_told : (o : List ℕ) (fit budget : ℕ) (q : Row) → shown_in l (told o (page ns d fit budget q)) ≡ flat (page ns d fit budget q).rows
  shown_told o fit budget q =
      let F = (page ns d fit budget q).rows in
      take_at (flat F) (drop (length (flat F)) o) (length F * l) (flat_length ns d (front (shown ns d) fit budget (after ns d q)) ∙ ap (λ (m : ℕ). length F * m) (alike_length n l))

  run_same : (ks : List (List ℕ × ℕ)) (q : Row) → T (begins ns q) → Enough l ks → Same (run_of b ks (cursor_of q)) (run ns d (rooms ks) q)
  run_same [] q i e = record { shown = refl; made = refl; done = λ t. refl }
  run_same (j ∷ ks) q i e =
      rw (listed q j.0 j.1 i e.0) (go g.finished (run_same ks g.last (page_begins ns d (length j.0 / length ns) j.1 q i) e.1))
    where
      g : Page
      g = page ns d (length j.0 / length ns) j.1 q

      first : shown_in l (told j.0 g) ≡ flat g.rows
      first = shown_told j.0 (length j.0 / length ns) j.1 q

      go : (t : Bool) → Same (run_of b ks (cursor_of g.last)) (run ns d (rooms ks) g.last)
          → Same (told j.0 g ∷ cond t [] (run_of b ks (cursor_of g.last))) (g ∷ cond t [] (run ns d (rooms ks) g.last))
      go true s = record {
        shown = ap (λ (x : List ℕ). x ++ []) first ∙ append-nil (flat g.rows) ∙ ap flat (sym (append-nil g.rows));
        made = refl;
        done = λ t. refl;
      }
      go false s = record {
        shown = ap (λ (x : List ℕ). x ++ all_shown l (run_of b ks (cursor_of g.last))) first
            ∙ ap (λ (x : List ℕ). flat g.rows ++ x) s.shown ∙ sym (flat_append g.rows (all_rows (run ns d (rooms ks) g.last)));
        made = ap (λ (m : ℕ). g.steps + m) s.made;
        done = λ t. s.done g.finished;
      }

  pub listing_whole : (ks : List (List ℕ × ℕ)) → Enough l ks → 1 ≤ length ks → length (visits ns d) ≤ length ks → Whole b n l family k h (run_of b ks (cursor_of []))
  listing_whole ks e o v =
      let s = run_same ks [] (begins_nil ns) e in
      let w = run_whole ns (rules_in b) settings decided (rooms ks) (rooms_enough ks e) (omega (arith, rooms_length ks)) (omega (arith, rooms_length ks)) in
      record { shown = s.shown ∙ ap flat w.rows; made = s.made ∙ w.steps; done = s.done false ∙ w.ends }

  -- THEOREM: a run that has not ended has made at least one step for each call: so no run goes on for longer
  pub listing_moves : (ks : List (List ℕ × ℕ)) → Enough l ks → last_done false (run_of b ks (cursor_of [])) ≡ false → length ks ≤ all_made (run_of b ks (cursor_of []))
  listing_moves ks e f =
      let s = run_same ks [] (begins_nil ns) e in
      omega (arith, run_moves ns d (rooms ks) [] (rooms_enough ks e) (sym (s.done false) ∙ f), rooms_length ks, s.made)
