-- Filled: what a page has done at its end, told by the front part of the prefixes that it goes through.
use Prim.Native.Nat.{ℕ, zero, suc, ◌+◌, ◌*◌, ◌-◌, ◌≤◌, ◌<◌}
use native.Mathlib.Nat.{mul-le-mul_right, add-zero, sub-zero}
use native.Mathlib.Omega.{arith}
use mathlib.Core.Path.{◌≡◌, refl, sym, ap, ◌∙◌}
use mathlib.Core.Bool.{Bool, true, false, cond, not, ◌&&◌, and_comm}
use mathlib.Core.List.{List, [], ◌∷◌, ◌++◌, append_assoc}
use lib.Dec.{eqb}
use lib.ListN.{length, length-append, drop}
use borrow.Author.Tests.{eqb-true}
use Rattle.meaning.specs.Lists.{keep, cons_if, last_or}
use Rattle.meaning.specs.Rows.{Row, Sizes}
use Rattle.meaning.specs.Listing.{shown, less, front}
use Rattle.books.specs.Inner.{put_at}
use Rattle.meaning.proofs.Paged.{front_rows}
use Rattle.books.proofs.laws.Put.{put_at_length, put_at_nothing, put_at_put_at}
use Rattle.listing.specs.declared.cursor.Cursor.{Cursor}
use Rattle.listing.specs.declared.steps.Walk.{Walk}
use Rattle.listing.specs.Cursors.{prefix_of, cursor_of}
use Rattle.listing.specs.Inner.{Plain, S, walk_of, move_of, visit_of, runs, flag}
use Rattle.listing.specs.Pages.{flat}
use Rattle.listing.proofs.laws.Prefixes.{prefix_cursor, cursor_len}
use Rattle.listing.proofs.laws.Steps.{runs_nil, runs_cons, runs_shut, shut_rows, shut_steps, open_both}

pub flat_append : (xs ys : List Row) → flat (xs ++ ys) ≡ flat xs ++ flat ys
flat_append [] ys = refl
flat_append (x ∷ xs) ys = rw (flat_append xs ys) (sym (append_assoc x (flat xs) (flat ys)))

-- the last cursor, and whether it is dead
abbrev last_c : Cursor → List Row → Cursor
last_c c [] = c
last_c c (x ∷ xs) = last_c (cursor_of x) xs

abbrev pub last_d : (Row → Bool) → ℕ → List Row → ℕ
last_d d n [] = n
last_d d n (x ∷ xs) = last_d d (flag (d x)) xs

last_cursor : (p : Row) (F : List Row) → last_c (cursor_of p) F ≡ cursor_of (last_or p F)
last_cursor p [] = refl
last_cursor p (x ∷ F) = last_cursor x F

pub last_dead : (d : Row → Bool) (x : Row) (F : List Row) → last_d d (flag (d x)) F ≡ flag (d (last_or x F))
last_dead d x [] = refl
last_dead d x (y ∷ F) = last_dead d y F

module _ (ns : Sizes) (d : Row → Bool) where
  abbrev move : Row → S → S
  move x s = move_of (length ns) (d x) (cursor_of x) s

  -- a visit, by whether it is a row, and by the values that are written
  abbrev written : Bool → Row → Row → S → S
  written b x y s =
      cond b
      (walk_of (cursor_of x) (d x) (s.0.rows + 1) (s.0.steps + 1), put_at s.1 (s.0.rows * length ns) y)
      (walk_of (cursor_of x) (d x) s.0.rows (s.0.steps + 1), s.1)

  abbrev moved : Bool → Row → S → S
  moved b x s = written b x x s

  move_shown : (x : Row) (s : S) → move x s ≡ moved (shown ns d x) x s
  move_shown x s =
      ap (λ (k : ℕ). written (not (d x) && eqb k (length ns)) x (prefix_of (cursor_of x)) s) (cursor_len x)
      ∙ ap (λ (b : Bool). written b x (prefix_of (cursor_of x)) s) (and_comm (not (d x)) (eqb (length x) (length ns)))
      ∙ ap (λ (y : Row). written (shown ns d x) x y s) (prefix_cursor x)

  abbrev moves_of : List Row → S → S
  moves_of [] s = s
  moves_of (x ∷ xs) s = moves_of xs (move x s)

  moved_rows : (fit : ℕ) (b : Bool) (x : Row) (s : S) → s.0.rows < fit → fit - (moved b x s).0.rows ≡ less b (fit - suc s.0.rows)
  moved_rows fit true x s h = omega arith
  moved_rows fit false x s h = omega arith

  moved_steps : (b : Bool) (x : Row) (s : S) → (moved b x s).0.steps ≡ s.0.steps + 1
  moved_steps true x s = refl
  moved_steps false x s = refl

  -- the code's visits stop where `front` does
  runs_front : (fit budget : ℕ) (L : List Row) (s : S)
      → runs d (length ns) fit budget L s ≡ moves_of (front (shown ns d) (fit - s.0.rows) (budget - s.0.steps) L) s
  runs_front fit budget [] s = runs_nil d (length ns) fit budget s
  runs_front fit budget (x ∷ L) s = go (fit - s.0.rows) (budget - s.0.steps) refl refl (runs_front fit budget L (move x s))
    where
      go : (K C : ℕ) → fit - s.0.rows ≡ K → budget - s.0.steps ≡ C
          → runs d (length ns) fit budget L (move x s) ≡ moves_of (front (shown ns d) (fit - (move x s).0.rows) (budget - (move x s).0.steps) L) (move x s)
          → runs d (length ns) fit budget (x ∷ L) s ≡ moves_of (front (shown ns d) K C (x ∷ L)) s
      go zero C e f ih = runs_shut d (length ns) fit budget (x ∷ L) s (shut_rows fit budget s.0 (omega arith))
      go (suc K) zero e f ih = runs_shut d (length ns) fit budget (x ∷ L) s (shut_steps fit budget s.0 (omega arith))
      go (suc K) (suc C) e f ih =
          let k : K ≡ fit - suc s.0.rows = omega arith in
          let i : fit - (move x s).0.rows ≡ less (shown ns d x) K =
          ap (λ (t : S). fit - t.0.rows) (move_shown x s) ∙ moved_rows fit (shown ns d x) x s (omega arith) ∙ ap (λ (n : ℕ). less (shown ns d x) n) (sym k) in
          let j : budget - (move x s).0.steps ≡ C = omega (arith, ap (λ (t : S). t.0.steps) (move_shown x s) ∙ moved_steps (shown ns d x) x s) in
          let seen : visit_of d (length ns) fit budget x s ≡ move x s = rw (open_both fit budget s.0 (omega arith) (omega arith)) in
          runs_cons d (length ns) fit budget x L s ∙ ap (λ (t : S). runs d (length ns) fit budget L t) seen
          ∙ ih ∙ ap (λ (n : ℕ). moves_of (front (shown ns d) n (budget - (move x s).0.steps) L) (move x s)) i
          ∙ ap (λ (n : ℕ). moves_of (front (shown ns d) (less (shown ns d x) K) n L) (move x s)) j

  -- ---- the state after the visits F

  abbrev end_of : List Row → S → S
  end_of F s = (
    record { last = last_c s.0.last F; dead = last_d d s.0.dead F; rows = s.0.rows + length (keep (shown ns d) F); steps = s.0.steps + length F },
    put_at s.1 (s.0.rows * length ns) (flat (keep (shown ns d) F)),
  )

  shown_length : (x : Row) → shown ns d x ≡ true → length x ≡ length ns
  shown_length x e = eqb-true (length x) (length ns) (left (eqb (length x) (length ns)) (not (d x)) e)
    where
      left : (a b : Bool) → a && b ≡ true → a ≡ true
      left true b h = refl
      left false b h = h

  pub flat_length : (F : List Row) → length (flat (keep (shown ns d) F)) ≡ length (keep (shown ns d) F) * length ns
  flat_length [] = omega arith
  flat_length (x ∷ F) = go (shown ns d x) refl (flat_length F)
    where
      go : (b : Bool) → shown ns d x ≡ b → length (flat (keep (shown ns d) F)) ≡ length (keep (shown ns d) F) * length ns
          → length (flat (cons_if b x (keep (shown ns d) F))) ≡ length (cons_if b x (keep (shown ns d) F)) * length ns
      go true e ih = omega (arith, ih, length-append x (flat (keep (shown ns d) F)), shown_length x e)
      go false e ih = ih

  end_moved : (b : Bool) (x : Row) (F : List Row) (s : S) → shown ns d x ≡ b → (s.0.rows + length (cons_if b x (keep (shown ns d) F))) * length ns ≤ length s.1
      → end_of F (moved b x s)
      ≡ (
        record { last = last_c (cursor_of x) F; dead = last_d d (flag (d x)) F; rows = s.0.rows + length (cons_if b x (keep (shown ns d) F)); steps = s.0.steps + suc (length F) },
        put_at s.1 (s.0.rows * length ns) (flat (cons_if b x (keep (shown ns d) F))),
      )
  end_moved true x F s e h =
      let k : ℕ = length (keep (shown ns d) F) in
      let r : s.0.rows + 1 + k ≡ s.0.rows + suc k = omega arith in
      let t : s.0.steps + 1 + length F ≡ s.0.steps + suc (length F) = omega arith in
      let l = shown_length x e in
      let at : (s.0.rows + 1) * length ns ≡ s.0.rows * length ns + length x = omega arith in
      let big : s.0.rows * length ns + length x + length (flat (keep (shown ns d) F)) ≤ length s.1 = omega (arith, flat_length F) in
      rw (r, t, at, put_at_put_at s.1 (s.0.rows * length ns) x (flat (keep (shown ns d) F)) big)
  end_moved false x F s e h =
      let t : s.0.steps + 1 + length F ≡ s.0.steps + suc (length F) = omega arith in
      rw t

  moved_room : (b : Bool) (x : Row) (F : List Row) (s : S) → shown ns d x ≡ b → (s.0.rows + length (cons_if b x (keep (shown ns d) F))) * length ns ≤ length s.1
      → ((moved b x s).0.rows + length (keep (shown ns d) F)) * length ns ≤ length (moved b x s).1
  moved_room true x F s e h =
      let l = shown_length x e in
      rw (put_at_length s.1 (s.0.rows * length ns) x (omega arith)) (omega arith)
  moved_room false x F s e h = h

  moves_end : (F : List Row) (s : S) → (s.0.rows + length (keep (shown ns d) F)) * length ns ≤ length s.1 → moves_of F s ≡ end_of F s
  moves_end [] s h = sym (rw (add-zero s.0.rows, add-zero s.0.steps, put_at_nothing s.1 (s.0.rows * length ns)))
  moves_end (x ∷ F) s h =
      ap (λ (t : S). moves_of F t) (move_shown x s)
      ∙ moves_end F (moved (shown ns d x) x s) (moved_room (shown ns d x) x F s refl h)
      ∙ end_moved (shown ns d x) x F s refl h

  put_front : (o bytes : List ℕ) → put_at o 0 bytes ≡ bytes ++ drop (length bytes) o
  unfolding put_at
  put_front o bytes = let e : 0 + length bytes ≡ length bytes = omega arith in rw e

  -- the state at a page's end
  abbrev pub filled_of : Row → List Row → List ℕ → S
  filled_of p F o = (
    record { last = cursor_of (last_or p F); dead = last_d d 0 F; rows = length (keep (shown ns d) F); steps = length F },
    flat (keep (shown ns d) F) ++ drop (length (flat (keep (shown ns d) F))) o,
  )

  pub page_filled : (fit budget : ℕ) (L : List Row) (c : Cursor) (o : List ℕ) → Plain c → fit * length ns ≤ length o
      → runs d (length ns) fit budget L (record { last = c; dead = 0; rows = 0; steps = 0 }, o) ≡ filled_of (prefix_of c) (front (shown ns d) fit budget L) o
  page_filled fit budget L c o p h =
      let F : List Row = front (shown ns d) fit budget L in
      let w : Walk = record { last = c; dead = 0; rows = 0; steps = 0 } in
      let fits : (0 + length (keep (shown ns d) F)) * length ns ≤ length o =
      omega (arith, h, mul-le-mul_right (length ns) (front_rows (shown ns d) fit budget L)) in
      let r : 0 + length (keep (shown ns d) F) ≡ length (keep (shown ns d) F) = omega arith in
      let t : 0 + length F ≡ length F = omega arith in
      let z : 0 * length ns ≡ 0 = omega arith in
      let last : last_c c F ≡ cursor_of (last_or (prefix_of c) F) = ap (λ (x : Cursor). last_c x F) p.same ∙ last_cursor (prefix_of c) F in
      runs_front fit budget L (w, o)
      ∙ ap (λ (K : ℕ). moves_of (front (shown ns d) K (budget - 0) L) (w, o)) (sub-zero fit)
      ∙ ap (λ (K : ℕ). moves_of (front (shown ns d) fit K L) (w, o)) (sub-zero budget)
      ∙ moves_end F (w, o) fits
      ∙ rw (r, t, z, last, put_front o (flat (keep (shown ns d) F)))
