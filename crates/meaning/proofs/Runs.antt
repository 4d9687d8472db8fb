-- A run of pages from the beginning ends, and its pages together show every permitted combination once, ascending, in as many steps
-- as there are visited prefixes.
use Prim.Native.Nat.{ℕ, suc, ◌+◌, ◌-◌, ◌≤◌}
use native.Mathlib.Omega.{arith}
use mathlib.Core.Path.{◌≡◌, refl, sym, ap, ◌∙◌}
use mathlib.Core.Bool.{Bool, true, false, cond, true≢false}
use mathlib.Core.List.{List, [], ◌∷◌, ◌++◌, append-nil}
use lib.ListN.{length, length-append}
use Rattle.meaning.specs.Lists.{keep, is_nil, last_or, All}
use Rattle.meaning.proofs.ListLaws.{keep_append, is_nil_nil, is_nil_some}
use Rattle.meaning.specs.Rows.{Row, Sizes}
use Rattle.meaning.specs.Rules.{Rule, all_met}
use Rattle.meaning.specs.Listing.{dead, combinations, visits, shown, front, Page, after, page}
use Rattle.meaning.proofs.Listing.{run, all_rows, all_steps}
use Rattle.meaning.proofs.Dead.{AllDecided}
use Rattle.meaning.proofs.After.{after_beginning}
use Rattle.meaning.proofs.Shown.{shown_permitted}
use Rattle.meaning.proofs.Paged.{rest, front_rest, rest_less, page_rest, page_moves}

-- each page has room for a row and a budget of a step
abbrev pub Enough : List (ℕ × ℕ) → Type 0
Enough ks = All (λ k. (1 ≤ k.0) × (1 ≤ k.1)) ks

-- the last page is finished; b where there is none
abbrev pub ended : Bool → List Page → Bool
ended b [] = b
ended b (g ∷ gs) = ended g.finished gs

module _ (ns : Sizes) (d : Row → Bool) where
  pub record Whole (ks : List (ℕ × ℕ)) (c : Row) : Type 0 where
    pub rows : all_rows (run ns d ks c) ≡ keep (shown ns d) (after ns d c)
    pub steps : all_steps (run ns d ks c) ≡ length (after ns d c)
    pub ends : (b : Bool) → ended b (run ns d ks c) ≡ true

  -- from any cursor, with as many pages as prefixes are left
  pub run_from : (ks : List (ℕ × ℕ)) (c : Row) → Enough ks → 1 ≤ length ks → length (after ns d c) ≤ length ks → Whole ks c
  run_from [] c n o h = absurd (omega arith)
  run_from (k ∷ ks) c n o h =
      let t = go (is_nil (after ns d q)) refl (λ a b. run_from ks q n.1 a b) in
      record { rows = t.0; steps = t.1; ends = λ b. t.2 }
    where
      F : List Row
      F = front (shown ns d) k.0 k.1 (after ns d c)

      G : List Row
      G = rest (shown ns d) k.0 k.1 (after ns d c)

      q : Row
      q = last_or c F

      more : List Page
      more = run ns d ks q

      whole : F ++ G ≡ after ns d c
      whole = front_rest (shown ns d) k.0 k.1 (after ns d c)

      left : after ns d q ≡ G
      left = page_rest ns d k.0 k.1 c

      small : length G ≤ length (after ns d c) - 1
      small = rest_less (shown ns d) k.0 k.1 (after ns d c) n.0.0 n.0.1

      go : (b : Bool) → is_nil (after ns d q) ≡ b → (1 ≤ length ks → length (after ns d q) ≤ length ks → Whole ks q)
          → (keep (shown ns d) F ++ all_rows (cond b [] more) ≡ keep (shown ns d) (after ns d c))
          × (length F + all_steps (cond b [] more) ≡ length (after ns d c))
          × (ended (is_nil (after ns d q)) (cond b [] more) ≡ true)
      go true e ih =
          let f : F ≡ after ns d c = sym (append-nil F) ∙ (rw (sym left ∙ is_nil_nil (after ns d q) e) at whole) in
          (append-nil (keep (shown ns d) F) ∙ ap (λ (l : List Row). keep (shown ns d) l) f, omega (arith, ap length f), e)
      go false e ih =
          let some = is_nil_some (after ns d q) e in
          let len = ap length left in
          let i = ih (omega (arith, small)) (omega (arith, small)) in (
            rw (i.rows, left, ← keep_append, whole),
            omega (arith, i.steps, simp length-append at (ap length whole)),
            i.ends (is_nil (after ns d q)),
          )

  -- a run that has not ended has made a page for each room and budget, and each made at least one step:
  -- so no run goes on for more pages than there are visited prefixes
  pub run_moves : (ks : List (ℕ × ℕ)) (c : Row) → Enough ks → ended false (run ns d ks c) ≡ false → length ks ≤ all_steps (run ns d ks c)
  run_moves [] c n h = omega arith
  run_moves (k ∷ ks) c n h = go (page ns d k.0 k.1 c).finished refl (run_moves ks (page ns d k.0 k.1 c).last n.1) h
    where
      more : List Page
      more = run ns d ks (page ns d k.0 k.1 c).last

      go : (b : Bool) → (page ns d k.0 k.1 c).finished ≡ b → (ended false more ≡ false → length ks ≤ all_steps more)
          → ended b (cond b [] more) ≡ false → suc (length ks) ≤ (page ns d k.0 k.1 c).steps + all_steps (cond b [] more)
      go true e ih h = absurd (true≢false h)
      go false e ih h = omega (arith, ih h, page_moves ns d k.0 k.1 c n.0.0 n.0.1 e)

-- ---- the theorem

-- what the pages show, the steps that they make, and that the last one is finished
pub record Listed (ns : Sizes) (rules : List Rule) (pages : List Page) : Type 0 where
  pub rows : all_rows pages ≡ keep (λ x. all_met rules x) (combinations ns)
  pub steps : all_steps pages ≡ length (visits ns (dead rules))
  pub ends : ended false pages ≡ true

-- THEOREM: pages from the beginning, each from where the last one stopped, at least one and at least as many as there are visited prefixes
pub run_whole : (ns : Sizes) (rules : List Rule) → 1 ≤ length ns → AllDecided (length ns) rules
    → (ks : List (ℕ × ℕ)) → Enough ks → 1 ≤ length ks → length (visits ns (dead rules)) ≤ length ks → Listed ns rules (run ns (dead rules) ks [])
run_whole ns rules l a ks n o h =
    let w = run_from ns (dead rules) ks [] n o (rw (after_beginning ns (dead rules)) h) in
    record {
      rows = w.rows ∙ ap (λ (x : List Row). keep (shown ns (dead rules)) x) (after_beginning ns (dead rules)) ∙ shown_permitted ns rules l a;
      steps = w.steps ∙ ap length (after_beginning ns (dead rules));
      ends = w.ends false;
    }
