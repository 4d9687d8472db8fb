-- Paging: what a page of an accepted book asks, and that the walk's end is the page that document 01 asks for.
use Prim.Native.Nat.{ℕ, suc, ◌/◌, ◌≤◌, ◌<◌}
use native.Mathlib.Nat.{div-mul-le_self, le-div_iff_mul-le}
use native.Mathlib.Omega.{arith}
use mathlib.Core.Path.{◌≡◌, refl, sym, ap, ◌∙◌}
use mathlib.Core.Bool.{not, Bool, true, false, ◌&&◌, ◌||◌}
use mathlib.Core.List.{List, [], ◌∷◌}
use lib.Dec.{eqb}
use lib.ListN.{length, get_or}
use borrow.Author.Tests.{ne_eqb}
use Rattle.meaning.specs.Lists.{is_nil, last_or}
use Rattle.meaning.specs.Rows.{Row, Sizes}
use Rattle.meaning.specs.Bytes.{rules_in}
use Rattle.meaning.specs.Listing.{dead, shown, front, after}
use Rattle.meaning.specs.Inner.{all_last, Sized}
use Rattle.meaning.proofs.After.{SomeValues, reached_last}
use Rattle.meaning.proofs.Paged.{front_none, page_reached, page_begins}
use Rattle.listing.specs.declared.cursor.Cursor.{Cursor}
use Rattle.listing.specs.declared.steps.Walk.{Walk}
use Rattle.std.specs.Prelude.{Ok}
use Rattle.listing.specs.Inner.{Plain, finished_of, past_of, S, runs, Good, Standard, flag}
use Rattle.listing.specs.Cursors.{prefix_of, cursor_of}
use Rattle.listing.specs.Pages.{P, listed_in}
use Rattle.listing.proofs.laws.Prefixes.{prefix_cursor, cursor_len, plain_cursor, begins_length}
use Rattle.listing.proofs.laws.Course.{past_after}
use Rattle.listing.proofs.laws.Filled.{last_d, last_dead, filled_of, page_filled}

-- ---- the walk's end is the page's

some_values : (ns : Sizes) → Sized ns → SomeValues ns
some_values ns l = go ns l.some
  where
    go : (ns : Sizes) → ((k : ℕ) → k < length ns → 1 ≤ get_or ns k 0) → SomeValues ns
    go [] h = tt
    go (n ∷ ns) h = (h 0 (omega arith), go ns (λ k i. h (suc k) (omega arith)))

flip : (a b t : Bool) → (a || b) && t ≡ t && (b || a)
flip true true true = refl
flip true true false = refl
flip true false true = refl
flip true false false = refl
flip false true true = refl
flip false true false = refl
flip false false true = refl
flip false false false = refl

flag_told : (b : Bool) → not (eqb (flag b) 0) ≡ b
flag_told true = refl
flag_told false = refl

module _ (ns : Sizes) (d : Row → Bool) (p : Row) (fit budget : ℕ) (o : List ℕ) where
  abbrev F : List Row
  F = front (shown ns d) fit budget (after ns d p)

  -- what the code decides at the last prefix is that no visited prefix comes after it
  finished_is : SomeValues ns → 1 ≤ fit → 1 ≤ budget → finished_of ns (filled_of ns d p F o).0 ≡ is_nil (after ns d (last_or p F))
  unfolding finished_of
  finished_is some r b = go F refl
    where
      go : (f : List Row) → F ≡ f → finished_of ns (filled_of ns d p f o).0 ≡ is_nil (after ns d (last_or p f))
      go [] e = sym (ap is_nil (front_none (shown ns d) fit budget (after ns d p) r b e))
      go (x ∷ f) e =
          let q : Row = last_or x f in
          let v = page_reached ns d fit budget p x f e in
          ap (λ (u : Bool). u || ((eqb (cursor_of q).len (length ns) || not (eqb (last_d d (flag (d x)) f) 0)) && all_last ns (prefix_of (cursor_of q)))) (ne_eqb (suc (length f)) 0 (λ h. omega arith))
          ∙ ap (λ (u : Row). (eqb (cursor_of q).len (length ns) || not (eqb (last_d d (flag (d x)) f) 0)) && all_last ns u) (prefix_cursor q)
          ∙ ap (λ (k : ℕ). (eqb k (length ns) || not (eqb (last_d d (flag (d x)) f) 0)) && all_last ns q) (cursor_len q)
          ∙ ap (λ (m : ℕ). (eqb (length q) (length ns) || not (eqb m 0)) && all_last ns q) (last_dead d x f)
          ∙ ap (λ (u : Bool). (eqb (length q) (length ns) || u) && all_last ns q) (flag_told (d q))
          ∙ flip (eqb (length q) (length ns)) (d q) (all_last ns q)
          ∙ sym (reached_last ns d q some v)

module _ (b : List ℕ) (rules : ℕ) (ns : Sizes) (c : Cursor) (o : List ℕ) (budget : ℕ) (y : Standard b rules ns) (good : Good ns c) (row : length ns ≤ length o) (step : 1 ≤ budget) where
  abbrev d : Row → Bool
  d = dead (rules_in b)

  abbrev fit : ℕ
  fit = length o / length ns

  some_fit : 1 ≤ fit
  some_fit = (le-div_iff_mul-le {k = length ns} {x = 1} {y = length o} y.settings).1 (omega (arith, row))

  module _ (w : Walk) (o' : List ℕ)
      (h : ◌≡◌ {A = S} (w, o') (runs d (length ns) fit budget (past_of d ns [] (prefix_of c)) (record { last = c; dead = 0; rows = 0; steps = 0 }, o))) where
    abbrev seen : List Row
    seen = F ns d (prefix_of c) fit budget o

    walked : ◌≡◌ {A = S} (w, o') (filled_of ns d (prefix_of c) seen o)
    walked =
        h ∙ ap (λ (L : List Row). runs d (length ns) fit budget L (record { last = c; dead = 0; rows = 0; steps = 0 }, o)) (past_after d ns (prefix_of c) good.fits)
        ∙ page_filled ns d fit budget (after ns d (prefix_of c)) c o good.plain (div-mul-le_self (length o) (length ns))

    pub listed_last : Plain w.last × (w.last.len ≤ length ns)
    listed_last =
        let q : Row = last_or (prefix_of c) seen in
        let e : w.last ≡ cursor_of q = ap (λ (t : S). t.0.last) walked in
        let i = begins_length ns q (page_begins ns d fit budget (prefix_of c) good.fits) in
        (rw e (plain_cursor q (omega (arith, y.limited.short))), omega (arith, ap (λ (x : Cursor). x.len) e ∙ cursor_len q))

    pub listed_page : (f : Bool) → f ≡ finished_of ns w
        → ◌≡◌ {A = P} (record { cursor = w.last; outcome = Ok (record { rows = w.rows; steps = w.steps; finished = f }) }, o') (listed_in ns d c budget o)
    unfolding listed_in
    listed_page f g =
        let g' = g ∙ ap (λ (t : S). finished_of ns t.0) walked ∙ finished_is ns d (prefix_of c) fit budget o (some_values ns y.limited) some_fit step in
        ap (λ (u : Bool). (record { cursor = w.last; outcome = Ok (record { rows = w.rows; steps = w.steps; finished = u }) }, o')) g'
        ∙ ap (λ (t : S). (record { cursor = t.0.last; outcome = Ok (record { rows = t.0.rows; steps = t.0.steps; finished = is_nil (after ns d (last_or (prefix_of c) seen)) }) }, t.1)) walked
