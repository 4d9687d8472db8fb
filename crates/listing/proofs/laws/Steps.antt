-- Steps: what a page has done so far, what a visit does to it, and visits one after the other.
use Prim.Native.Nat.{ℕ, ◌+◌, ◌≤◌, ◌<◌}
use mathlib.Core.Path.{◌≡◌, refl}
use mir.Val.{bool_byte}
use mathlib.Core.Bool.{Bool, true, false, ◌&&◌}
use mathlib.Core.List.{List, [], ◌∷◌, ◌++◌}
use lib.Dec.{ltb}
use lib.ListN.{length}
use borrow.Author.Tests.{lt-ltb, le-ltb, ne_eqb}
use Rattle.meaning.specs.Rows.{Row, Sizes}
use Rattle.listing.specs.declared.cursor.Cursor.{Cursor}
use Rattle.listing.specs.declared.steps.Walk.{Walk}
use Rattle.listing.specs.Inner.{S, walk_of, flag, move_of, goes_on, visit_of, runs, Ready}

module _ (d : Row → Bool) (l fit budget : ℕ) where
  pub runs_nil : (s : S) → runs d l fit budget [] s ≡ s
  unfolding runs
  runs_nil s = refl

  pub runs_cons : (x : Row) (xs : List Row) (s : S) → runs d l fit budget (x ∷ xs) s ≡ runs d l fit budget xs (visit_of d l fit budget x s)
  unfolding runs
  runs_cons x xs s = refl

  pub runs_append : (xs ys : List Row) (s : S) → runs d l fit budget (xs ++ ys) s ≡ runs d l fit budget ys (runs d l fit budget xs s)
  unfolding runs
  runs_append [] ys s = refl
  runs_append (x ∷ xs) ys s = runs_append xs ys (visit_of d l fit budget x s)

  -- where no visit is made any more, nothing changes
  pub runs_shut : (xs : List Row) (s : S) → goes_on fit budget s.0 ≡ false → runs d l fit budget xs s ≡ s
  unfolding runs
  runs_shut [] s h = refl
  runs_shut (x ∷ xs) s h = rw h (runs_shut xs s h)

pub shut_rows : (fit budget : ℕ) (w : Walk) → fit ≤ w.rows → goes_on fit budget w ≡ false
shut_rows fit budget w h = rw (le-ltb w.rows fit h)

pub shut_steps : (fit budget : ℕ) (w : Walk) → budget ≤ w.steps → goes_on fit budget w ≡ false
shut_steps fit budget w h = rw (le-ltb w.steps budget h) (go (ltb w.rows fit))
  where
    go : (b : Bool) → b && false ≡ false
    go true = refl
    go false = refl

pub open_both : (fit budget : ℕ) (w : Walk) → w.rows < fit → w.steps < budget → goes_on fit budget w ≡ true
open_both fit budget w h k = rw (lt-ltb w.rows fit h, lt-ltb w.steps budget k)

-- a visit of a prefix shorter than a row writes nothing
pub move_short : (l : ℕ) (d : Bool) (q : Cursor) (w : Walk) (o : List ℕ) (r : Walk) → (q.len ≡ l → ⊥) → r ≡ walk_of q d w.rows (w.steps + 1)
    → ◌≡◌ {A = S} (r, o) (move_of l d q (w, o))
move_short l true q w o r h f = rw f
move_short l false q w o r h f = rw (ne_eqb q.len l h, f)

-- a mark, as the code makes it
pub flag_is : (n : ℕ) (b : Bool) → n ≡ bool_byte b → n ≡ flag b
flag_is n true h = h
flag_is n false h = h

pub walk_is : (q : Cursor) (n : ℕ) (b : Bool) (rows steps : ℕ) → n ≡ bool_byte b → record { last = q; dead = n; rows = rows; steps = steps } ≡ walk_of q b rows steps
walk_is q n b rows steps h = rw (flag_is n b h)

-- ---- what the walk below a prefix asks

pub ready_same : (ns : Sizes) (o o₁ : List ℕ) (cur : Cursor) (levels fit : ℕ) → Ready ns o cur levels fit → length o₁ ≡ length o → Ready ns o₁ cur levels fit
ready_same ns o o₁ cur levels fit y h = record { cells = rw h y.cells; deep = y.deep; limited = y.limited }
