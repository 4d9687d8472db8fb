-- Leaves: the last level. Its values are visited in one loop that counts; the cursor of the last one is made at the end.
use Prim.Native.Nat.{ℕ, suc, ◌+◌, ◌*◌, ◌-◌, ◌≤◌, ◌<◌}
use native.Mathlib.Nat.{mul-le-mul_left, mul-le-mul_right}
use native.Mathlib.Omega.{arith}
use mathlib.Core.Path.{◌≡◌, refl}
use mathlib.Core.Bool.{Bool, true, false}
use mathlib.Core.Logic.{◌⊎◌}
use mathlib.Core.List.{List, [], ◌∷◌, ◌++◌}
use lib.ListN.{length, get_or}
use borrow.Author.Tests.{eq-eqb, ne_eqb}
use Rattle.meaning.specs.Rows.{Row, Sizes}
use Rattle.books.specs.Inner.{put_at}
use Rattle.listing.specs.declared.cursor.Cursor.{Cursor}
use Rattle.listing.specs.declared.steps.Walk.{Walk}
use Rattle.listing.specs.Cursors.{prefix_of}
use Rattle.listing.specs.Inner.{Plain, push_of, flag, forbidden, S, walk_of, move_of, Ready, Going, whole_of, Allows, behind_of, leaf_rows, leaf_room}
use Rattle.listing.proofs.laws.Prefixes.{push_prefix}
use Rattle.listing.proofs.laws.Turns.{going_out, behind_rows, behind_steps, leaf_on}

-- ---- one leaf: a row, if it is not dead

pub leaf_dead : (b : Bool) (o : List ℕ) (at : ℕ) (x : Row) (v rows : ℕ) → b ≡ true → (rows ≡ leaf_rows b rows) × (o ≡ leaf_room b o at x v)
unfolding leaf_rows leaf_room
leaf_dead b o at x v rows e = rw e (refl, refl)

pub leaf_live : (b : Bool) (o : List ℕ) (at : ℕ) (x : Row) (v rows : ℕ) → b ≡ false → (o₁ : List ℕ) → o₁ ≡ put_at o at (x ++ (v ∷ []))
    → (rows + 1 ≡ leaf_rows b rows) × (o₁ ≡ leaf_room b o at x v)
unfolding leaf_rows leaf_room
leaf_live b o at x v rows e o₁ q = rw e (refl, q)

-- ---- the loop

module _ (d : Row → Bool) (ns : Sizes) (cur : Cursor) (fit budget : ℕ) (w : Walk) (v : ℕ) (o₀ : List ℕ) where
  pub record Leafing (o : List ℕ) (t : Walk) (u : ℕ) : Type 0 where
    pub ahead : v ≤ u
    pub going : Going d ns cur 1 fit budget v w o₀ o (behind_of t cur v u) u

  module _ (plain : Plain cur) (y : Ready ns o₀ cur 1 fit) (full : cur.len + 1 ≡ length ns) {o : List ℕ} {t : Walk} {u : ℕ} (g : Leafing o t u) where
    pub leafing_room : t.rows < fit → t.rows * length ns + cur.len < length o
    leafing_room h = let k : suc t.rows ≤ fit = h in omega (arith, y.cells, g.going.long, mul-le-mul_right (length ns) k)

    pub leafing_rows : t.rows < fit → t.rows < length o
    leafing_rows h =
        let some : 1 ≤ length ns = omega arith in
        omega (arith, leafing_room h, mul-le-mul_left t.rows some)

    pub leafing_on : u < get_or ns cur.len 0 → t.rows < fit → t.steps < budget → (set : ℕ) → Allows d (prefix_of cur) set → (i : ℕ) → i ≡ u → (b : Bool) → b ≡ forbidden set i → (m : ℕ) → m ≡ flag b
        → (r : ℕ) (o₁ : List ℕ) → (r ≡ leaf_rows b t.rows) × (o₁ ≡ leaf_room b o (t.rows * length ns) (prefix_of cur) u) → length o₁ ≡ length o
        → Leafing o₁ (record { last = t.last; dead = m; rows = r; steps = t.steps + 1 }) (u + 1)
    unfolding leaf_rows leaf_room
    leafing_on h i j set a k e b q m f r o₁ g₁ lo = record {
      ahead = omega (arith, g.ahead);
      going = rw same (leaf_on d ns cur fit budget v w o₀ o (behind_of t cur v u) u plain y g.going (push_of cur u) refl h set a (omega (arith, behind_rows t cur v u)) (omega (arith, behind_steps t cur v u)) k e b q (walk_of (push_of cur u) b r (t.steps + 1)) o₁ (moved b g₁) lo);
    }
      where
        same : behind_of (record { last = t.last; dead = m; rows = r; steps = t.steps + 1 }) cur v (u + 1) ≡ walk_of (push_of cur u) b r (t.steps + 1)
        same = let n : u + 1 - 1 ≡ u = omega arith in rw (ne_eqb (u + 1) v (λ c. omega (arith, g.ahead)), n, f)

        moved : (c : Bool) → (r ≡ leaf_rows c t.rows) × (o₁ ≡ leaf_room c o (t.rows * length ns) (prefix_of cur) u)
            → ◌≡◌ {A = S} (walk_of (push_of cur u) c r (t.steps + 1), o₁) (move_of (length ns) c (push_of cur u) (behind_of t cur v u, o))
        moved true z = rw (z.0, z.1, behind_rows t cur v u, behind_steps t cur v u)
        moved false z = rw (z.0, z.1, eq-eqb (cur.len + 1) (length ns) full, behind_rows t cur v u, behind_steps t cur v u, push_prefix cur u plain (omega (arith, y.deep, y.limited.short)))

pub leafing_end : {d : Row → Bool} {ns : Sizes} {cur : Cursor} {fit budget : ℕ} {w : Walk} {v : ℕ} {o₀ o : List ℕ} {t : Walk} {u : ℕ}
    → (g : Leafing d ns cur fit budget w v o₀ o t u) → (r : Walk) → r ≡ behind_of t cur v u
    → ((fit ≤ t.rows) ⊎ (budget ≤ t.steps)) ⊎ (get_or ns cur.len 0 ≤ u) → ◌≡◌ {A = S} (r, o) (whole_of d ns cur 1 fit budget v (w, o₀))
leafing_end {d} {ns} {cur} {fit} {budget} {w} {v} {o₀} {o} {t} {u} g r e c =
    rw e (going_out d ns cur 1 fit budget v w o₀ o (behind_of t cur v u) u g.going (rw (behind_rows t cur v u, behind_steps t cur v u) c))
