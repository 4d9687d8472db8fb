-- Standing: rules that stand one after the other in the bytes of a book, by their places.
use Prim.Native.Nat.{ℕ, zero, suc, ◌+◌, ◌-◌, ◌≤◌, ◌<◌}
use native.Mathlib.Nat.{zero-add, suc-add}
use native.Mathlib.Omega.{arith}
use mathlib.Core.Path.{◌≡◌, ap, ◌∙◌}
use mathlib.Core.List.{List, [], ◌∷◌, ◌++◌}
use Rattle.meaning.specs.Inner.{Sized}
use Rattle.meaning.specs.Lists.{All}
use Rattle.meaning.specs.Rows.{Sizes}
use Rattle.meaning.specs.Rules.{Rule, Literal, at_most, at_least, bound, top_of, Fits, AllFit}
use Rattle.meaning.specs.Bytes.{rule_at, end_at, rules_at, place_at}
use Rattle.books.specs.Inner.{Holds}
use Rattle.books.proofs.laws.Holds.{holds_good, holds_inside, holds_next}
use Rattle.listing.specs.Inner.{Stands, AllStand}

-- ---- the rules after i of them

pub place_add : (b : List ℕ) (at i j : ℕ) → place_at b at (i + j) ≡ place_at b (place_at b at i) j
unfolding place_at
place_add b at zero j = rw zero-add
place_add b at (suc i) j = rw suc-add (place_add b (end_at b at) i j)

pub place_next : (b : List ℕ) (at i : ℕ) → place_at b at (i + 1) ≡ end_at b (place_at b at i)
unfolding place_at
place_next b at i = place_add b at i 1

pub rules_add : (b : List ℕ) (at i j : ℕ) → rules_at b at (i + j) ≡ rules_at b at i ++ rules_at b (place_at b at i) j
unfolding rules_at place_at
rules_add b at zero j = rw zero-add
rules_add b at (suc i) j = rw (suc-add, rules_add b (end_at b at) i j)

-- those from number i up to below number j, of which k are all
pub rules_split : (b : List ℕ) (at i j : ℕ) → i ≤ j → rules_at b at j ≡ rules_at b at i ++ rules_at b (place_at b at i) (j - i)
rules_split b at i j h = let e : j ≡ i + (j - i) = omega arith in ap (rules_at b at) e ∙ rules_add b at i (j - i)

pub stand_at : (b : List ℕ) (at k i : ℕ) → AllStand b at k → i < k → Stands b (place_at b at i)
unfolding place_at
stand_at b at zero i s h = absurd (omega arith)
stand_at b at (suc k) zero s h = s.0
stand_at b at (suc k) (suc i) s h = stand_at b (end_at b at) k i s.1 (omega arith)

pub stand_front : (b : List ℕ) (at k j : ℕ) → AllStand b at k → j ≤ k → AllStand b at j
stand_front b at k zero s h = tt
stand_front b at zero (suc j) s h = absurd (omega arith)
stand_front b at (suc k) (suc j) s h = (s.0, stand_front b (end_at b at) k j s.1 (omega arith))

pub stand_part : (b : List ℕ) (at k i j : ℕ) → AllStand b at k → i + j ≤ k → AllStand b (place_at b at i) j
unfolding place_at
stand_part b at k zero j s h = stand_front b at k j s (omega arith)
stand_part b at zero (suc i) j s h = absurd (omega arith)
stand_part b at (suc k) (suc i) j s h = stand_part b (end_at b at) k i j s.1 (omega arith)

-- ---- in an accepted book they do

small_fit : (ns : Sizes) → Sized ns → (c : Literal) → Fits ns c → bound c < 64
unfolding top_of
small_fit ns l (at_most i d) f = omega (arith, f.high, l.few i f.known)
small_fit ns l (at_least i d) f = omega (arith, f.high, l.few i f.known)

all_small : (ns : Sizes) → Sized ns → (r : Rule) → AllFit ns r → All (λ c. bound c < 64) r
all_small ns l [] f = tt
all_small ns l (c ∷ r) f = (small_fit ns l c f.0, all_small ns l r f.1)

pub stand_all : (b : List ℕ) (ns : Sizes) (family at k : ℕ) → Sized ns → Holds b ns family at k → AllStand b at k
stand_all b ns family at zero l h = tt
stand_all b ns family at (suc k) l h =
    let g = holds_good b ns family at (suc k) h (omega arith) in
    let e : suc k - 1 ≡ k = omega arith in (
      record { inside = holds_inside b ns family at (suc k) h (omega arith); ordered = g.ordered; small = all_small ns l (rule_at b at) g.fit },
      stand_all b ns family (end_at b at) k l (rw e at (holds_next b ns family at (suc k) h (omega arith))),
    )
