-- Idle rules: where the literals are in order only neighbours can overlap, and the loop that looks at these.
use Prim.Native.Nat.{ℕ, zero, suc, ◌+◌, ◌*◌, ◌-◌, ◌≤◌, ◌<◌}
use native.Mathlib.Omega.{arith}
use mathlib.Core.Path.{◌≡◌, refl, sym, ◌∙◌}
use mathlib.Core.Logic.{◌≢◌}
use mathlib.Core.Bool.{Bool, true, false, ◌&&◌, ◌||◌, or-false}
use mathlib.Core.List.{List, [], ◌∷◌}
use lib.Dec.{eqb}
use lib.ListN.{get_or}
use borrow.Author.Tests.{eq-eqb, ne_eqb}
use Rattle.meaning.specs.Rules.{Literal, Rule, at_most, at_least, covers, overlap, overlaps, idle, key, Ordered}
use Rattle.meaning.specs.Bytes.{literal, literal_at, literals_at}
use Rattle.books.specs.Inner.{idle_next}

-- ---- it says the same as idle

overlap_far : (c d : Literal) → key c + 2 ≤ key d → overlap c d || overlap d c ≡ false
unfolding overlap
overlap_far (at_most i a) (at_most j b) h = refl
overlap_far (at_most i a) (at_least j b) h = rw (ne_eqb i j (omega arith))
overlap_far (at_least i a) (at_most j b) h = rw (ne_eqb j i (omega arith))
overlap_far (at_least i a) (at_least j b) h = refl

overlap_next : (c d : Literal) → key c + 1 ≤ key d → overlap c d || overlap d c ≡ overlap c d
unfolding overlap
overlap_next (at_most i a) (at_most j b) h = refl
overlap_next (at_most i a) (at_least j b) h = or-false (eqb i j && covers a b)
overlap_next (at_least i a) (at_most j b) h = rw (ne_eqb j i (omega arith))
overlap_next (at_least i a) (at_least j b) h = refl

overlaps_far : (c : Literal) (least : ℕ) (r : Rule) → key c + 2 ≤ least → Ordered least r → overlaps c r ≡ false
unfolding overlaps
overlaps_far c least [] h o = refl
overlaps_far c least (d ∷ r) h o = rw (overlap_far c d (omega (arith, o.0)), overlaps_far c (key d + 1) r (omega (arith, o.0)) o.1)

pub idle_is_next : (least : ℕ) (r : Rule) → Ordered least r → idle r ≡ idle_next r
unfolding idle idle_next overlaps
idle_is_next least [] o = refl
idle_is_next least (c ∷ []) o = refl
idle_is_next least (c ∷ d ∷ r) o =
    rw (overlap_next c d o.1.0, overlaps_far c (key d + 1) r (omega (arith, o.1.0)) o.1.1, or-false (overlap c d), idle_is_next (key c + 1) (d ∷ r) o.1)

-- ---- the overlap of the literals at p and at q, as the code tests it
module _ (b : List ℕ) (p q : ℕ) where
  pub overlap_positive : get_or b (p + 1) 0 ≢ 0 → false ≡ overlap (literal_at b p) (literal_at b q)
  unfolding overlap
  overlap_positive h = go (get_or b (p + 1) 0) (get_or b (q + 1) 0) h
    where
      go : (g k : ℕ) → g ≢ 0 → false ≡ overlap (literal g (get_or b p 0) (get_or b (p + 2) 0)) (literal k (get_or b q 0) (get_or b (q + 2) 0))
      go zero k h = absurd (h refl)
      go (suc g) zero h = refl
      go (suc g) (suc k) h = refl

  pub overlap_negative : get_or b (p + 1) 0 ≡ 0 → get_or b (q + 1) 0 ≡ 0 → false ≡ overlap (literal_at b p) (literal_at b q)
  unfolding overlap
  overlap_negative h k = rw (h, k)

  pub overlap_apart : get_or b p 0 ≢ get_or b q 0 → false ≡ overlap (literal_at b p) (literal_at b q)
  unfolding overlap
  overlap_apart h = go (get_or b (p + 1) 0) (get_or b (q + 1) 0)
    where
      go : (g k : ℕ) → false ≡ overlap (literal g (get_or b p 0) (get_or b (p + 2) 0)) (literal k (get_or b q 0) (get_or b (q + 2) 0))
      go zero zero = refl
      go zero (suc k) = rw (ne_eqb (get_or b p 0) (get_or b q 0) h)
      go (suc g) zero = refl
      go (suc g) (suc k) = refl

  pub overlap_same : get_or b p 0 ≡ get_or b q 0 → get_or b (p + 1) 0 ≡ 0 → get_or b (q + 1) 0 ≢ 0 → (r : Bool) → r ≡ covers (get_or b (p + 2) 0) (get_or b (q + 2) 0)
      → r ≡ overlap (literal_at b p) (literal_at b q)
  unfolding overlap
  overlap_same e h k r s = s ∙ rw h (go (get_or b (q + 1) 0) k)
    where
      go : (k : ℕ) → k ≢ 0 → covers (get_or b (p + 2) 0) (get_or b (q + 2) 0) ≡ overlap (at_most (get_or b p 0) (get_or b (p + 2) 0)) (literal k (get_or b q 0) (get_or b (q + 2) 0))
      go zero n = absurd (n refl)
      go (suc k) n = rw (eq-eqb (get_or b p 0) (get_or b q 0) e)

pub ruleset overlap_ways = (overlap_apart, overlap_positive, overlap_negative, overlap_same)

-- ---- the loop: i is one more than the number of literals before p
pub record IdleAt (b : List ℕ) (start c p i : ℕ) : Type 0 where
  pub whole : idle_next (literals_at b start c) ≡ idle_next (literals_at b p (c + 1 - i))
  pub place : p + 3 ≡ start + 3 * i

module _ (b : List ℕ) (start c : ℕ) where
  pub idle_start : IdleAt b start c start 1
  idle_start = let e : c + 1 - 1 ≡ c = omega arith in record { whole = rw e; place = omega arith }

  module _ (p i : ℕ) (a : IdleAt b start c p i) where
    idle_step : i < c → idle_next (literals_at b start c) ≡ overlap (literal_at b p) (literal_at b (p + 3)) || idle_next (literals_at b (p + 3) (c + 1 - (i + 1)))
    unfolding idle_next literals_at
    idle_step h =
        let e : c + 1 - i ≡ suc (suc (c - i - 1)) = omega arith in
        let f : c + 1 - (i + 1) ≡ suc (c - i - 1) = omega arith in
        a.whole ∙ rw (e, f)

    pub idle_found : i < c → overlap (literal_at b p) (literal_at b (p + 3)) ≡ true → true ≡ idle_next (literals_at b start c)
    idle_found h e = sym (idle_step h ∙ rw e)

    pub idle_on : i < c → overlap (literal_at b p) (literal_at b (p + 3)) ≡ false → IdleAt b start c (p + 3) (i + 1)
    idle_on h e = record { whole = idle_step h ∙ rw e; place = omega (arith, a.place) }

    pub idle_none : c ≤ i → false ≡ idle_next (literals_at b start c)
    unfolding idle_next literals_at
    idle_none h = sym (a.whole ∙ go (c + 1 - i) (omega arith))
      where
        go : (k : ℕ) → k < 2 → idle_next (literals_at b p k) ≡ false
        go zero h = refl
        go (suc zero) h = refl
        go (suc (suc k)) h = absurd (omega arith)

pub ruleset idle_loop = (idle_start, idle_found, idle_on, idle_none)
