-- Interval: the values that the last literals of a rule forbid, where all of them are on one setting.
use Prim.Native.Nat.{ℕ, zero, suc, ◌+◌, ◌*◌, ◌≤◌, ◌<◌}
use native.Mathlib.Omega.{arith}
use mathlib.Core.Path.{◌≡◌, refl, sym, ◌∙◌}
use mathlib.Core.Bool.{Bool, true, false, cond, not, ◌||◌, or-false}
use mathlib.Core.Logic.{inl, inr}
use mathlib.Core.List.{List, [], ◌∷◌, ◌++◌}
use lib.Dec.{T, leb, eqb}
use lib.ListN.{length, get_or}
use lib.Seq.{get_or-append_seam}
use borrow.Author.Tests.{le-leb, lt-leb, lt-ltb, le-ltb, eq-eqb, ne_eqb, eqb-true, eqb-false}
use Rattle.meaning.specs.Lists.{All}
use Rattle.meaning.specs.Rows.{Row}
use Rattle.meaning.specs.Rules.{bound, holds, met, key, Ordered}
use Rattle.meaning.specs.Bytes.{literal, literal_at, literals_at}
use Rattle.meaning.specs.Listing.{decided}
use Rattle.meaning.proofs.Tests.{case, is, isnt, lt_or_le}
use Rattle.meaning.proofs.Literals.{literal_setting_is, literal_bound_is}
use Rattle.listing.specs.Inner.{forbids, between, interval_of}
use Rattle.listing.proofs.laws.Literals.{key_low, key_high, decided_here}

-- ---- literals that are all on the setting behind x

-- above d, below d
above : (d v : ℕ) → v < 64 → leb v d ≡ not (between (d + 1) 64 v)
above d v h = elim (lt_or_le d v) [
  | inl k ↦ rw (lt-leb v d k, le-leb (d + 1) v (omega arith), lt-ltb v 64 h)
  | inr k ↦ rw (le-leb v d k, lt-leb (d + 1) v (omega arith))
]

below : (d v : ℕ) → leb d v ≡ not (between 0 d v)
below d v = elim (lt_or_le v d) [
  | inl k ↦ rw (lt-leb d v k, le-leb 0 v (omega arith), lt-ltb v d k)
  | inr k ↦ rw (le-leb d v k, le-leb 0 v (omega arith), le-ltb v d k)
]

outside : (a d v : ℕ) → leb v a || (leb d v || false) ≡ not (between (a + 1) d v)
outside a d v = elim (lt_or_le a v) [
  | inl k ↦ rw (lt-leb v a k, le-leb (a + 1) v (omega arith), or-false (leb d v)) (elim (lt_or_le v d) [
    | inl m ↦ rw (lt-leb d v m, lt-ltb v d m)
    | inr m ↦ rw (le-leb d v m, le-ltb v d m)
  ])
  | inr k ↦ rw (le-leb v a k, lt-leb (a + 1) v (omega arith))
]

module _ (b : List ℕ) (x : Row) (v : ℕ) (small : v < 64) where
  -- a literal on that setting, of the value v
  holds_here : (g i d : ℕ) → i ≡ length x → holds (literal g i d) (x ++ (v ∷ [])) ≡ cond (eqb g 0) (leb v d) (leb d v)
  unfolding holds
  holds_here zero i d e = rw (e, get_or-append_seam x v [] 0)
  holds_here (suc g) i d e = rw (e, get_or-append_seam x v [] 0, ne_eqb (suc g) 0 (λ z. omega arith))

  key_of : (g i d : ℕ) → g ≡ 0 → key (literal g i d) ≡ 2 * i
  key_of g i d e = rw e (omega arith)

  key_of_least : (g i d : ℕ) → (g ≡ 0 → ⊥) → key (literal g i d) ≡ 2 * i + 1
  key_of_least zero i d e = absurd (e refl)
  key_of_least (suc g) i d e = refl

  -- of two or more the first two are "at most" and "at least" on the setting behind x
  pair : (low p k : ℕ) → Ordered low (literals_at b p (suc (suc k))) → T (decided (suc (length x)) (literals_at b p (suc (suc k)))) → (0 < suc (suc k) → length x ≤ get_or b p 0)
      → (get_or b (p + 1) 0 ≡ 0) × (get_or b p 0 ≡ length x) × (get_or b (p + 3 + 1) 0 ≡ 0 → ⊥) × (get_or b (p + 3) 0 ≡ length x)
  unfolding literals_at
  pair low p k o d h =
      let c = literal_at b p in
      let c' = literal_at b (p + 3) in
      let s = decided_here (suc (length x)) c (literals_at b (p + 3) (suc k)) d in
      let s' = (decided_here (suc (length x)) c' (literals_at b (p + 3 + 3) k) s.1).0 in
      let f = literal_setting_is (get_or b (p + 1) 0) (get_or b p 0) (get_or b (p + 2) 0) in
      let f' = literal_setting_is (get_or b (p + 3 + 1) 0) (get_or b (p + 3) 0) (get_or b (p + 3 + 2) 0) in
      let first : get_or b p 0 ≡ length x = omega (arith, h (omega arith), s.0) in
      let second : get_or b (p + 3) 0 ≡ length x = omega (arith, o.1.0, key_low c, key_high c') in (
        elim (case (eqb (get_or b (p + 1) 0) 0)) [
          | is t ↦ eqb-true (get_or b (p + 1) 0) 0 t
          | isnt t ↦ absurd (omega (arith, o.1.0, key_high c', key_of_least (get_or b (p + 1) 0) (get_or b p 0) (get_or b (p + 2) 0) (eqb-false (get_or b (p + 1) 0) 0 t)))
        ],
        first,
        λ e. omega (arith, o.1.0, key_low c, key_of (get_or b (p + 3 + 1) 0) (get_or b (p + 3) 0) (get_or b (p + 3 + 2) 0) e),
        second,
      )

  -- what is left of the early pass, as a rule of its own
  pub met_interval : (low p k : ℕ) → Ordered low (literals_at b p k) → T (decided (suc (length x)) (literals_at b p k)) → (0 < k → length x ≤ get_or b p 0)
      → met (literals_at b p k) (x ++ (v ∷ [])) ≡ not (between (interval_of b p k).low (interval_of b p k).high v)
  unfolding literals_at met interval_of
  met_interval low p zero o d h = sym (rw (le-leb 0 v (omega arith), lt-ltb v 64 small))
  met_interval low p (suc zero) o d h =
      let s = (decided_here (suc (length x)) (literal_at b p) [] d).0 in
      let e : get_or b p 0 ≡ length x = omega (arith, h (omega arith), literal_setting_is (get_or b (p + 1) 0) (get_or b p 0) (get_or b (p + 2) 0)) in
      rw (holds_here (get_or b (p + 1) 0) (get_or b p 0) (get_or b (p + 2) 0) e) (go (eqb (get_or b (p + 1) 0) 0))
    where
      go : (t : Bool) → cond t (leb v (get_or b (p + 2) 0)) (leb (get_or b (p + 2) 0) v) || false
          ≡ not (between (cond t (forbids (get_or b (p + 2) 0 + 1) 64) (forbids 0 (get_or b (p + 2) 0))).low (cond t (forbids (get_or b (p + 2) 0 + 1) 64) (forbids 0 (get_or b (p + 2) 0))).high v)
      go true = or-false (leb v (get_or b (p + 2) 0)) ∙ above (get_or b (p + 2) 0) v small
      go false = or-false (leb (get_or b (p + 2) 0) v) ∙ below (get_or b (p + 2) 0) v
  met_interval low p (suc (suc zero)) o d h =
      let t = pair low p zero o d h in
      let e : p + 3 + 2 ≡ p + 5 = omega arith in
      rw (
        eq-eqb (get_or b (p + 1) 0) 0 t.0,
        ← e,
        holds_here (get_or b (p + 1) 0) (get_or b p 0) (get_or b (p + 2) 0) t.1,
        holds_here (get_or b (p + 3 + 1) 0) (get_or b (p + 3) 0) (get_or b (p + 3 + 2) 0) t.3,
        eq-eqb (get_or b (p + 1) 0) 0 t.0,
        ne_eqb (get_or b (p + 3 + 1) 0) 0 t.2,
      )
      (outside (get_or b (p + 2) 0) (get_or b (p + 3 + 2) 0) v)
  met_interval low p (suc (suc (suc k))) o d h =
      let t = pair low p (suc k) o d h in
      let c = literal_at b (p + 3 + 3) in
      let s = (decided_here (suc (length x)) c (literals_at b (p + 3 + 3 + 3) k) (decided_here (suc (length x)) (literal_at b (p + 3)) (literals_at b (p + 3 + 3) (suc k)) (decided_here (suc (length x)) (literal_at b p) (literals_at b (p + 3) (suc (suc k))) d).1).1).0 in
      absurd (omega (arith, o.1.1.0, key_high c, key_of_least (get_or b (p + 3 + 1) 0) (get_or b (p + 3) 0) (get_or b (p + 3 + 2) 0) t.2, t.3))

pub interval_small : (b : List ℕ) (p k : ℕ) → All (λ c. bound c < 64) (literals_at b p k) → (interval_of b p k).high ≤ 64
unfolding literals_at interval_of
interval_small b p zero a = omega arith
interval_small b p (suc zero) a = go (eqb (get_or b (p + 1) 0) 0)
  where
    go : (t : Bool) → (cond t (forbids (get_or b (p + 2) 0 + 1) 64) (forbids 0 (get_or b (p + 2) 0))).high ≤ 64
    go true = omega arith
    go false = omega (arith, a.0, literal_bound_is (get_or b (p + 1) 0) (get_or b p 0) (get_or b (p + 2) 0))
interval_small b p (suc (suc k)) a =
    let e : p + 3 + 2 ≡ p + 5 = omega arith in
    let f : get_or b (p + 5) 0 < 64 = rw e at (rw (literal_bound_is (get_or b (p + 3 + 1) 0) (get_or b (p + 3) 0) (get_or b (p + 3 + 2) 0)) at a.1.0) in
    rw (ne_eqb (suc (suc k)) 0 (λ z. omega arith), ne_eqb (suc (suc k)) 1 (λ z. omega arith)) (go (eqb (get_or b (p + 1) 0) 0) f)
  where
    go : (t : Bool) → get_or b (p + 5) 0 < 64 → (cond t (forbids (get_or b (p + 2) 0 + 1) (get_or b (p + 5) 0)) (forbids 0 (get_or b (p + 2) 0))).high ≤ 64
    go true f = omega arith
    go false f = omega (arith, a.0, literal_bound_is (get_or b (p + 1) 0) (get_or b p 0) (get_or b (p + 2) 0))
