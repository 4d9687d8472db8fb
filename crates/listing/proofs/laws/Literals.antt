-- Literals: what the order of a rule's literals tells of them: by the last one, and behind those on the settings of a prefix.
use Prim.Native.Nat.{ℕ, zero, suc, ◌+◌, ◌*◌, ◌≤◌, ◌<◌}
use native.Mathlib.Omega.{arith}
use mathlib.Core.Path.{◌≡◌, refl, sym}
use mathlib.Core.Bool.{true, false, or-true}
use mathlib.Core.List.{List, [], ◌∷◌, ◌++◌}
use lib.Dec.{T, leb, ltb, ltb→lt}
use lib.ListN.{length, get_or}
use borrow.Author.Tests.{leb-true, leb-false, lt-ltb}
use Rattle.meaning.proofs.Tests.{case, is, isnt, and_l, and_r, and_i, yes_of}
use Rattle.meaning.specs.Lists.{All}
use Rattle.meaning.specs.Rows.{Row}
use Rattle.meaning.specs.Rules.{Literal, at_most, at_least, Rule, setting, bound, holds, met, key, Ordered}
use Rattle.meaning.specs.Bytes.{literal_at, literals_at}
use Rattle.meaning.specs.Listing.{decided}
use Rattle.meaning.proofs.Dead.{holds_prefix}
use Rattle.meaning.proofs.Literals.{literal_setting_is}
use Rattle.listing.specs.declared.scan.Passed.TheVariants.{Holds, Left}
use Rattle.listing.specs.Inner.{early_of}

pub key_low : (c : Literal) → 2 * setting c ≤ key c
key_low (at_most i d) = omega arith
key_low (at_least i d) = omega arith

pub key_high : (c : Literal) → key c ≤ 2 * setting c + 1
key_high (at_most i d) = omega arith
key_high (at_least i d) = omega arith

setting_here : (b : List ℕ) (p : ℕ) → setting (literal_at b p) ≡ get_or b p 0
setting_here b p = literal_setting_is (get_or b (p + 1) 0) (get_or b p 0) (get_or b (p + 2) 0)

pub decided_cons : (k : ℕ) (c : Literal) (r : Rule) → setting c < k → T (decided k r) → T (decided k (c ∷ r))
unfolding decided
decided_cons k c r h t = and_i (ltb (setting c) k) (decided k r) (yes_of (ltb (setting c) k) (lt-ltb (setting c) k h)) t

decided_none : (k : ℕ) → T (decided k [])
unfolding decided
decided_none k = tt

pub decided_here : (k : ℕ) (c : Literal) (r : Rule) → T (decided k (c ∷ r)) → (setting c < k) × T (decided k r)
unfolding decided
decided_here k c r t = (ltb→lt (setting c) k (and_l (ltb (setting c) k) (decided k r) t), and_r (ltb (setting c) k) (decided k r) t)

-- ---- the last literal is on the last setting

ordered_last : (b : List ℕ) (low p m : ℕ) → Ordered low (literals_at b p (suc m)) → low ≤ 2 * get_or b (p + 3 * m) 0 + 1
unfolding literals_at
ordered_last b low p zero o =
    let e : p + 3 * 0 ≡ p = omega arith in
    rw e (omega (arith, o.0, key_high (literal_at b p), setting_here b p))
ordered_last b low p (suc m) o =
    let e : p + 3 * suc m ≡ p + 3 + 3 * m = omega arith in
    rw e (omega (arith, o.0, ordered_last b (key (literal_at b p) + 1) (p + 3) m o.1))

pub last_decides : (b : List ℕ) (low p m k : ℕ) → Ordered low (literals_at b p (suc m)) → get_or b (p + 3 * m) 0 < k → T (decided k (literals_at b p (suc m)))
unfolding literals_at
last_decides b low p zero k o h =
    let e : p + 3 * 0 ≡ p = omega arith in
    let i : get_or b p 0 < k = rw e at h in
    decided_cons k (literal_at b p) [] (omega (arith, setting_here b p)) (decided_none k)
last_decides b low p (suc m) k o h =
    let e : p + 3 * suc m ≡ p + 3 + 3 * m = omega arith in
    let i : get_or b (p + 3 + 3 * m) 0 < k = rw e at h in
    let j = ordered_last b (key (literal_at b p) + 1) (p + 3) m o.1 in
    decided_cons k (literal_at b p) (literals_at b (p + 3) (suc m)) (omega (arith, key_low (literal_at b p))) (last_decides b (key (literal_at b p) + 1) (p + 3) m k o.1 i)

pub last_open : (b : List ℕ) (p m k : ℕ) → k ≤ get_or b (p + 3 * m) 0 → ¬ T (decided k (literals_at b p (suc m)))
unfolding literals_at
last_open b p zero k h t =
    let e : p + 3 * 0 ≡ p = omega arith in
    let i : k ≤ get_or b p 0 = rw e at h in
    let d = decided_here k (literal_at b p) [] t in
    omega (arith, setting_here b p)
last_open b p (suc m) k h t =
    let e : p + 3 * suc m ≡ p + 3 + 3 * m = omega arith in
    let i : k ≤ get_or b (p + 3 + 3 * m) 0 = rw e at h in
    last_open b (p + 3) m k i (decided_here k (literal_at b p) (literals_at b (p + 3) (suc m)) t).1

-- ---- what the pass over the early literals tells

left_inj : (p k q m : ℕ) → Left p k ≡ Left q m → (p ≡ q) × (k ≡ m)
left_inj p k q m e = (cc, cc)

holds_left : (h q m : ℕ) → Holds h ≡ Left q m → ⊥
holds_left h q m e = let z : ◌≡◌ {A = ℕ} 0 1 = cc in omega arith

module _ (b : List ℕ) (x : Row) where
  -- one holds: the rule is met by all that begin with x
  pub early_holds : (p k h : ℕ) → early_of b x p k ≡ Holds h → (y : Row) → met (literals_at b p k) (x ++ y) ≡ true
  unfolding early_of literals_at met
  early_holds p zero h e y = absurd (holds_left h p 0 (sym e))
  early_holds p (suc k) q e y = elim (case (leb (length x) (get_or b p 0))) [
    | is l ↦ absurd (holds_left q p (suc k) (sym (rw l at e)))
    | isnt l ↦
        let h : setting (literal_at b p) < length x = omega (arith, setting_here b p, leb-false (length x) (get_or b p 0) l) in
        elim (case (holds (literal_at b p) x)) [
          | is t ↦ rw (holds_prefix (literal_at b p) x y h, t)
          | isnt t ↦ rw (early_holds (p + 3) k q (rw (l, t) at e) y) (or-true (holds (literal_at b p) (x ++ y)))
        ]
  ]

  -- none holds: what is left stands in the bytes too
  pub early_inside : (p k q m : ℕ) → early_of b x p k ≡ Left q m → q + 3 * m ≡ p + 3 * k
  unfolding early_of
  early_inside p zero q m e = let i = left_inj p 0 q m e in omega (arith, i.0, i.1)
  early_inside p (suc k) q m e = elim (case (leb (length x) (get_or b p 0))) [
    | is l ↦ let i = left_inj p (suc k) q m (rw l at e) in omega (arith, i.0, i.1)
    | isnt l ↦ elim (case (holds (literal_at b p) x)) [
      | is t ↦ absurd (holds_left p q m (rw (l, t) at e))
      | isnt t ↦ let i = early_inside (p + 3) k q m (rw (l, t) at e) in omega arith
    ]
  ]

  -- the literals left, of a rule that is decided one setting behind x: they are on that setting, and the rule is met as they are
  pub record Rest (p k q m : ℕ) : Type 0 where
    pub low : ℕ
    pub ordered : Ordered low (literals_at b q m)
    pub small : All (λ c. bound c < 64) (literals_at b q m)
    pub decides : T (decided (suc (length x)) (literals_at b q m))
    pub later : 0 < m → length x ≤ get_or b q 0
    pub same : (y : Row) → met (literals_at b p k) (x ++ y) ≡ met (literals_at b q m) (x ++ y)

  pub early_rest : (low p k q m : ℕ) → early_of b x p k ≡ Left q m → Ordered low (literals_at b p k) → All (λ c. bound c < 64) (literals_at b p k)
      → T (decided (suc (length x)) (literals_at b p k)) → Rest p k q m
  unfolding early_of literals_at met
  early_rest low p zero q m e o s d =
      let i = left_inj p 0 q m e in
      rw (← i.0, ← i.1) (record { low = low; ordered = o; small = s; decides = d; later = λ h. absurd (omega arith); same = λ y. refl })
  early_rest low p (suc k) q m e o s d = elim (case (leb (length x) (get_or b p 0))) [
    | is l ↦
        let i = left_inj p (suc k) q m (rw l at e) in
        rw (← i.0, ← i.1) (record { low = low; ordered = o; small = s; decides = d; later = λ h. leb-true (length x) (get_or b p 0) l; same = λ y. refl })
    | isnt l ↦ elim (case (holds (literal_at b p) x)) [
      | is t ↦ absurd (holds_left p q m (rw (l, t) at e))
      | isnt t ↦ on l t (early_rest (key (literal_at b p) + 1) (p + 3) k q m (rw (l, t) at e) o.1 s.1 (decided_here (suc (length x)) (literal_at b p) (literals_at b (p + 3) k) d).1)
    ]
  ]
    where
      on : leb (length x) (get_or b p 0) ≡ false → holds (literal_at b p) x ≡ false → Rest (p + 3) k q m → Rest p (suc k) q m
      on l t r =
          let h : setting (literal_at b p) < length x = omega (arith, setting_here b p, leb-false (length x) (get_or b p 0) l) in
          record { low = r.low; ordered = r.ordered; small = r.small; decides = r.decides; later = r.later; same = λ y. rw (holds_prefix (literal_at b p) x y h, t) (r.same y) }
