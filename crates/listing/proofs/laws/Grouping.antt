-- Grouping: rules in groups by the setting of their last literal decide from the empty prefix on, with the run of the other rules.
use Prim.Native.Nat.{ℕ, zero, suc, ◌+◌, ◌*◌, ◌-◌, ◌≤◌, ◌<◌}
use native.Mathlib.Omega.{arith}
use mathlib.Core.Path.{◌≡◌, refl, sym, ap, subst, ◌∙◌}
use mathlib.Core.Bool.{Bool, true, false, not, ◌||◌, or-true, or-false, and-false, true≢false}
use mathlib.Core.Logic.{inl, inr}
use mathlib.Core.List.{List, [], ◌∷◌, ◌++◌}
use lib.Dec.{T}
use lib.ListN.{length, length-append, get_or}
use borrow.Author.Tests.{not-false}
use Rattle.meaning.specs.Rows.{Row}
use Rattle.meaning.specs.Rules.{Rule, met}
use Rattle.meaning.specs.Bytes.{literals_at, rule_at, end_at, rules_at, place_at}
use Rattle.meaning.specs.Listing.{dead, decided}
use Rattle.meaning.proofs.Tests.{case, is, isnt, lt_or_le, is_yes, is_no}
use Rattle.meaning.proofs.Dead.{dead_append, met_prefix}
use Rattle.listing.specs.Inner.{Stands, AllStand, Hit, Ruled, last_of, Grouped}
use Rattle.listing.proofs.laws.Standing.{rules_split, stand_at, stand_part}
use Rattle.listing.proofs.laws.Literals.{last_decides, last_open}
use Rattle.listing.proofs.laws.Judging.{dead_one}

-- ---- the rules one by one

pub record Deadly (b : List ℕ) (from n : ℕ) (z : Row) : Type 0 where
  pub at : ℕ
  pub under : at < n
  pub kills : dead (rule_at b (place_at b from at) ∷ []) z ≡ true

dead_none : (z : Row) → dead [] z ≡ false
unfolding dead
dead_none z = refl

dead_empty : (b : List ℕ) (p : ℕ) (z : Row) → dead (literals_at b p 0 ∷ []) z ≡ true
unfolding literals_at dead decided met
dead_empty b p z = refl

dead_find : (b : List ℕ) (from n : ℕ) (z : Row) → dead (rules_at b from n) z ≡ true → Deadly b from n z
unfolding rules_at place_at
dead_find b from zero z h = absurd (true≢false (sym h ∙ dead_none z))
dead_find b from (suc n) z h = elim (case (dead (rule_at b from ∷ []) z)) [
  | is t ↦ record { at = 0; under = omega arith; kills = t }
  | isnt t ↦
      let r = dead_find b (end_at b from) n z (sym (rw t at (dead_append (rule_at b from ∷ []) (rules_at b (end_at b from) n) z)) ∙ h) in
      record { at = suc r.at; under = omega (arith, r.under); kills = r.kills }
]

dead_part : (b : List ℕ) (from n k : ℕ) (z : Row) → k < n → dead (rule_at b (place_at b from k) ∷ []) z ≡ true → dead (rules_at b from n) z ≡ true
unfolding rules_at place_at
dead_part b from zero k z h e = absurd (omega arith)
dead_part b from (suc n) zero z h e = dead_append (rule_at b from ∷ []) (rules_at b (end_at b from) n) z ∙ rw e
dead_part b from (suc n) (suc k) z h e =
    dead_append (rule_at b from ∷ []) (rules_at b (end_at b from) n) z
    ∙ rw (dead_part b (end_at b from) n k z (omega arith) e) (or-true (dead (rule_at b from ∷ []) z))

-- a rule that leaves y alive and makes y with one value more dead has its last literal on the setting behind y
pub last_here : (b : List ℕ) (p : ℕ) (y : Row) (v : ℕ) → Stands b p → dead (rule_at b p ∷ []) y ≡ false → dead (rule_at b p ∷ []) (y ++ (v ∷ [])) ≡ true
    → last_of b p ≡ length y
last_here b p y v s live kills = go (get_or b (p + 2) 0) refl
  where
    longer : length (y ++ (v ∷ [])) ≡ suc (length y)
    longer = omega (arith, length-append y (v ∷ []))

    go : (k : ℕ) → get_or b (p + 2) 0 ≡ k → last_of b p ≡ length y
    go zero z = absurd (true≢false (sym (ap (λ (m : ℕ). dead (literals_at b (p + 3) m ∷ []) y) z ∙ dead_empty b (p + 3) y) ∙ live))
    go (suc m) z =
        let place : p + 3 * get_or b (p + 2) 0 ≡ p + 3 + 3 * m = omega arith in
        let o = rw z at s.ordered in
        rw place (elim (lt_or_le (get_or b (p + 3 + 3 * m) 0) (length y)) [
          | inl h ↦ absurd (past (subst (λ (k : ℕ). T (decided (length y) (literals_at b (p + 3) k))) (sym z) (last_decides b 0 (p + 3) m (length y) o h)))
          | inr h ↦ elim (lt_or_le (length y) (get_or b (p + 3 + 3 * m) 0)) [
            | inl l ↦ absurd (later (subst (λ (k : ℕ). ¬ T (decided (suc (length y)) (literals_at b (p + 3) k))) (sym z) (last_open b (p + 3) m (suc (length y)) (omega arith))))
            | inr l ↦ omega arith
          ]
        ])
      where
        past : T (decided (length y) (rule_at b p)) → ⊥
        past t =
            let n : not (met (rule_at b p) y) ≡ false = sym (rw (is_yes (decided (length y) (rule_at b p)) t) at (dead_one (rule_at b p) y)) ∙ live in
            let q : met (rule_at b p) (y ++ (v ∷ [])) ≡ true = met_prefix (rule_at b p) y (v ∷ []) t ∙ not-false (met (rule_at b p) y) n in
            true≢false (sym kills ∙ dead_one (rule_at b p) (y ++ (v ∷ [])) ∙ rw q (and-false (decided (length (y ++ (v ∷ []))) (rule_at b p))))

        later : (¬ T (decided (suc (length y)) (rule_at b p))) → ⊥
        later t = true≢false (sym kills ∙ dead_one (rule_at b p) (y ++ (v ∷ [])) ∙ rw (longer, is_no (decided (suc (length y)) (rule_at b p)) t))

-- ---- from the empty prefix on

module _ (b : List ℕ) (rules n : ℕ) (p s e : List ℕ) (d : Row → Bool) (same : (z : Row) → d z ≡ dead (rules_at b 7 rules) z)
    (stand : AllStand b 7 rules) (few : rules ≤ 24576) (h : n ≤ rules) (a : Grouped b n p s e) where
  both : (z : Row) → d z ≡ dead (rules_at b 7 n) z || dead (rules_at b (place_at b 7 n) (rules - n)) z
  both z = same z ∙ ap (λ (rs : List Rule). dead rs z) (rules_split b 7 n rules h) ∙ dead_append (rules_at b 7 n) (rules_at b (place_at b 7 n) (rules - n)) z

  one : (k : ℕ) → k < n → (z : Row) → dead (rule_at b (place_at b 7 k) ∷ []) z ≡ true → d z ≡ true
  one k l z e = same z ∙ dead_part b 7 rules k z (omega arith) e

  absent : (t : Bool) → (t ≡ true → ⊥) → t ≡ false
  absent true f = absurd (f refl)
  absent false f = refl

  pub grouped_ruled : (at : ℕ) → at ≡ place_at b 7 n → Ruled b d [] p s e at (rules - n)
  grouped_ruled at w = rw w (record {
    few = omega arith;
    stand = stand_part b 7 rules n (rules - n) stand (omega arith);
    tells = λ y t. both y ∙ rw t (or-true (dead (rules_at b 7 n) y));
    entries = λ g i l m o. let o = (a.entries g i l m o).one in rw o.is (record { stands = stand_at b 7 rules o.at stand (omega (arith, o.under)); tells = λ z t. one o.at o.under z t });
    covers = λ y v l live t. elim (case (dead (rules_at b (place_at b 7 n) (rules - n)) (y ++ (v ∷ [])))) [
      | is u ↦ inr u
      | isnt u ↦ inl (hit y v l live (dead_find b 7 n (y ++ (v ∷ [])) (first y v t u)))
    ];
  })
    where
      first : (y : Row) (v : ℕ) → d (y ++ (v ∷ [])) ≡ true → dead (rules_at b (place_at b 7 n) (rules - n)) (y ++ (v ∷ [])) ≡ false → dead (rules_at b 7 n) (y ++ (v ∷ [])) ≡ true
      first y v t u = sym (or-false (dead (rules_at b 7 n) (y ++ (v ∷ [])))) ∙ sym (rw u at (both (y ++ (v ∷ [])))) ∙ t

      hit : (y : Row) (v : ℕ) → length y < 16 → d y ≡ false → Deadly b 7 n (y ++ (v ∷ [])) → Hit b p s e (length y) (y ++ (v ∷ []))
      hit y v l live k =
          let f = a.found k.at k.under in
          let o = a.entries f.group f.at f.known f.above f.under in
          let kills : dead (rule_at b (get_or p f.at 0) ∷ []) (y ++ (v ∷ [])) ≡ true = ap (λ (r : Rule). dead (r ∷ []) (y ++ (v ∷ []))) f.is ∙ k.kills in
          let still : dead (rule_at b (get_or p f.at 0) ∷ []) y ≡ false =
          absent (dead (rule_at b (get_or p f.at 0) ∷ []) y) (λ t. true≢false (sym (one k.at k.under y (ap (λ (r : Rule). dead (r ∷ []) y) (sym f.is) ∙ t)) ∙ live)) in
          let stands = rw (sym o.one.is) at (stand_at b 7 rules o.one.at stand (omega (arith, o.one.under))) in
          let here : f.group ≡ length y = sym o.last ∙ last_here b (get_or p f.at 0) y v stands still kills in
          rw (sym here) (record { at = f.at; above = f.above; under = f.under; kills = kills })
