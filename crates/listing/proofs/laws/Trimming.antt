-- Trimming: the rules in front of a run that every value from one on meets go, and what is left says the same of those values.
use Prim.Native.Nat.{ℕ, zero, suc, ◌+◌, ◌*◌, ◌-◌, ◌≤◌, ◌<◌}
use native.Mathlib.Omega.{arith}
use mathlib.Core.Path.{◌≡◌, refl, sym, ap, ◌∙◌}
use mathlib.Core.Bool.{Bool, true}
use mathlib.Core.Logic.{inl, inr}
use mathlib.Core.List.{List, [], ◌∷◌, ◌++◌, append_assoc}
use lib.Dec.{leb}
use lib.ListN.{length, get_or}
use lib.Seq.{append_snoc, get_or-append_seam}
use borrow.Author.Tests.{le-leb, leb-true, ne_eqb}
use Rattle.literals.specs.Inner.{holds_by}
use Rattle.meaning.specs.Rows.{Row, at}
use Rattle.meaning.specs.Rules.{holds, met}
use Rattle.meaning.specs.Bytes.{literal_at, rule_at, end_at, rules_at}
use Rattle.meaning.specs.Listing.{dead}
use Rattle.meaning.proofs.Dead.{dead_append}
use Rattle.listing.specs.Inner.{Stands, AllStand, Ruled, Passes, Trims}
use Rattle.literals.proofs.laws.Holding.{holds_by_literal}
use Rattle.listing.proofs.laws.Looking.{met_at, never_dead}

-- ---- one rule

-- literal j has the sign "at least" and is on setting i
pub passes_by : (b : List ℕ) (p i v j : ℕ) → j < get_or b (p + 2) 0 → (k : ℕ) → k ≡ get_or b (p + 3 + 3 * j) 0 → k ≡ i → (get_or b (p + 3 + 3 * j + 1) 0 ≡ 0 → ⊥)
    → Passes b p i v (leb (get_or b (p + 3 + 3 * j + 2) 0) v)
unfolding holds_by
passes_by b p i v j h k e f g = record { met_by = λ t x z u l m. by t x z u l m }
  where
    by : leb (get_or b (p + 3 + 3 * j + 2) 0) v ≡ true → (x z : Row) (u : ℕ) → length x ≡ i → v ≤ u → met (rule_at b p) (x ++ (u ∷ z)) ≡ true
    by t x z u l m =
        let here : at (x ++ (u ∷ z)) (get_or b (p + 3 + 3 * j) 0) ≡ u = ap (at (x ++ (u ∷ z))) (sym e ∙ f ∙ sym l) ∙ get_or-append_seam x u z 0 in
        let says : holds_by (get_or b (p + 3 + 3 * j + 1) 0) (get_or b (p + 3 + 3 * j + 2) 0) u ≡ true =
        rw (ne_eqb (get_or b (p + 3 + 3 * j + 1) 0) 0 g) (le-leb (get_or b (p + 3 + 3 * j + 2) 0) u (omega (arith, leb-true (get_or b (p + 3 + 3 * j + 2) 0) v t))) in
        let held : holds (literal_at b (p + 3 + 3 * j)) (x ++ (u ∷ z)) ≡ true =
        sym (holds_by_literal (get_or b (p + 3 + 3 * j + 1) 0) (get_or b (p + 3 + 3 * j) 0) (get_or b (p + 3 + 3 * j + 2) 0) (x ++ (u ∷ z)))
        ∙ ap (holds_by (get_or b (p + 3 + 3 * j + 1) 0) (get_or b (p + 3 + 3 * j + 2) 0)) here ∙ says in
        met_at b (p + 3) (get_or b (p + 2) 0) j (x ++ (u ∷ z)) h held

-- ---- the run

first_gone : (b : List ℕ) (q left : ℕ) (z : Row) → 0 < left → met (rule_at b q) z ≡ true → dead (rules_at b q left) z ≡ dead (rules_at b (end_at b q) (left - 1)) z
unfolding rules_at
first_gone b q zero z h m = absurd (omega arith)
first_gone b q (suc k) z h m =
    let e : suc k - 1 ≡ k = omega arith in
    dead_append (rule_at b q ∷ []) (rules_at b (end_at b q) k) z ∙ rw (never_dead b q z m, e)

pub stand_next : (b : List ℕ) (q left : ℕ) → 0 < left → AllStand b q left → Stands b q × AllStand b (end_at b q) (left - 1)
stand_next b q zero h s = absurd (omega arith)
stand_next b q (suc k) h s = let e : suc k - 1 ≡ k = omega arith in rw e s

pub stand_on : (b : List ℕ) (q n i q₁ : ℕ) → AllStand b q (n - i) → i < n → q₁ ≡ end_at b q → AllStand b q₁ (n - (i + 1))
stand_on b q n i q₁ s h e = let z : n - (i + 1) ≡ n - i - 1 = omega arith in rw (e, z) (stand_next b q (n - i) (omega arith) s).1

module _ (b : List ℕ) (p k i v q n : ℕ) (y : Trims b p k i v q (k - n)) (h : n < k) where
  pub trims_on : (r : Bool) → Passes b q i v r → r ≡ true → (q₁ : ℕ) → q₁ ≡ end_at b q → Trims b p k i v q₁ (k - (n + 1))
  trims_on r a t q₁ e =
      let z : k - (n + 1) ≡ k - n - 1 = omega arith in
      rw (e, z) (record {
        few = omega arith;
        stand = (stand_next b q (k - n) (omega arith) y.stand).1;
        same = λ x z u l m. y.same x z u l m ∙ first_gone b q (k - n) (x ++ (u ∷ z)) (omega arith) (a.met_by t x z u l m);
      })

-- what decides below x with a value from v on
pub ruled_trimmed : (b : List ℕ) (d : Row → Bool) (x : Row) (p s e : List ℕ) (at k q left v u : ℕ) → Trims b at k (length x) v q left → v ≤ u
    → Ruled b d (x ++ (u ∷ [])) p s e at k → Ruled b d (x ++ (u ∷ [])) p s e q left
ruled_trimmed b d x p s e at k q left v u t h r = record {
  few = omega (arith, t.few, r.few);
  stand = t.stand;
  tells = λ y m. r.tells y (same y ∙ m);
  entries = r.entries;
  covers = λ y w l i m. elim (r.covers y w l i m) [
    | inl o ↦ inl o
    | inr o ↦ inr (rw (append_assoc (x ++ (u ∷ [])) y (w ∷ [])) (sym (same (y ++ (w ∷ []))) ∙ (rw (append_assoc (x ++ (u ∷ [])) y (w ∷ [])) at o)))
  ];
}
  where
    same : (y : Row) → dead (rules_at b at k) ((x ++ (u ∷ [])) ++ y) ≡ dead (rules_at b q left) ((x ++ (u ∷ [])) ++ y)
    same y = rw (append_snoc x u y) (t.same x y u refl h)
