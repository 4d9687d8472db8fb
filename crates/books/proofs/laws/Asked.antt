-- Testing rules where they stand in a book: the loop to the first rule that is not met.
use Prim.Native.Nat.{ℕ, suc, ◌+◌, ◌-◌, ◌≤◌, ◌<◌}
use native.Mathlib.Omega.{arith}
use native.Mathlib.Nat.{sub-zero}
use mathlib.Core.Path.{◌≡◌, sym, ◌∙◌}
use mathlib.Core.Bool.{Bool, true, false}
use mathlib.Core.List.{List, ◌∷◌}
use lib.ListN.{length, get_or}
use borrow.Author.Tests.{lt-ltb, le-ltb}
use Rattle.std.specs.Prelude.{Some, None}
use Rattle.meaning.specs.Rows.{Row}
use Rattle.meaning.specs.Rules.{met}
use Rattle.meaning.specs.Bytes.{rule_at, end_at, rules_at}
use Rattle.literals.specs.Inner.{Askable}
use Rattle.literals.specs.Found.{found}
use Rattle.literals.proofs.laws.Known.{fit_known}
use Rattle.books.specs.Tested.{first_unmet}
use Rattle.books.specs.Inner.{Testable}
use Rattle.books.proofs.laws.Holds.{holds_good, holds_inside, holds_on}
use Rattle.books.proofs.laws.First.{first_unmet_met, first_unmet_not}

-- the loop: the i rules before p are met
pub record UnmetAt (b : List ℕ) (x : Row) (k p i : ℕ) : Type 0 where
  pub whole : first_unmet (rules_at b 7 k) x ≡ i + first_unmet (rules_at b p (k - i)) x
  pub left : Testable b x p (k - i)
  pub short : i ≤ k

module _ (b : List ℕ) (x : Row) (k : ℕ) where
  pub unmet_start : Testable b x 7 k → UnmetAt b x k 7 0
  unmet_start t = record { whole = rw (sub-zero k) (omega arith); left = rw (sub-zero k) t; short = omega arith }

  module _ (p i : ℕ) (a : UnmetAt b x k p i) (h : i < k) where
    pub unmet_inside : end_at b p ≤ length b
    unmet_inside = let t = a.left in holds_inside b t.ns t.family p (k - i) t.holds (omega arith)

    pub unmet_ask : Askable b (p + 3) (get_or b (p + 2) 0) (length x)
    unmet_ask =
        let t = a.left in
        record { inside = unmet_inside; known = rw t.long (fit_known t.ns (rule_at b p) (holds_good b t.ns t.family p (k - i) t.holds (omega arith)).fit) }

    unmet_step : rules_at b p (k - i) ≡ rule_at b p ∷ rules_at b (end_at b p) (k - (i + 1))
    unfolding rules_at
    unmet_step = let e : k - i ≡ suc (k - (i + 1)) = omega arith in rw e

    pub unmet_found : met (rule_at b p) x ≡ false → Some i ≡ found k (first_unmet (rules_at b 7 k) x)
    unmet_found e =
        let u = first_unmet_not (rule_at b p) (rules_at b (end_at b p) (k - (i + 1))) x e in
        let w = rw unmet_step at a.whole in
        let z : first_unmet (rules_at b 7 k) x ≡ i = omega arith in
        rw (z, lt-ltb i k h)

    pub unmet_on : (r : Bool) → r ≡ met (rule_at b p) x → r ≡ true → (e : ℕ) → e ≡ end_at b p → UnmetAt b x k e (i + 1)
    unmet_on r d q p' o =
        let u = first_unmet_met (rule_at b p) (rules_at b (end_at b p) (k - (i + 1))) x (sym d ∙ q) in
        let w = rw unmet_step at a.whole in
        let t = a.left in
        rw o (record {
          whole = omega arith;
          left = record { ns = t.ns; family = t.family; long = t.long; holds = holds_on b t.ns t.family p k i t.holds h };
          short = omega arith;
        })

  pub unmet_end : (p i : ℕ) → UnmetAt b x k p i → k ≤ i → None ≡ found k (first_unmet (rules_at b 7 k) x)
  unfolding rules_at first_unmet
  unmet_end p i a h =
      let e : k - i ≡ 0 = omega arith in
      let w = rw e at a.whole in
      let z : first_unmet (rules_at b 7 k) x ≡ k = omega (arith, a.short) in
      rw (z, le-ltb k k (omega arith))

pub ruleset unmet_loop = (unmet_start, unmet_ask, unmet_inside, unmet_found, unmet_end)
