-- Laws of testing: what the answer to a test says of the combination and the rules.
use Prim.Native.Nat.{ℕ, ◌≤◌, ◌<◌}
use native.Mathlib.Omega.{arith}
use mathlib.Core.Path.{◌≡◌, ◌∙◌}
use mathlib.Core.Logic.{◌↔◌, inl, inr}
use mathlib.Core.Bool.{false}
use mathlib.Core.List.{List, []}
use lib.Dec.{T}
use lib.ListN.{length, get_or}
use borrow.Author.Tests.{lt-ltb, le-ltb, eq-eqb}
use Rattle.std.specs.Prelude.{Ok}
use Rattle.meaning.specs.Rows.{Row, alike, within}
use Rattle.meaning.specs.Rules.{met, all_met}
use Rattle.meaning.specs.Bytes.{rules_in}
use Rattle.meaning.proofs.Tests.{lt_or_le}
use Rattle.meaning.proofs.Members.{within_length}
use Rattle.literals.specs.Found.{found}
use Rattle.books.specs.Format.{Book, read_of}
use Rattle.books.specs.Tested.{Permitted, NotMet, judge_of, tested_of, first_unmet, first_over}
use Rattle.books.proofs.laws.First.{first_unmet_most, first_unmet_all, first_unmet_before, first_unmet_at, first_over_all}

-- ---- what the answer says, for an accepted book

module _ (b : List ℕ) (x : Row) (n l family k : ℕ) (h : read_of b ≡ Book n l family k) where
  tested_is : tested_of b x ≡ judge_of (alike n l) (rules_in b) x
  unfolding tested_of
  tested_is = rw h

  module _ (w : T (within (alike n l) x)) where
    abbrev u : ℕ
    u = first_unmet (rules_in b) x

    tested_within : tested_of b x ≡ Ok (found (length (rules_in b)) u)
    unfolding judge_of
    tested_within =
        let e : length x ≡ length (alike n l) = within_length (alike n l) x w in
        let o : length x ≤ first_over (alike n l) x = omega (arith, (first_over_all (alike n l) x e).1 w) in
        tested_is ∙ rw (eq-eqb (length x) (length (alike n l)) e, le-ltb (first_over (alike n l) x) (length x) o)

    tested_unmet : u < length (rules_in b) → tested_of b x ≡ NotMet u
    tested_unmet m = tested_within ∙ rw (lt-ltb u (length (rules_in b)) m)

    tested_met : length (rules_in b) ≤ u → tested_of b x ≡ Permitted
    tested_met m = tested_within ∙ rw (le-ltb u (length (rules_in b)) m)

    -- permitted just where all rules are met
    pub tested_permitted : (tested_of b x ≡ Permitted) ↔ T (all_met (rules_in b) x)
    tested_permitted = (
      λ q. elim (lt_or_le u (length (rules_in b))) [
        | inl m ↦ let e = tested_unmet m in let z : ◌≡◌ {A = ℕ} 0 1 = cc in absurd (omega arith)
        | inr m ↦ (first_unmet_all (rules_in b) x).0 (omega (arith, first_unmet_most (rules_in b) x))
      ],
      λ t. tested_met (omega (arith, (first_unmet_all (rules_in b) x).1 t)),
    )

    -- else the number of a rule that is not met, while those before it are
    pub tested_not_met : (j : ℕ) → tested_of b x ≡ NotMet j
        → (j < length (rules_in b)) × (met (get_or (rules_in b) j []) x ≡ false) × ((i : ℕ) → i < j → T (met (get_or (rules_in b) i []) x))
    tested_not_met j q = elim (lt_or_le u (length (rules_in b))) [
      | inl m ↦ let e = tested_unmet m in let same : u ≡ j = cc in rw (← same) (m, first_unmet_at (rules_in b) x m, λ i h. first_unmet_before (rules_in b) x i h)
      | inr m ↦ let e = tested_met m in let z : ◌≡◌ {A = ℕ} 0 1 = cc in absurd (omega arith)
    ]
