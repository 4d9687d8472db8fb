-- Counts: how many literals of a rule hold in each row. A literal is no row's only one just where every row meets the rule without it.
use Prim.Native.Nat.{ℕ, zero, suc, ◌+◌}
use native.Mathlib.Omega.{arith}
use mathlib.Core.Path.{◌≡◌, refl, sym, ap, ◌∙◌}
use mathlib.Core.Bool.{Bool, true, false, cond, not, ◌||◌}
use mathlib.Core.List.{List, [], ◌∷◌, ◌++◌}
use lib.Dec.{eqb}
use lib.ListN.{get_or, drop}
use borrow.Author.Tests.{eq-eqb, ne_eqb}
use Rattle.meaning.specs.Rows.{Row}
use Rattle.meaning.specs.Rules.{Literal, Rule, holds, met}
use Rattle.meaning.specs.Families.{met_by_all, trim}
use Rattle.reducing.specs.Inner.{one, number, change, counting, lowering, spare}

-- the numbers of the rows are those of the rule
abbrev pub Counts : Rule → List Row → List ℕ → Type 0
Counts r [] ns = Unit {0}
Counts r (m ∷ rows) ns = (get_or ns 0 0 ≡ number (λ c. holds c m) r) × Counts r rows (drop 1 ns)

-- ---- laws

number_append : (t : Literal → Bool) (r s : Rule) → number t (r ++ s) ≡ number t r + number t s
unfolding number
number_append t [] s = omega arith
number_append t (c ∷ r) s = omega (arith, number_append t r s)

number_without : (t : Literal → Bool) (kept : Rule) (c : Literal) (rest : Rule) → number t (kept ++ (c ∷ rest)) ≡ one (t c) + number t (kept ++ rest)
unfolding number
number_without t kept c rest = omega (arith, number_append t kept (c ∷ rest), number_append t kept rest)

-- a rule is met where the number of its literals that hold is not 0
number_met : (r : Rule) (m : Row) → met r m ≡ not (eqb (number (λ c. holds c m) r) 0)
unfolding number met one
number_met [] m = refl
number_met (c ∷ r) m = go (holds c m) (number_met r m)
  where
    n : ℕ
    n = number (λ c. holds c m) r

    go : (t : Bool) → met r m ≡ not (eqb n 0) → t || met r m ≡ not (eqb (one t + n) 0)
    go true e = sym (ap not (ne_eqb (1 + n) 0 (λ z. omega arith)))
    go false e = let z : 0 + n ≡ n = omega arith in rw z e

-- a number is the literal's own part just where nothing else is in it
number_own : (n k w : ℕ) → n ≡ k + w → eqb n k ≡ eqb w 0
number_own n k zero e = eq-eqb n k (omega arith)
number_own n k (suc w) e = ne_eqb n k (λ z. omega arith) ∙ sym (ne_eqb (suc w) 0 (λ z. omega arith))

pub counts_anew : (r : Rule) (rows : List Row) (ns : List ℕ) → Counts r rows (change (counting r) rows ns)
unfolding change
counts_anew r [] ns = tt
counts_anew r (m ∷ rows) ns = (refl, counts_anew r rows (drop 1 ns))

module _ (kept : Rule) (c : Literal) (rest : Rule) where
  pub spare_met : (rows : List Row) (ns : List ℕ) → Counts (kept ++ (c ∷ rest)) rows ns → spare c rows ns ≡ met_by_all (kept ++ rest) rows
  unfolding spare met_by_all
  spare_met [] ns k = refl
  spare_met (m ∷ rows) ns k =
      let t : Literal → Bool = λ d. holds d m in
      let own : eqb (get_or ns 0 0) (one (t c)) ≡ eqb (number t (kept ++ rest)) 0 =
      number_own (get_or ns 0 0) (one (t c)) (number t (kept ++ rest)) (k.0 ∙ number_without t kept c rest) in
      rw (own, ← number_met (kept ++ rest) m, spare_met rows (drop 1 ns) k.1)

  pub counts_without : (rows : List Row) (ns : List ℕ) → Counts (kept ++ (c ∷ rest)) rows ns → Counts (kept ++ rest) rows (change (lowering c) rows ns)
  unfolding change
  counts_without [] ns k = tt
  counts_without (m ∷ rows) ns k = (omega (arith, k.0, number_without (λ d. holds d m) kept c rest), counts_without rows (drop 1 ns) k.1)

  -- trim goes on in both cases
  pub trim_spare : (rows : List Row) (ns : List ℕ) → Counts (kept ++ (c ∷ rest)) rows ns
      → trim rows kept (c ∷ rest) ≡ cond (spare c rows ns) (trim rows kept rest) (trim rows (kept ++ (c ∷ [])) rest)
  unfolding trim
  trim_spare rows ns k = rw (spare_met rows ns k)
