-- Met: what it says of a combination that a rule, or all rules of a list, are met.
use Prim.Native.Nat.{ℕ, zero, suc, ◌+◌, ◌≤◌, ◌<◌}
use native.Mathlib.Omega.{arith}
use mathlib.Core.Path.{◌≡◌, refl, sym, ◌∙◌}
use mathlib.Core.Logic.Iff
use mathlib.Core.Logic.{◌↔◌, ◌⊎◌, inl, inr}
use mathlib.Core.Bool.{Bool, true, false, cond, ◌&&◌, ◌||◌, or_assoc, and_assoc, or-false}
use mathlib.Core.List.{List, [], ◌∷◌, ◌++◌}
use lib.Dec.{T, ltb, leb-suc-suc}
use lib.ListN.{length}
use borrow.Author.Tests.{lt-ltb}
use Rattle.meaning.specs.Lists.{opt, each}
use Rattle.meaning.specs.Rows.{Row}
use Rattle.meaning.specs.Rules.{Literal, Rule, holds, met, all_met}
use Rattle.meaning.specs.Inner.{first_held}
use Rattle.meaning.proofs.Tests.{lt_or_le, and_l, and_i, or_l, or_r, or_e, T_and, T-or}

-- ---- one rule

pub met_nil : (x : Row) → ¬ T (met [] x)
unfolding met
met_nil x t = t

pub met_cons : (c : Literal) (r : Rule) (x : Row) → T (met (c ∷ r) x) ↔ (T (holds c x) ⊎ T (met r x))
unfolding met
met_cons c r x = (or_e (holds c x) (met r x), λ o. elim o [ inl h ↦ or_l (holds c x) (met r x) h | inr h ↦ or_r (holds c x) (met r x) h ])

pub met_one : (c : Literal) (x : Row) → met (c ∷ []) x ≡ holds c x
unfolding met
met_one c x = rw or-false

pub met_two : (c d : Literal) (x : Row) → T (met (c ∷ d ∷ []) x) ↔ (¬ T (holds c x) → T (holds d x))
unfolding met
met_two c d x = simp (T-or, or-false) Iff.rfl

pub met_append : (r s : Rule) (x : Row) → met (r ++ s) x ≡ met r x || met s x
unfolding met
met_append [] s x = refl
met_append (c ∷ r) s x = rw (met_append r s x, or_assoc)

-- a rule is met where one of its literals is the first that holds
pub met_held : (r : Rule) (x : Row) → met r x ≡ ltb (first_held r x) (length r)
unfolding met first_held
met_held [] x = refl
met_held (c ∷ r) x = go (holds c x) (met_held r x)
  where
    go : (t : Bool) → met r x ≡ ltb (first_held r x) (length r) → t || met r x ≡ ltb (cond t 0 (suc (first_held r x))) (suc (length r))
    go true e = sym (lt-ltb 0 (suc (length r)) (omega arith))
    go false e = e ∙ sym (leb-suc-suc (suc (first_held r x)) (length r))

pub met_opt : (b : Bool) (c : Literal) (x : Row) → met (opt b c) x ≡ b && holds c x
unfolding met
met_opt true c x = rw or-false
met_opt false c x = refl

-- ---- all rules of a list

pub all_met_cons : (r : Rule) (rs : List Rule) (x : Row) → T (all_met (r ∷ rs) x) ↔ (T (met r x) × T (all_met rs x))
unfolding all_met
all_met_cons r rs x = T_and (met r x) (all_met rs x)

pub all_met_append : (rs ss : List Rule) (x : Row) → all_met (rs ++ ss) x ≡ all_met rs x && all_met ss x
unfolding all_met
all_met_append [] ss x = refl
all_met_append (r ∷ rs) ss x = rw (all_met_append rs ss x, and_assoc)

pub all_met_opt : (b : Bool) (r : Rule) (x : Row) → T (all_met (opt b r) x) ↔ (T b → T (met r x))
unfolding all_met
all_met_opt true r x = (λ t u. and_l (met r x) true t, λ f. and_i (met r x) true (f tt) tt)
all_met_opt false r x = (λ t u. absurd u, λ f. tt)

pub all_met_each : (f : ℕ → List Rule) (x : Row) (s n : ℕ) → T (all_met (each f s n) x) ↔ ((i : ℕ) → s ≤ i → i < s + n → T (all_met (f i) x))
unfolding all_met
all_met_each f x s zero = (λ t i h k. absurd (omega arith), λ g. tt)
all_met_each f x s (suc n) = simp (all_met_append, T_and, all_met_each f x (suc s) n) (
  λ p i h k. elim (lt_or_le s i) [ inl l ↦ p.1 i l (omega arith) | inr l ↦ let e : i ≡ s = omega arith in rw e p.0 ],
  λ g. (g s (omega arith) (omega arith), λ i h k. g i (omega arith) (omega arith)),
)
