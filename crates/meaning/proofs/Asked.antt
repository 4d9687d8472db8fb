-- Asked: what the left, the right and the middle rule of a row at a setting ask of a combination.
use Prim.Native.Nat.{ℕ, zero, suc, ◌+◌, ◌-◌, ◌≤◌, ◌<◌}
use native.Mathlib.Omega.{arith}
use mathlib.Core.Path.{◌≡◌}
use mathlib.Core.Logic.Iff
use mathlib.Core.Logic.{◌↔◌, ◌≢◌, inl, inr}
use mathlib.Core.Bool.{Bool, ◌&&◌, ◌||◌}
use mathlib.Core.List.{◌++◌}
use lib.Dec.{T, leb, ltb}
use Rattle.meaning.specs.Rows.{Row, Sizes, at}
use Rattle.meaning.specs.Rules.{Rule, holds, met, all_met}
use Rattle.meaning.specs.General.{differs, earlier, left_at, right_at, mid_at}
use Rattle.meaning.proofs.Tests.{lt_or_le, not_le, eq_stable, stable, or_l, or_r, or_e, T-nor, tests}
use Rattle.meaning.proofs.MetLaws.{met_one, met_two, met_append, met_opt, all_met_opt}

-- x and m agree at the first i settings
abbrev pub Agree : ℕ → Row → Row → Type 0
Agree i x m = (j : ℕ) → j < i → at x j ≡ at m j

-- ---- a setting differs from v

-- the tests of a value w that is to differ from v, among n values
abbrev test : ℕ → ℕ → ℕ → Bool
test w n v = ltb 0 v && leb w (v - 1) || ltb (v + 1) n && leb (v + 1) w

test_ne : (w n v : ℕ) → w < n → T (test w n v) → w ≢ v
test_ne w n v h t = elim (or_e (ltb 0 v && leb w (v - 1)) (ltb (v + 1) n && leb (v + 1) w) t) [
  | inl a ↦ omega (arith, simp tests at a)
  | inr a ↦ omega (arith, simp tests at a)
]

ne_test : (w n v : ℕ) → w < n → w ≢ v → T (test w n v)
ne_test w n v h d = elim (lt_or_le w v) [
  | inl a ↦ or_l (ltb 0 v && leb w (v - 1)) _ (simp tests (omega arith))
  | inr a ↦ or_r (ltb 0 v && leb w (v - 1)) _ (simp tests (omega arith))
]

differs_met : (i n v : ℕ) (x : Row) → at x i < n → T (met (differs i n v) x) ↔ (at x i ≢ v)
unfolding differs holds
differs_met i n v x h = simp (met_append, met_opt) (test_ne (at x i) n v h, ne_test (at x i) n v h)

-- ---- a rule that begins with the earlier settings

agree_suc : (i : ℕ) (x m : Row) → Agree i x m → at x i ≡ at m i → Agree (suc i) x m
agree_suc i x m g e j h = elim (lt_or_le j i) [ inl k ↦ g j k | inr k ↦ let p : j ≡ i = omega arith in rw p e ]

earlier_not : (ns : Sizes) (m x : Row) (i : ℕ) → ((j : ℕ) → j < i → at x j < at ns j) → (¬ T (met (earlier ns m i) x)) ↔ Agree i x m
unfolding earlier met
earlier_not ns m x zero b = (λ n j h. absurd (omega arith), λ g t. t)
earlier_not ns m x (suc i) b = simp (met_append, T-nor, earlier_not ns m x i (λ j h. b j (omega arith)), differs_met i (at ns i) (at m i) x (b i (omega arith)))
    (λ p. agree_suc i x m p.0 (eq_stable _ _ p.1), λ g. (λ j h. g j (omega arith), λ n. n (g i (omega arith))))

module _ (ns : Sizes) (m x : Row) (i : ℕ) (b : (j : ℕ) → j ≤ i → at x j < at ns j) where
  -- it is not met just where x agrees with m at those settings and the rest is not met
  pub rule_not : (r : Rule) → (¬ T (met (earlier ns m i ++ r) x)) ↔ (Agree i x m × (¬ T (met r x)))
  rule_not r = simp (met_append, T-nor, earlier_not ns m x i (λ j h. b j (omega arith))) Iff.rfl

  rule_met : (r : Rule) → T (met (earlier ns m i ++ r) x) ↔ (Agree i x m → T (met r x))
  rule_met r = (
    λ t g. stable (met r x) (λ n. (rule_not r).1 (g, n) t),
    λ f. stable (met (earlier ns m i ++ r) x) (λ n. let p = (rule_not r).0 n in p.1 (f p.0)),
  )

  -- ---- the three kinds of rule

  pub left_met : T (all_met (left_at ns m i) x) ↔ (Agree i x m → at m i ≤ at x i)
  unfolding left_at holds
  left_met = simp (all_met_opt, rule_met, met_one, tests)
      (λ f g. elim (lt_or_le (at x i) (at m i)) [ inl h ↦ f (omega arith) g | inr h ↦ h ], λ f h g. f g)

  pub right_met : T (all_met (right_at ns m i) x) ↔ (Agree i x m → at x i ≤ at m i)
  unfolding right_at holds
  right_met = simp (all_met_opt, rule_met, met_one, tests)
      (λ f g. elim (lt_or_le (at m i) (at x i)) [ inl h ↦ f (omega (arith, b i (omega arith))) g | inr h ↦ h ], λ f h g. f g)

  pub mid_met : (m' : Row) → T (all_met (mid_at ns m m' i) x) ↔ (Agree i x m → at m i < at x i → at m' i ≤ at x i)
  unfolding mid_at holds
  mid_met m' = simp (all_met_opt, rule_met, met_two, tests, not_le)
      (λ f g h. elim (lt_or_le (at x i) (at m' i)) [ inl k ↦ f (omega arith) g h | inr k ↦ k ], λ f h g. f g)
