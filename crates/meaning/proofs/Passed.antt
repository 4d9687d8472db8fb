-- Passed: a rule of a family that rows meet is met by their conjunction, disjunction or median.
use Prim.Native.Nat.{ℕ, ◌≤◌, ◌<◌}
use native.Mathlib.Omega.{arith}
use mathlib.Core.Path.{◌≡◌}
use mathlib.Core.Logic.{◌↔◌, ◌⊎◌, inl, inr}
use mathlib.Core.Bool.{◌||◌}
use mathlib.Core.List.{[], ◌∷◌}
use lib.Dec.{T}
use Rattle.meaning.specs.Rows.{Row, Sizes, at, within}
use Rattle.meaning.specs.Rules.{Rule, Literal, Side, low, high, holds, met, scarce, scarces, horn, bijunctive}
use Rattle.meaning.specs.Families.{pick, both, mid, median}
use Rattle.meaning.proofs.Tests.{is, isnt, case, yes_of, no_of, or_l, or_r, tests}
use Rattle.meaning.proofs.MetLaws.{met_nil, met_cons, met_one}
use Rattle.meaning.proofs.Members.{within_length, within_at, within_of}
use Rattle.meaning.proofs.Combined.{at_both, at_median, length_both, length_median, scarce_both, common_both, first_second, first_third, second_third, median_two}

-- ---- combined rows are within the sizes

pick_lt : (s : Side) (u v n : ℕ) → u < n → v < n → pick s u v < n
unfolding pick
pick_lt low u v n h k = omega arith
pick_lt high u v n h k = omega arith

module _ (ns : Sizes) where
  pub both_within : (s : Side) (a b : Row) → T (within ns a) → T (within ns b) → T (within ns (both s a b))
  both_within s a b u v = within_of ns (both s a b)
      (omega (arith, length_both s a b, within_length ns a u, within_length ns b v))
      (λ j h. rw at_both (pick_lt s (at a j) (at b j) (at ns j) (within_at ns a u j h) (within_at ns b v j h)))

  pub median_within : (a b c : Row) → T (within ns a) → T (within ns b) → T (within ns c) → T (within ns (median a b c))
  unfolding mid
  median_within a b c u v w = within_of ns (median a b c)
      (omega (arith, length_median a b c, within_length ns a u, within_length ns b v, within_length ns c w))
      (λ j h. rw at_median (omega (arith, within_at ns a u j h, within_at ns b v j h, within_at ns c w j h)))

-- ---- a Horn rule that two rows meet, their conjunction meets; dual Horn alike

module _ (s : Side) (a b : Row) where
  abbrev Either : Rule → Type 0
  Either r = T (met r a) ⊎ T (met r b)

  -- a literal that is not scarce holds at one of the two
  common_keeps : (l : Literal) (r : Rule) → (¬ T (scarce s l)) → T (holds l a || holds l b) → T (met (l ∷ r) (both s a b))
  common_keeps l r n t = (met_cons l r (both s a b)).1 (inl ((common_both s l a b n).1 t))

  later_keeps : (l : Literal) (r : Rule) → T (met r (both s a b)) → T (met (l ∷ r) (both s a b))
  later_keeps l r t = (met_cons l r (both s a b)).1 (inr t)

  none_keeps : (r : Rule) → scarces s r ≡ 0 → Either r → T (met r (both s a b))
  unfolding scarces
  none_keeps [] z o = elim o [ inl t ↦ absurd (met_nil a t) | inr t ↦ absurd (met_nil b t) ]
  none_keeps (l ∷ r) z o = elim (case (scarce s l)) [
    | is e ↦ absurd (omega (arith, rw e at z))
    | isnt e ↦
        let z' : scarces s r ≡ 0 = omega (arith, rw e at z) in
        elim o [
          | inl t ↦ elim ((met_cons l r a).0 t) [
            | inl h ↦ common_keeps l r (no_of _ e) (or_l (holds l a) (holds l b) h)
            | inr h ↦ later_keeps l r (none_keeps r z' (inl h))
          ]
          | inr t ↦ elim ((met_cons l r b).0 t) [
            | inl h ↦ common_keeps l r (no_of _ e) (or_r (holds l a) (holds l b) h)
            | inr h ↦ later_keeps l r (none_keeps r z' (inr h))
          ]
        ]
  ]

  few_keeps : (r : Rule) → scarces s r ≤ 1 → T (met r a) → T (met r b) → T (met r (both s a b))
  unfolding scarces
  few_keeps [] z t u = absurd (met_nil a t)
  few_keeps (l ∷ r) z t u = elim (case (scarce s l)) [
    | is e ↦
        let z' : scarces s r ≡ 0 = omega (arith, rw e at z) in
        elim ((met_cons l r a).0 t) [
          | inl h ↦ elim ((met_cons l r b).0 u) [
            | inl k ↦ (met_cons l r (both s a b)).1 (inl ((scarce_both s l a b (yes_of _ e)).1 (h, k)))
            | inr k ↦ later_keeps l r (none_keeps r z' (inr k))
          ]
          | inr h ↦ later_keeps l r (none_keeps r z' (inl h))
        ]
    | isnt e ↦
        elim ((met_cons l r a).0 t) [
          | inl h ↦ common_keeps l r (no_of _ e) (or_l (holds l a) (holds l b) h)
          | inr h ↦ elim ((met_cons l r b).0 u) [
            | inl k ↦ common_keeps l r (no_of _ e) (or_r (holds l a) (holds l b) k)
            | inr k ↦ later_keeps l r (few_keeps r (omega (arith, rw e at z)) h k)
          ]
        ]
  ]

  pub horn_keeps : (r : Rule) → T (horn s r) → T (met r a) → T (met r b) → T (met r (both s a b))
  unfolding horn
  horn_keeps r t = few_keeps r (omega (arith, simp tests at t))

-- ---- a rule of at most two literals that three rows meet, their median meets

met_pair : (l k : Literal) (x : Row) → T (met (l ∷ k ∷ []) x) ↔ (T (holds l x) ⊎ T (holds k x))
met_pair l k x = rw met_one at (met_cons l (k ∷ []) x)

module _ (a b c : Row) where
  -- two of the rows meet the same literal
  two_meet : (l k : Literal) → T (holds l a) ⊎ T (holds k a) → T (holds l b) ⊎ T (holds k b) → T (holds l c) ⊎ T (holds k c)
      → T (holds l (median a b c)) ⊎ T (holds k (median a b c))
  two_meet l k (inl p) (inl q) o = inl ((median_two l a b c).1 (first_second p q))
  two_meet l k (inl p) (inr q) (inl r) = inl ((median_two l a b c).1 (first_third p r))
  two_meet l k (inl p) (inr q) (inr r) = inr ((median_two k a b c).1 (second_third q r))
  two_meet l k (inr p) (inl q) (inl r) = inl ((median_two l a b c).1 (second_third q r))
  two_meet l k (inr p) (inl q) (inr r) = inr ((median_two k a b c).1 (first_third p r))
  two_meet l k (inr p) (inr q) o = inr ((median_two k a b c).1 (first_second p q))

  pub two_keeps : (r : Rule) → T (bijunctive r) → T (met r a) → T (met r b) → T (met r c) → T (met r (median a b c))
  unfolding bijunctive
  two_keeps [] z t u v = absurd (met_nil a t)
  two_keeps (l ∷ []) z t u v = rw met_one ((median_two l a b c).1 (first_second (rw met_one at t) (rw met_one at u)))
  two_keeps (l ∷ k ∷ []) z t u v = (met_pair l k (median a b c)).1 (two_meet l k ((met_pair l k a).0 t) ((met_pair l k b).0 u) ((met_pair l k c).0 v))
  two_keeps (l ∷ k ∷ j ∷ r) z t u v = absurd (omega (arith, simp tests at z))
