-- Idle: an idle rule is met by every combination, so a rule that some combination breaks is not idle.
use Prim.Native.Nat.{ℕ}
use native.Mathlib.Omega.{arith}
use mathlib.Core.Path.{◌≡◌}
use mathlib.Core.Logic.{◌⊎◌, inl, inr}
use mathlib.Core.Bool.{false, ◌||◌}
use mathlib.Core.List.{[], ◌∷◌}
use lib.Dec.{T, eqb, eqb→eq, leb→le, le→leb}
use Rattle.meaning.specs.Rows.{Row, at}
use Rattle.meaning.specs.Rules.{Literal, at_most, at_least, Rule, holds, met, covers, overlap, overlaps, idle}
use Rattle.meaning.proofs.Tests.{lt_or_le, is_no, and_l, and_r, or_e}
use Rattle.meaning.proofs.MetLaws.{met_cons}

module _ (x : Row) where
  -- every value is at most a or at least b
  covers_met : (i a b : ℕ) → T (covers a b) → T (holds (at_most i a) x) ⊎ T (holds (at_least i b) x)
  unfolding covers holds
  covers_met i a b t = elim (lt_or_le a (at x i)) [ inl h ↦ inr (omega (arith, leb→le, le→leb)) | inr h ↦ inl (omega (arith, le→leb)) ]

  overlap_met : (c d : Literal) → T (overlap c d) → T (holds c x) ⊎ T (holds d x)
  unfolding overlap
  overlap_met (at_most i a) (at_most j b) t = absurd t
  overlap_met (at_most i a) (at_least j b) t =
      let e : i ≡ j = eqb→eq i j (and_l (eqb i j) (covers a b) t) in
      rw (← e) (covers_met i a b (and_r (eqb i j) (covers a b) t))
  overlap_met (at_least i a) (at_most j b) t = absurd t
  overlap_met (at_least i a) (at_least j b) t = absurd t

  overlaps_met : (c : Literal) (r : Rule) → T (overlaps c r) → T (holds c x) ⊎ T (met r x)
  unfolding overlaps
  overlaps_met c [] t = absurd t
  overlaps_met c (d ∷ r) t = elim (or_e (overlap c d || overlap d c) (overlaps c r) t) [
    | inl u ↦ elim (or_e (overlap c d) (overlap d c) u) [
      | inl o ↦ elim (overlap_met c d o) [ inl h ↦ inl h | inr h ↦ inr ((met_cons d r x).1 (inl h)) ]
      | inr o ↦ elim (overlap_met d c o) [ inl h ↦ inr ((met_cons d r x).1 (inl h)) | inr h ↦ inl h ]
    ]
    | inr u ↦ elim (overlaps_met c r u) [ inl h ↦ inl h | inr h ↦ inr ((met_cons d r x).1 (inr h)) ]
  ]

  idle_met : (r : Rule) → T (idle r) → T (met r x)
  unfolding idle
  idle_met [] t = absurd t
  idle_met (c ∷ r) t = (met_cons c r x).1 (elim (or_e (overlaps c r) (idle r) t) [ inl u ↦ overlaps_met c r u | inr u ↦ inr (idle_met r u) ])

  pub broken_busy : (r : Rule) → (¬ T (met r x)) → idle r ≡ false
  broken_busy r n = is_no (idle r) (λ t. n (idle_met r t))
