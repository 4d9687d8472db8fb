-- Swapped: rows combined in another order, and rows combined with themselves.
use Prim.Native.Nat.{ℕ}
use native.Mathlib.Omega.{arith}
use native.Mathlib.Nat.{min_comm, max_comm, min-eq_left, min-eq_right, max-eq_left, max-eq_right, le_of_lt}
use mathlib.Core.Path.{◌≡◌}
use mathlib.Core.Logic.{inl, inr}
use lib.ListN.{length}
use lib.Seq.{ext_get_or}
use Rattle.meaning.specs.Rows.{Row, at}
use Rattle.meaning.specs.Rules.{Side, low, high}
use Rattle.meaning.specs.Families.{pick, both, mid, median}
use Rattle.meaning.proofs.Tests.{lt_or_le}
use Rattle.meaning.proofs.Combined.{at_both, at_median, length_both, length_median}

pick_comm : (s : Side) (u v : ℕ) → pick s u v ≡ pick s v u
unfolding pick
pick_comm low u v = omega arith
pick_comm high u v = omega arith

pick_same : (s : Side) (u : ℕ) → pick s u u ≡ u
unfolding pick
pick_same low u = omega arith
pick_same high u = omega arith

pub both_comm : (s : Side) (a b : Row) → both s a b ≡ both s b a
both_comm s a b = ext_get_or 0 (both s a b) (both s b a) (omega (arith, length_both s a b, length_both s b a)) (λ i h. rw (at_both s a b i, at_both s b a i) (pick_comm s (at a i) (at b i)))

pub both_same : (s : Side) (a : Row) → both s a a ≡ a
both_same s a = ext_get_or 0 (both s a a) a (omega (arith, length_both s a a)) (λ i h. rw (at_both s a a i) (pick_same s (at a i)))

mid_swap : (u v w : ℕ) → mid u v w ≡ mid v u w
unfolding mid
mid_swap u v w = rw (min_comm u v, max_comm u v)

-- `omega` splits at most six of min and max, so the two of u and v go first
mid_last : (u v w : ℕ) → mid u v w ≡ mid u w v
unfolding mid
mid_last u v w = elim (lt_or_le u v) [
  | inl h ↦ rw (min-eq_left (le_of_lt h), max-eq_right (le_of_lt h)) (omega arith)
  | inr h ↦ rw (min-eq_right h, max-eq_left h) (omega arith)
]

pub median_swap : (a b c : Row) → median a b c ≡ median b a c
median_swap a b c = ext_get_or 0 (median a b c) (median b a c) (omega (arith, length_median a b c, length_median b a c))
    (λ i h. rw (at_median a b c i, at_median b a c i) (mid_swap (at a i) (at b i) (at c i)))

pub median_last : (a b c : Row) → median a b c ≡ median a c b
median_last a b c = ext_get_or 0 (median a b c) (median a c b) (omega (arith, length_median a b c, length_median a c b))
    (λ i h. rw (at_median a b c i, at_median a c b i) (mid_last (at a i) (at b i) (at c i)))

pub median_same : (a c : Row) → length a ≡ length c → median a a c ≡ a
unfolding mid
median_same a c e = ext_get_or 0 (median a a c) a (omega (arith, length_median a a c)) (λ i h. rw (at_median a a c i) (omega arith))
