-- Sound: a table is sound just where each row, by its number, is within the sizes and comes before the next.
use Prim.Native.Nat.{ℕ, zero, suc, ◌<◌}
use native.Mathlib.Omega.{arith}
use mathlib.Core.Path.{◌≡◌}
use mathlib.Core.Logic.{inl, inr}
use mathlib.Core.Bool.{true}
use mathlib.Core.List.{List, [], ◌∷◌}
use lib.Dec.{T}
use lib.ListN.{length}
use Rattle.meaning.specs.Rows.{Row, Sizes, row, within, before, ascending, all_within}
use Rattle.meaning.proofs.Tests.{lt_or_le, and_i, is_yes}
use Rattle.meaning.proofs.Order.{before_transitive}
use Rattle.meaning.proofs.Members.{ascending_next}

pub all_within_of : (ns : Sizes) (rows : List Row) → ((k : ℕ) → k < length rows → T (within ns (row rows k))) → T (all_within ns rows)
unfolding all_within
all_within_of ns [] f = tt
all_within_of ns (m ∷ rows) f =
    and_i (within ns m) (all_within ns rows) (f 0 (omega arith)) (all_within_of ns rows (λ k h. f (suc k) (omega arith)))

pub ascending_of : (rows : List Row) → ((k : ℕ) → suc k < length rows → T (before (row rows k) (row rows (suc k)))) → T (ascending rows)
unfolding ascending
ascending_of [] f = tt
ascending_of (m ∷ []) f = tt
ascending_of (m ∷ n ∷ rows) f =
    and_i (before m n) (ascending (n ∷ rows)) (f 0 (omega arith)) (ascending_of (n ∷ rows) (λ k h. f (suc k) (omega arith)))

-- an earlier row comes before a later one
pub ascending_before : (rows : List Row) → T (ascending rows) → (j k : ℕ) → j < k → k < length rows → before (row rows j) (row rows k) ≡ true
ascending_before rows t j zero h i = absurd (omega arith)
ascending_before rows t j (suc k) h i = elim (lt_or_le j k) [
  | inl g ↦ before_transitive (row rows j) (row rows k) (row rows (suc k)) (ascending_before rows t j k g (omega arith)) (is_yes _ (ascending_next rows k t i))
  | inr g ↦ let e : j ≡ k = omega arith in rw e (is_yes _ (ascending_next rows k t i))
]
