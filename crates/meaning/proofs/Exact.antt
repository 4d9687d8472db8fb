-- Exact: a combination within the sizes meets all rules of the general maker just where it is a row of the table.
use Prim.Native.Nat.{ℕ, zero, suc, ◌+◌, ◌≤◌, ◌<◌}
use native.Mathlib.Omega.{arith}
use mathlib.Core.Path.{◌≡◌, sym}
use mathlib.Core.Logic.Iff
use mathlib.Core.Logic.{◌↔◌, inl, inr}
use mathlib.Core.List.Memᴰ
use mathlib.Core.List.{List, [], ◌∷◌, Memᴰ}
use lib.Dec.{T}
use lib.ListN.{length}
use borrow.Author.Tests.{lt-ltb, le-ltb}
use Rattle.meaning.specs.Lists.{each}
use Rattle.meaning.specs.Rows.{Row, Sizes, row, within, sound}
use Rattle.meaning.specs.Rules.{all_met}
use Rattle.meaning.specs.General.{split, fork, middle, row_rules, general}
use Rattle.meaning.proofs.Tests.{lt_or_le, T_and}
use Rattle.meaning.proofs.MetLaws.{met_nil, all_met_cons, all_met_append, all_met_each}
use Rattle.meaning.proofs.Members.{row_mem, mem_row, within_length, sound_length, sound_next}
use Rattle.meaning.proofs.Parting.{Less, less_inside, less_irrefl, less_trans, less_asym, lower, equal, upper, compare, before_less}
use Rattle.meaning.proofs.Stands.{LeftOk, RightOk, MidOk, left_run, right_run, mid_one, next, left_ok, right_low, mid_low, next_low, right_high, mid_high}

module _ (rows : List Row) (k : ℕ) where
  fork_in : suc k < length rows → fork rows (suc k) ≡ split (row rows k) (row rows (suc k)) + 1
  unfolding fork
  fork_in h = rw (lt-ltb (suc k) (length rows) h)

  fork_last : length rows ≤ suc k → fork rows (suc k) ≡ 0
  unfolding fork
  fork_last h = rw (le-ltb (suc k) (length rows) h)

module _ (ns : Sizes) (rows : List Row) (sane : T (sound ns rows)) where
  -- ---- the rows ascend

  abbrev step : (k : ℕ) → suc k < length rows → Less (row rows k) (row rows (suc k))
  step k h = before_less (row rows k) (row rows (suc k)) (omega (arith, sound_length ns rows sane k (omega arith), sound_length ns rows sane (suc k) h)) (sound_next ns rows sane k h)

  ascends : (j k : ℕ) → j < k → k < length rows → Less (row rows j) (row rows k)
  ascends j zero h l = absurd (omega arith)
  ascends j (suc k) h l = elim (lt_or_le j k) [
    | inl z ↦ less_trans (row rows j) (row rows k) (row rows (suc k)) (ascends j k z (omega arith)) (step k l)
    | inr z ↦ let e : j ≡ k = omega arith in rw e (step k l)
  ]

  -- a row is not below one that stands before it or is it
  not_less : (j k : ℕ) → k ≤ j → j < length rows → ¬ Less (row rows j) (row rows k)
  not_less j k h l p = elim (lt_or_le k j) [
    | inl z ↦ less_asym (row rows j) (row rows k) p (ascends k j z l)
    | inr z ↦ let e : j ≡ k = omega arith in less_irrefl (row rows k) (rw e at p)
  ]

  module _ (x : Row) (w : T (within ns x)) where
    -- ---- what the rules of row k ask of x

    abbrev MiddleOk : ℕ → Type 0
    MiddleOk k = suc k < length rows → MidOk (split (row rows k) (row rows (suc k))) (row rows k) (row rows (suc k)) x

    abbrev Says : ℕ → Type 0
    Says k = (LeftOk ns (fork rows k) (row rows k) x × RightOk ns (fork rows (suc k)) (row rows k) x) × MiddleOk k

    middle_met : (k : ℕ) → T (all_met (middle ns rows k) x) ↔ MiddleOk k
    unfolding middle all_met
    middle_met k = elim (lt_or_le (suc k) (length rows)) [
      | inl h ↦ let q = mid_one ns x w (row rows k) (row rows (suc k)) (split (row rows k) (row rows (suc k)))
          (omega (arith, less_inside (row rows k) (row rows (suc k)) (step k h), sound_length ns rows sane (suc k) h)) in
          rw (lt-ltb (suc k) (length rows) h) (λ t l. q.0 t, λ f. q.1 (f h))
      | inr h ↦ rw (le-ltb (suc k) (length rows) h) (λ t l. absurd (omega arith), λ f. tt)
    ]

    row_met : (k : ℕ) → T (all_met (row_rules ns rows k) x) ↔ Says k
    unfolding row_rules
    row_met k = simp (all_met_append, T_and, left_run ns x w, right_run ns x w, middle_met) Iff.rfl

    -- ---- all rules are met: x is found from row k on

    find : (f : (k : ℕ) → k < length rows → Says k) (n k : ℕ) → k + n ≡ length rows → 0 < n → ((p : Less x (row rows k)) → fork rows k ≤ p.place)
        → Memᴰ x rows
    find f zero k e z v = absurd (omega arith)
    find f (suc n) k e z v = let h : k < length rows = omega arith in elim (compare x (row rows k) (omega (arith, within_length ns x w, sound_length ns rows sane k h))) [
      | lower p ↦ absurd (omega (arith, p.less, (f k h).0.0 p.place (v p) (omega (arith, less_inside x (row rows k) p, sound_length ns rows sane k h)) p.agree))
      | equal q ↦ rw q (row_mem rows k h)
      | upper p ↦ elim (lt_or_le (suc k) (length rows)) [
        | inl l ↦ find f n (suc k) (omega arith) (omega arith)
            (rw (fork_in rows k l) (next ns x w (row rows k) (row rows (suc k)) (step k l) (rw (fork_in rows k l) at (f k h).0.1) ((f k h).1 l) p))
        | inr l ↦ absurd (omega (arith, p.less, (f k h).0.1 p.place (omega (arith, fork_last rows k l)) (omega (arith, less_inside (row rows k) x p, within_length ns x w)) (λ j y. sym (p.agree j y))))
      ]
    ]

    -- ---- x is row j: all rules are met

    module _ (j : ℕ) (b : j < length rows) (e : x ≡ row rows j) where
      not_under : (k : ℕ) → k ≤ j → ¬ Less x (row rows k)
      not_under k h = rw e (not_less j k h b)

      not_over : (k : ℕ) → j ≤ k → k < length rows → ¬ Less (row rows k) x
      not_over k h l = rw e (not_less k j h l)

      under_fork : (k : ℕ) → k < length rows → (p : Less x (row rows k)) → p.place < fork rows k
      under_fork zero h p = absurd (not_under 0 (omega arith) p)
      under_fork (suc k) h p = elim (lt_or_le j (suc k)) [
        | inl l ↦ rw (fork_in rows k h) (next_low ns x (row rows k) (not_over k (omega arith) (omega arith)) (row rows (suc k)) (step k h) p)
        | inr l ↦ absurd (not_under (suc k) l p)
      ]

      says : (k : ℕ) → k < length rows → Says k
      says k h = elim (lt_or_le k j) [
        | inl l ↦ let z : suc k < length rows = omega arith in (
          (left_ok ns x (fork rows k) (row rows k) (under_fork k h), rw (fork_in rows k z) (right_high ns x (row rows k) (row rows (suc k)) (step k z) (not_under (suc k) l))),
          λ y. mid_high ns x (row rows k) (row rows (suc k)) (step k z) (not_under (suc k) l),
        )
        | inr l ↦ (
          (left_ok ns x (fork rows k) (row rows k) (under_fork k h), right_low ns x (row rows k) (not_over k l h) (fork rows (suc k))),
          λ y. mid_low ns x (row rows k) (not_over k l h) (split (row rows k) (row rows (suc k))) (row rows (suc k)),
        )
      ]

    rows_met : 0 < length rows → T (all_met (each (row_rules ns rows) 0 (length rows)) x) ↔ Memᴰ x rows
    unfolding fork
    rows_met some = simp (all_met_each, row_met) (
      λ f. find (λ k h. f k (omega arith) (omega arith)) (length rows) 0 (omega arith) some (λ p. omega arith),
      λ h k y l. let (j, b, e) = mem_row rows x h in says j b e k (omega arith),
    )

-- the theorem; of no rows, the one rule without literals permits nothing
pub general_exact : (ns : Sizes) (rows : List Row) (x : Row) → T (sound ns rows) → T (within ns x)
    → T (all_met (general ns rows) x) ↔ Memᴰ x rows
unfolding general
general_exact ns [] x t w = (λ h. absurd (met_nil x ((all_met_cons [] [] x).0 h).0), λ h. absurd (Memᴰ.not-nil h))
general_exact ns (m ∷ rows) x t w = rows_met ns (m ∷ rows) t x w (omega arith)
