-- Lookup: a row is found by halving the rows among which it may be.
use Prim.Native.Nat.{ℕ, ◌+◌, ◌/◌, ◌-◌, ◌≤◌, ◌<◌}
use native.Mathlib.Omega.{arith}
use native.Mathlib.Nat.{div-le_self}
use mathlib.Core.Path.{◌≡◌, sym, ◌∙◌}
use mathlib.Core.Logic.{inl, inr}
use mathlib.Core.Bool.{true, false, false≢true}
use mathlib.Core.List.{List}
use lib.Dec.{T}
use lib.ListN.{length}
use Rattle.meaning.specs.Rows.{Row, row, before, ascending, same, is_row, rows_of}
use Rattle.meaning.proofs.Tests.{is, isnt, case, lt_or_le, yes_of, no_of, is_yes, is_no}
use Rattle.meaning.proofs.Order.{before_irreflexive, before_transitive, before_total}
use Rattle.meaning.proofs.Members.{same_refl, same_eq, is_row_mem, row_mem, mem_row}
use Rattle.meaning.proofs.Sound.{ascending_before}
use Rattle.meaning.proofs.Flat.{rows_count}
use Rattle.std.specs.declared.cmp.Ordering.{Ordering}
use Rattle.std.specs.declared.cmp.Ordering.TheVariants.{Less, Equal, Greater}
use Rattle.std.specs.Ordering.{nat_cmp}
use Rattle.std.specs.Cmp.Lexicographic.{slice_cmp}
use Rattle.tables.specs.Inner.{Rising, Known}
use Rattle.tables.proofs.laws.Compare.{is_less, is_same, is_more}
use Rattle.tables.proofs.laws.Combining.{is_known}

-- ---- the rows from low up to high are those among which x may be

module _ (x : Row) (rows : List Row) where
  pub record Between (low high : ℕ) : Type 0 where
    pub inside : high ≤ length rows
    pub below : (k : ℕ) → k < low → before (row rows k) x ≡ true
    pub above : (k : ℕ) → high ≤ k → k < length rows → before x (row rows k) ≡ true

  between_start : Between 0 (length rows)
  between_start = record { inside = omega arith; below = λ k h. absurd (omega arith); above = λ k h i. absurd (omega arith) }

  between_none : (low high : ℕ) → Between low high → high ≤ low → is_row x rows ≡ false
  between_none low high c h = is_no (is_row x rows) (λ t.
      let (k, i, e) = mem_row rows x ((is_row_mem x rows).0 t) in
      elim (lt_or_le k low) [
        | inl g ↦ false≢true (sym (before_irreflexive x) ∙ rw (← e) at (c.below k g))
        | inr g ↦ false≢true (sym (before_irreflexive x) ∙ rw (← e) at (c.above k (omega arith) i))
      ])

  module _ (t : T (ascending rows)) (low high m : ℕ) (c : Between low high) (g : m < high) where
    between_low : before x (row rows m) ≡ true → Between low m
    between_low e = record {
      inside = omega (arith, c.inside);
      below = c.below;
      above = λ k h i. elim (lt_or_le m k) [
        | inl j ↦ before_transitive x (row rows m) (row rows k) e (ascending_before rows t m k j i)
        | inr j ↦ let f : k ≡ m = omega arith in rw f e
      ];
    }

    between_high : before x (row rows m) ≡ false → same x (row rows m) ≡ false → Between (m + 1) high
    between_high e f = record {
      inside = c.inside;
      below = λ k h. elim (lt_or_le k m) [
        | inl j ↦ before_transitive (row rows k) (row rows m) x (ascending_before rows t k m j (omega (arith, c.inside))) after
        | inr j ↦ let p : k ≡ m = omega arith in rw p after
      ];
      above = c.above;
    }
      where
        after : before (row rows m) x ≡ true
        after = elim (case (before (row rows m) x)) [
          | is p ↦ p
          | isnt p ↦ absurd (no_of _ f (rw (before_total x (row rows m) e p) (same_refl (row rows m))))
        ]

    between_found : same x (row rows m) ≡ true → is_row x rows ≡ true
    between_found e = is_yes _ ((is_row_mem x rows).1 (rw (same_eq x (row rows m) (yes_of _ e)) (row_mem rows m (omega (arith, c.inside)))))

-- ---- the loop

module _ (x : Row) (table : List ℕ) where
  pub record Halving (low high : ℕ) : Type 0 where
    pub ordered : Rising (length x) table
    pub few : high ≤ length table
    pub between : Between x (rows_of (length x) table) low high

  pub halving_start : Rising (length x) table → Halving 0 (length table / length x)
  halving_start c = record { ordered = c; few = div-le_self (length table) (length x); between = rw rows_count at (between_start x (rows_of (length x) table)) }

  pub halving_end : (low high : ℕ) → Halving low high → high ≤ low → false ≡ is_row x (rows_of (length x) table)
  halving_end low high c h = sym (between_none x (rows_of (length x) table) low high c.between h)

  module _ (low high : ℕ) (c : Halving low high) (left : low < high) where
    middle : ℕ
    middle = low + (high - low) / 2

    middle_known : middle < length table / length x
    unfolding middle
    middle_known = omega (arith, c.between.inside, rows_count (length x) table)

    pub middle_is : Known (length x) table (low + (high - low) / 2)
    unfolding middle
    middle_is = is_known (length x) table middle middle_known

    module _ (y : Row) (there : y ≡ row (rows_of (length x) table) (low + (high - low) / 2)) (r : Ordering) (compared : r ≡ slice_cmp nat_cmp x y) where
      compared_row : r ≡ slice_cmp nat_cmp x (row (rows_of (length x) table) middle)
      unfolding middle
      compared_row = rw there at compared

      pub halving_low : r ≡ Less → Halving low (low + (high - low) / 2)
      unfolding middle
      halving_low e = record {
        ordered = c.ordered;
        few = omega (arith, c.few);
        between = between_low x (rows_of (length x) table) c.ordered.rising low high middle c.between (omega arith) (is_less _ _ r compared_row e);
      }

      pub halving_high : r ≡ Greater → Halving (low + (high - low) / 2 + 1) high
      unfolding middle
      halving_high e =
          let (p, q) = is_more _ _ r compared_row e in
          record {
            ordered = c.ordered;
            few = c.few;
            between = between_high x (rows_of (length x) table) c.ordered.rising low high middle c.between (omega arith) p q;
          }

      pub halving_found : r ≡ Equal → true ≡ is_row x (rows_of (length x) table)
      unfolding middle
      halving_found e = sym (between_found x (rows_of (length x) table) c.ordered.rising low high middle c.between (omega arith) (is_same _ _ r compared_row e))
