-- Parts: a row as a part of a flat table, and where two rows part.
use Prim.Native.Nat.{ℕ, zero, suc, ◌+◌, ◌-◌, ◌≤◌, ◌<◌}
use native.Mathlib.Omega.{arith}
use mathlib.Core.Path.{◌≡◌, refl, sym, ap, ◌∙◌}
use mathlib.Core.Logic.{◌≢◌, inl, inr}
use mathlib.Core.Bool.{Bool, true, false, cond}
use mathlib.Core.List.{[], ◌∷◌}
use lib.Dec.{eqb, ltb}
use lib.ListN.{length}
use Rattle.std.proofs.Common.{not, Option, Some, None, unwrap_or}
use Rattle.std.specs.List.{position_or_len, zip}
use Rattle.std.proofs.lemmas.Slice.Zip.{length-zip}
use Rattle.meaning.proofs.Tests.{lt_or_le}
use borrow.Author.Tests.{lt-ltb, le-ltb}
use Rattle.meaning.specs.Rows.{Row, row}
use Rattle.meaning.specs.General.{split, fork}
use Rattle.meaning.proofs.Flat.{rows_count, row_length}
use Rattle.tables.specs.Inner.{Known}
use Rattle.tables.proofs.laws.Combining.{is_known}
use Rattle.makers.specs.declared.rows.Source.{Source}
use Rattle.makers.specs.Inner.{source_rows}

-- ---- row k

pub rows_counted : (s : Source) → length (source_rows s) ≡ s.rows
rows_counted s = rows_count (length s.sizes.now) s.table.now ∙ sym s.given.count

module _ (s : Source) (k : ℕ) (known : k < s.rows) where
  pub row_known : Known (length s.sizes.now) s.table.now k
  row_known = is_known (length s.sizes.now) s.table.now k (omega (arith, s.given.count))

  pub row_width : (m : Row) → m ≡ row (source_rows s) k → length m ≡ length s.sizes.now
  row_width m e = ap length e ∙ row_length (length s.sizes.now) s.table.now k (omega (arith, s.given.count))

pub rows_few : (s : Source) → length (source_rows s) ≤ 512
rows_few s = omega (arith, rows_counted s, s.given.most)

-- ---- the split

abbrev apart : ℕ × ℕ → Bool
apart p = not (eqb p.0 p.1)

pub split_place : (a b : Row) → length a ≡ length b → position_or_len apart (zip a b) ≡ split a b
unfolding split
split_place [] b e = refl
split_place (u ∷ a) [] e = refl
split_place (u ∷ a) (v ∷ b) e = go (eqb u v) (split_place a b (omega arith))
  where
    go : (t : Bool) → position_or_len apart (zip a b) ≡ split a b
        → cond (not (not t)) (1 + position_or_len apart (zip a b)) 0 ≡ cond t (suc (split a b)) 0
    go true q = omega arith
    go false q = refl

pub split_most : (a b : Row) → split a b ≤ length a
unfolding split
split_most [] b = omega arith
split_most (u ∷ a) [] = omega arith
split_most (u ∷ a) (v ∷ b) = go (eqb u v) (split_most a b)
  where
    go : (t : Bool) → split a b ≤ length a → cond t (suc (split a b)) 0 ≤ suc (length a)
    go true h = omega arith
    go false h = omega arith

-- the place of the first pair that differs, or the length where there is none
pub first_apart : (a b : Row) (o : Option ℕ) (r : ℕ) → length a ≡ length b
    → o ≡ cond (ltb (position_or_len apart (zip a b)) (length (zip a b))) (Some (position_or_len apart (zip a b))) None
    → r ≡ unwrap_or o (length a) → r ≡ split a b
first_apart a b o r e q u =
    let n : length (zip a b) ≡ length a = omega (arith, length-zip a b) in
    let s = split_place a b e in
    let most = split_most a b in
    elim (lt_or_le (split a b) (length a)) [
      | inl h ↦ u ∙ rw (q, s, n, lt-ltb (split a b) (length a) h)
      | inr h ↦ u ∙ rw (q, s, n, le-ltb (split a b) (length a) h) (omega arith)
    ]

-- ---- the fork

module _ (s : Source) (k : ℕ) where
  pub fork_first : k ≡ 0 → 0 ≡ fork (source_rows s) k
  unfolding fork
  fork_first e = rw e

  pub fork_last : k ≢ 0 → s.rows ≤ k → 0 ≡ fork (source_rows s) k
  unfolding fork
  fork_last n h = go k n h
    where
      go : (k : ℕ) → k ≢ 0 → s.rows ≤ k → 0 ≡ fork (source_rows s) k
      go zero n h = absurd (n refl)
      go (suc j) n h = rw (le-ltb (suc j) (length (source_rows s)) (omega (arith, rows_counted s)))

  module _ (a b : Row) (n : k ≢ 0) (h : k < s.rows) (ea : a ≡ row (source_rows s) (k - 1)) (eb : b ≡ row (source_rows s) k) where
    pub fork_same : length a ≡ length b
    fork_same = row_width s (k - 1) (omega arith) a ea ∙ sym (row_width s k h b eb)

    pub fork_most : (place : ℕ) → place ≡ split a b → place ≤ 16
    fork_most place e = omega (arith, split_most a b, row_width s (k - 1) (omega arith) a ea, s.given.few)

    pub fork_between : (place : ℕ) → place ≡ split a b → place + 1 ≡ fork (source_rows s) k
    unfolding fork
    fork_between place e = go k n h (e ∙ rw (ea, eb))
      where
        go : (k : ℕ) → k ≢ 0 → k < s.rows → place ≡ split (row (source_rows s) (k - 1)) (row (source_rows s) k) → place + 1 ≡ fork (source_rows s) k
        go zero n h e = absurd (n refl)
        go (suc j) n h e =
            let z : suc j - 1 ≡ j = omega arith in
            let e' = rw z at e in
            rw (lt-ltb (suc j) (length (source_rows s)) (omega (arith, rows_counted s)), e')
