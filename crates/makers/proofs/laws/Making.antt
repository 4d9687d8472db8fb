-- Making: the rules of a table as they are sent, row by row.
use Prim.Native.Nat.{ℕ, zero, suc, ◌+◌, ◌-◌, ◌≤◌, ◌<◌}
use native.Mathlib.Numerals.{add-one}
use native.Mathlib.Omega.{arith}
use mathlib.Core.Path.{◌≡◌, refl, sym, ◌∙◌}
use mathlib.Core.List.{List, ◌++◌}
use mathlib.Core.Logic.{inl, inr}
use lib.ListN.{length}
use borrow.Author.Tests.{lt-ltb, le-ltb}
use Rattle.meaning.specs.Lists.{each}
use Rattle.meaning.specs.Rows.{Row, Sizes, row}
use Rattle.meaning.specs.General.{split, fork, left_at, right_at, middle, row_rules}
use Rattle.meaning.proofs.Tests.{lt_or_le}
use Rattle.meaning.proofs.Members.{sound_next}
use Rattle.meaning.proofs.Parting.{less_inside, before_less}
use Rattle.meaning.proofs.ListLaws.{each_ext}
use Rattle.makers.specs.declared.rows.Source.{Source}
use Rattle.makers.specs.declared.sending.Draft.{Draft}
use Rattle.makers.specs.Inner.{source_rows, Sent, edge_at, Sides, SentEdges, Apart, SentBetween, SentMiddle, SentRow}
use Rattle.makers.proofs.laws.Sending.{sent_none, sent_both}
use Rattle.makers.proofs.laws.Parts.{rows_counted, row_width}
use Rattle.makers.proofs.laws.Edges.{edge_left, edge_right}

module _ (s : Source) where
  abbrev ns : Sizes
  ns = s.sizes.now

  abbrev R : List Row
  R = source_rows s

  split_inside : (j : ℕ) → suc j < s.rows → split (row R j) (row R (suc j)) < length ns
  split_inside j h =
      let w : length (row R j) ≡ length ns = row_width s j (omega arith) (row R j) refl in
      let w' : length (row R (suc j)) ≡ length ns = row_width s (suc j) h (row R (suc j)) refl in
      let t = sound_next ns R s.given.right j (omega (arith, rows_counted s)) in
      omega (arith, less_inside (row R j) (row R (suc j)) (before_less (row R j) (row R (suc j)) (w ∙ sym w') t))

  fork_inside : (k : ℕ) → fork R k ≤ length ns
  unfolding fork
  fork_inside zero = omega arith
  fork_inside (suc j) = elim (lt_or_le (suc j) (length R)) [
    | inl h ↦ rw (lt-ltb (suc j) (length R) h) (omega (arith, split_inside j (omega (arith, rows_counted s))))
    | inr h ↦ rw (le-ltb (suc j) (length R) h) (omega arith)
  ]

  pub row_sides : (k j f : ℕ) (m : Row) → k < s.rows → m ≡ row R k → f ≡ fork R j → Sides s m f
  row_sides k j f m h e q = record { same = row_width s k h m e; begun = rw q (fork_inside j) }

  -- ---- the middle

  module _ (k : ℕ) (inside : k < s.rows) where
    pub middle_none : (d : Draft) → s.rows ≤ k + 1 → SentMiddle s k d d
    unfolding middle
    middle_none d h = sent_none 1 s (middle ns R k) d (rw (le-ltb (suc k) (length R) (omega (arith, rows_counted s))))

    module _ (m m' : Row) (next : k + 1 < s.rows) (e : m ≡ row R k) (e' : m' ≡ row R (k + 1)) where
      pub middle_same : length m ≡ length m'
      middle_same = row_width s k inside m e ∙ sym (row_width s (k + 1) next m' e')

      module _ (i : ℕ) (at : i ≡ split m m') where
        pub middle_apart : Apart s m m' i
        middle_apart = record {
          same = row_width s k inside m e;
          same' = row_width s (k + 1) next m' e';
          inside = rw (at, e, e', add-one) (split_inside k (omega arith));
        }

        pub middle_sent : (d d' : Draft) → SentBetween s m m' i d d' → SentMiddle s k d d'
        unfolding middle
        middle_sent d d' sent =
            let it = rw (at, e, e', add-one) at sent in
            rw (lt-ltb (suc k) (length R) (omega (arith, rows_counted s))) it

    -- ---- a row

    pub row_sent : (f f' : ℕ) (m : Row) (d d₁ d₂ d₃ : Draft) → m ≡ row R k → f ≡ fork R k → f' ≡ fork R (k + 1)
        → SentEdges s m 1 f d d₁ → SentEdges s m 0 f' d₁ d₂ → SentMiddle s k d₂ d₃ → SentRow s k d d₃
    unfolding row_rules
    row_sent f f' m d d₁ d₂ d₃ e q q' left right mid =
        let ls = each (left_at ns m) f (length ns - f) in
        let rs = each (right_at ns m) f' (length ns - f') in
        let one : Sent 16 s ls d d₁ = rw (← each_ext (edge_at 1 ns m) (left_at ns m) (edge_left ns m) f (length ns - f)) left in
        let two : Sent 16 s rs d₁ d₂ = rw (← each_ext (edge_at 0 ns m) (right_at ns m) (edge_right ns m) f' (length ns - f')) right in
        let all : Sent 33 s (ls ++ rs ++ middle ns R k) d d₃ = sent_both 32 1 s (ls ++ rs) (middle ns R k) d d₂ d₃ (sent_both 16 16 s ls rs d d₁ d₂ one two) mid in
        rw (e, q, q', add-one) at all
