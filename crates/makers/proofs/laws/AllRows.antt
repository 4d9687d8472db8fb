-- AllRows: the rules of all rows, sent row after row, and the one rule for no rows.
use Prim.Native.Nat.{ℕ, ◌+◌, ◌*◌, ◌-◌, ◌≤◌, ◌<◌}
use native.Mathlib.Nat.{sub-zero}
use native.Mathlib.Omega.{arith}
use mathlib.Core.Path.{◌≡◌, refl, sym, ◌∙◌}
use mathlib.Core.List.{List, [], ◌∷◌}
use lib.ListN.{length}
use Rattle.meaning.specs.Lists.{each}
use Rattle.meaning.specs.Rows.{Row, Sizes}
use Rattle.meaning.specs.Rules.{Rule, Part, done, skip, hold}
use Rattle.meaning.specs.General.{row_rules, general}
use Rattle.meaning.proofs.Made.{reduce_for_part}
use Rattle.makers.specs.declared.rows.Source.{Source}
use Rattle.makers.specs.declared.sending.Draft.{Draft}
use Rattle.makers.specs.Inner.{source_family, source_rows, state_of, sends, sends_for, IsSent, Countable, SentRow, SentAll}
use Rattle.makers.proofs.laws.Sending.{send_more, sends_for_append}
use Rattle.makers.proofs.laws.Edges.{each_on, each_end}
use Rattle.makers.proofs.laws.Parts.{rows_counted}

-- ---- rows

general_some : (ns : Sizes) (rows : List Row) → 0 < length rows → general ns rows ≡ each (row_rules ns rows) 0 (length rows)
unfolding general
general_some ns [] h = absurd (omega arith)
general_some ns (m ∷ rows) h = refl

module _ (s : Source) (d₀ : Draft) where
  abbrev ns : Sizes
  ns = s.sizes.now

  abbrev R : List Row
  R = source_rows s

  -- row k is next: what is left from here gives the whole
  pub record RowsAt (k : ℕ) (d : Draft) : Type 0 where
    pub countable : Countable d₀.made 16896
    pub small : k ≤ s.rows
    pub same_room : d.room.ghost_name ≡ d₀.room.ghost_name
    pub whole : sends_for (source_family s) R (general ns R) (state_of d₀) ≡ sends_for (source_family s) R (each (row_rules ns R) k (s.rows - k)) (state_of d)
    pub longer : d.made.length ≤ d₀.made.length + 3267 * k
    pub more : d.made.rules ≤ d₀.made.rules + 33 * k

  pub rows_start : 0 < s.rows → Countable d₀.made 16896 → RowsAt 0 d₀
  rows_start some c = record {
    countable = c;
    small = omega arith;
    same_room = refl;
    whole = rw (general_some ns R (omega (arith, rows_counted s)), rows_counted s, sub-zero);
    longer = omega arith;
    more = omega arith;
  }

  module _ (k : ℕ) (d : Draft) (now : RowsAt k d) where
    pub rows_on : (d' : Draft) → k < s.rows → SentRow s k d d' → RowsAt (k + 1) d'
    rows_on d' h sent = record {
      countable = now.countable;
      small = omega arith;
      same_room = sent.same_room ∙ now.same_room;
      whole = now.whole ∙ rw (each_on (row_rules ns R) k s.rows h, sends_for_append (source_family s) R (row_rules ns R k) (each (row_rules ns R) (k + 1) (s.rows - (k + 1))) (state_of d), ← sent.state);
      longer = omega (arith, now.longer, sent.longer);
      more = omega (arith, now.more, sent.more);
    }

    pub rows_end : s.rows ≤ k → SentAll s d₀ d
    unfolding sends_for sends
    rows_end h = record {
      same_room = now.same_room;
      state = sym (now.whole ∙ rw (each_end (row_rules ns R) k s.rows h));
      longer = omega (arith, now.longer, now.small, s.given.most);
      more = omega (arith, now.more, now.small, s.given.most);
    }

-- ---- no rows

nothing_left : {r s : Rule} → Part r s → s ≡ [] → r ≡ []
nothing_left done e = refl
nothing_left (skip p) e = let z : ◌≡◌ {A = ℕ} 0 1 = cc in absurd (omega arith)
nothing_left (hold p) e = let z : ◌≡◌ {A = ℕ} 0 1 = cc in absurd (omega arith)

no_rows : (rows : List Row) → length rows ≡ 0 → rows ≡ []
no_rows [] e = refl
no_rows (m ∷ rows) e = absurd (omega arith)

pub rows_none : (s : Source) (r : Rule) (d d' : Draft) → s.rows ≡ 0 → r ≡ [] → IsSent r d d' → SentAll s d d'
unfolding general sends_for sends
rows_none s r d d' e nil q =
    let none = no_rows (source_rows s) (rows_counted s ∙ e) in
    let rule = nothing_left (reduce_for_part (source_family s) [] []) refl in
    let grown = send_more r d d' q in
    record { same_room = q.same_room; state = q.state ∙ rw (nil, none, rule); longer = omega arith; more = omega arith }
