-- Joined: rows combined setting by setting: one row more, and all rows that do not meet a rule.
use Prim.Native.Nat.{ℕ, ◌≤◌, ◌<◌}
use native.Mathlib.Omega.{arith}
use mathlib.Core.Path.{◌≡◌, sym, ap, ◌∙◌}
use mathlib.Core.Bool.{true, false, cond}
use mathlib.Core.List.{List, [], ◌∷◌}
use mathlib.Core.Option.{none, some}
use lib.ListN.{length, take}
use lib.Seq.{ext_get_or, get_or-take, length-take-le}
use Rattle.std.specs.Prelude as code
use Rattle.std.specs.Prelude.{Some}
use Rattle.meaning.specs.Rows.{Row, rows_of}
use Rattle.meaning.specs.Rules.{Rule, Side, met}
use Rattle.meaning.specs.Families.{pick, both, join, extreme}
use Rattle.meaning.proofs.Combined.{at_both, length_both}
use Rattle.reducing.specs.Inner.{change, row_in}
use Rattle.reducing.proofs.laws.Change.{change_length, change_at}

-- the values that a row changes are the two combined
pub joined_row : (s : Side) (row old values : List ℕ) → length row ≤ length old → values ≡ change (pick s) row old
    → row_in (length row) (Some values) ≡ join s (row_in (length row) (Some old)) row
unfolding join
joined_row s row old values n e =
    let k : Row = take (length row) old in
    let lk : length k ≡ length row = length-take-le (length row) old n in
    let lv : length (take (length row) values) ≡ length row =
    length-take-le (length row) values (omega (arith, ap length e, change_length (pick s) row old n)) in
    ap some (ext_get_or 0 (take (length row) values) (both s k row) (lv ∙ sym (length_both s k row ∙ omega arith))
    (λ i h.
    let j : i < length row = omega (arith, lv) in
    get_or-take (length row) values i 0 j ∙ rw e (change_at (pick s) 0 row old i j ∙ sym (rw (at_both s k row i, get_or-take)))))

-- what the rows that are passed combine to
pub record ExtremeFrom (s : Side) (r : Rule) (l : ℕ) (table rest : List ℕ) (e : code.Option (List ℕ)) : Type 0 where
  pub whole : extreme s r none (rows_of l table) ≡ extreme s r (row_in l e) (rows_of l rest)

module _ {s : Side} {r : Rule} {l : ℕ} {table rest : List ℕ} {e : code.Option (List ℕ)} (m : ExtremeFrom s r l table rest e) where
  module _ {x : List ℕ} (t : List ℕ) (on : rows_of l rest ≡ x ∷ rows_of l t) where
    step : extreme s r none (rows_of l table) ≡ extreme s r (cond (met r x) (row_in l e) (join s (row_in l e) x)) (rows_of l t)
    unfolding extreme
    step = m.whole ∙ rw on

    pub extreme_met : true ≡ met r x → ExtremeFrom s r l table t e
    extreme_met h = record { whole = step ∙ rw (← h) }

    pub extreme_on : (next : code.Option (List ℕ)) → false ≡ met r x → row_in l next ≡ join s (row_in l e) x → ExtremeFrom s r l table t next
    extreme_on next h j = record { whole = step ∙ rw (← h, j) }

  pub extreme_end : rows_of l rest ≡ [] → row_in l e ≡ extreme s r none (rows_of l table)
  unfolding extreme
  extreme_end h = sym (m.whole ∙ rw h)
