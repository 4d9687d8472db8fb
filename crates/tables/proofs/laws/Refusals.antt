-- Refusals: each way out of the check as refusals 1 to 3 are tested, and the sizes of edition 1 as they are lent.
use Prim.Native.Nat.{ℕ, ◌/◌, ◌%◌, ◌≤◌, ◌<◌}
use native.Mathlib.Omega.{arith}
use mathlib.Core.Path.{◌≡◌, sym, ◌∙◌}
use mathlib.Core.Bool.{Bool, false}
use mathlib.Core.List.{List}
use Rattle.std.specs.Prelude.{Result, Err}
use lib.ListN.{length, take, replicate}
use borrow.Author.Tests.{le-leb, lt-leb, eq-eqb, ne_eqb}
use Rattle.meaning.specs.Rows.{Sizes, limits, Limited}
use Rattle.meaning.proofs.Alike.{alike_length}
use Rattle.meaning.specs.Closed.{or_else, unless}
use Rattle.meaning.proofs.Limits.{limits_hold, lent}
use Rattle.tables.specs.declared.Flaw.{Flaw}
use Rattle.tables.specs.declared.Flaw.TheVariants.{Limits, Length, Rows}
use Rattle.tables.specs.Check.{row_flaw_of, flaw_of, answer, checked_of}

module _ (n l : ℕ) where
  pub limits_broken : (table : List ℕ) (t : Bool) → t ≡ limits n l → t ≡ false → Err Limits ≡ checked_of n l table
  unfolding checked_of unless or_else
  limits_broken table t e f = rw (sym e ∙ f)

module _ (ns : Sizes) (table : List ℕ) where
  pub sizes_uneven : 0 < length table % length ns → Err Length ≡ answer (length table / length ns) (flaw_of ns table)
  unfolding flaw_of unless or_else
  sizes_uneven h = rw (ne_eqb (length table % length ns) 0 (λ e. omega arith))

  module _ (even : length table % length ns ≤ 0) where
    pub sizes_many : 512 < length table / length ns
        → Err (Rows (length table / length ns)) ≡ answer (length table / length ns) (flaw_of ns table)
    unfolding flaw_of unless or_else
    sizes_many h = rw (eq-eqb (length table % length ns) 0 (omega arith), lt-leb (length table / length ns) 512 h)

    pub sizes_rows : (r : Result ℕ Flaw) → r ≡ answer (length table / length ns) (row_flaw_of ns table) → length table / length ns ≤ 512
        → r ≡ answer (length table / length ns) (flaw_of ns table)
    unfolding flaw_of unless or_else
    sizes_rows r e h = rw (eq-eqb (length table % length ns) 0 (omega arith), le-leb (length table / length ns) 512 h) e

module _ (n l : ℕ) (c : Limited n l) (m : ℕ) (same : m ≡ n) where
  pub cut_checked : (table : List ℕ) (r : Result ℕ Flaw)
      → r ≡ answer (length table / length (take l (replicate 16 m))) (flaw_of (take l (replicate 16 m)) table) → r ≡ checked_of n l table
  unfolding checked_of or_else unless
  cut_checked table r e = e ∙ rw (lent n l c m same, alike_length, (limits_hold n l).1 c)
