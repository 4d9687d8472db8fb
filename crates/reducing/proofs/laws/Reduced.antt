-- Reduced: the reduction to Horn and to dual Horn, by the number of scarce literals.
use Prim.Native.Nat.{ℕ, ◌≤◌, ◌<◌}
use mathlib.Core.Path.{◌≡◌}
use mathlib.Core.Bool.{Bool, true, false, cond}
use mathlib.Core.List.{List, [], ◌∷◌}
use mathlib.Core.Option.{none}
use borrow.Author.Tests.{lt-ltb, le-ltb}
use Rattle.meaning.specs.Rows.{Row}
use Rattle.meaning.specs.Rules.{Rule, Side, scarce, scarces, horn}
use Rattle.meaning.specs.Families.{common, keep_for, extreme, reduce}
use Rattle.literals.specs.Inner.{Known}

pub known_common : (s : Side) (l : ℕ) (r : Rule) → Known l r → Known l (keep_for s r none)
unfolding keep_for common
known_common s l [] k = tt
known_common s l (c ∷ r) k = go (scarce s c) (known_common s l r k.1)
  where
    go : (t : Bool) → Known l (common s r) → Known l (cond t (common s r) (c ∷ common s r))
    go true e = e
    go false e = (k.0, e)

module _ (s : Side) (rows : List Row) (r : Rule) (k : ℕ) (same : k ≡ scarces s r) where
  pub reduced_few : k < 2 → r ≡ reduce s rows r
  unfolding reduce horn
  reduced_few f = rw (← same, lt-ltb k 2 f)

  pub reduced_many : 2 ≤ k → keep_for s r (extreme s (keep_for s r none) none rows) ≡ reduce s rows r
  unfolding reduce horn keep_for
  reduced_many f = rw (← same, le-ltb k 2 f)
