-- Limits: the test of n and l, a lemma for each way out.
use Prim.Native.Nat.{ℕ, ◌≤◌, ◌<◌}
use mathlib.Core.Path.{◌≡◌}
use mathlib.Core.Bool.{true, false, and-false}
use borrow.Author.Tests.{le-leb, lt-leb}
use Rattle.meaning.specs.Rows.{limits}

module _ (n l : ℕ) where
  pub limits_low : n < 1 → false ≡ limits n l
  unfolding limits
  limits_low h = rw (lt-leb 1 n h)

  pub limits_high : 64 < n → false ≡ limits n l
  unfolding limits
  limits_high h = rw (lt-leb n 64 h, and-false)

  pub limits_narrow : l < 1 → false ≡ limits n l
  unfolding limits
  limits_narrow h = rw (lt-leb 1 l h, and-false)

  pub limits_wide : 16 < l → false ≡ limits n l
  unfolding limits
  limits_wide h = rw (lt-leb l 16 h, and-false, and-false)

  pub limits_within : 1 ≤ n → n ≤ 64 → 1 ≤ l → l ≤ 16 → true ≡ limits n l
  unfolding limits
  limits_within h i j k = rw (le-leb 1 n h, le-leb n 64 i, le-leb 1 l j, le-leb l 16 k)
