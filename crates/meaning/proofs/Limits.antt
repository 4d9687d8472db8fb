-- Limits: n and l within theirs, as a test and as a fact; and the sizes that are lent for them.
use Prim.Native.Nat.{ℕ, ◌<◌}
use native.Mathlib.Omega.{arith}
use mathlib.Core.Path.{◌≡◌, sym, ◌∙◌}
use mathlib.Core.Logic.{◌↔◌}
use mathlib.Core.Bool.{Bool, true}
use lib.ListN.{length, get_or, take, replicate}
use borrow.Author.Tests.{le-leb}
use Rattle.meaning.specs.Rows.{Sizes, limits, Limited, alike}
use Rattle.meaning.specs.Inner.{Sized}
use Rattle.meaning.proofs.Tests.{yes_of, tests}
use Rattle.meaning.proofs.Alike.{alike_length, alike_at, alike_lent, alike_cut}

module _ (n l : ℕ) where
  pub limits_hold : limits n l ≡ true ↔ Limited n l
  unfolding limits
  limits_hold = (
    λ e. let t = simp tests at (yes_of (limits n l) e) in record { some = t.0.0; few = t.0.1; wide = t.1.0; narrow = t.1.1 },
    λ c. rw (le-leb 1 n c.some, le-leb n 64 c.few, le-leb 1 l c.wide, le-leb l 16 c.narrow),
  )

  pub limits_known : (t : Bool) → t ≡ limits n l → t ≡ true → Limited n l
  limits_known t e f = limits_hold.0 (sym e ∙ f)

-- sixteen bytes m, all n, of which the first l are lent
module _ (n l : ℕ) (c : Limited n l) (m : ℕ) (e : m ≡ n) where
  pub lent : take l (replicate 16 m) ≡ alike n l
  lent = rw (e, alike_lent n l c.narrow)

  pub lent_length : l ≡ length (take l (replicate 16 m))
  lent_length = alike_cut m l c.narrow

  pub lent_sized : Sized (take l (replicate 16 m))
  lent_sized = rw lent (record {
    short = omega (arith, alike_length n l, c.narrow);
    some = λ i h. rw (alike_at n l i (omega (arith, alike_length n l))) c.some;
    few = λ i h. rw (alike_at n l i (omega (arith, alike_length n l))) c.few;
  })
