-- Compare: what the comparison of two rows says of their order.
use native.Mathlib.Omega.{arith}
use mathlib.Core.Path.{◌≡◌, refl, sym, ◌∙◌, ap}
use mathlib.Core.Bool.{true, false}
use Rattle.std.specs.declared.cmp.Ordering.{Ordering}
use Rattle.std.specs.declared.cmp.Ordering.TheVariants.{Less, Equal, Greater}
use Rattle.std.specs.Ordering.{is_lt, is_eq, nat_cmp}
use Rattle.std.specs.Cmp.Lexicographic.{slice_cmp}
use Rattle.std.proofs.lemmas.Cmp.{same_from_slice_cmp}
use Rattle.std.proofs.lemmas.Bool.Decides.{nat_tests}
use Rattle.meaning.specs.Rows.{Row, before, same}

module _ (a b : Row) (r : Ordering) (compared : r ≡ slice_cmp nat_cmp a b) where
  pub before_is : is_lt r ≡ before a b
  unfolding before
  before_is = same_from_slice_cmp nat_cmp is_lt before refl (λ _ _. refl) (λ _ _. refl) (λ x y xs ys o h. grind (arith, nat_tests)) a b r compared

  pub same_is : is_eq r ≡ same a b
  unfolding same
  same_is = same_from_slice_cmp nat_cmp is_eq same refl (λ _ _. refl) (λ _ _. refl) (λ x y xs ys o h. grind (arith, nat_tests)) a b r compared

  pub is_less : r ≡ Less → before a b ≡ true
  is_less e = sym before_is ∙ ap is_lt e

  pub is_same : r ≡ Equal → same a b ≡ true
  is_same e = sym same_is ∙ ap is_eq e

  pub is_more : r ≡ Greater → (before a b ≡ false) × (same a b ≡ false)
  is_more e = (sym before_is ∙ ap is_lt e, sym same_is ∙ ap is_eq e)
