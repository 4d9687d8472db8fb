-- Earlier: what differs from a row before a setting, and the rule that it makes.
use Prim.Native.Nat.{ℕ, zero, suc, ◌+◌, ◌*◌, ◌-◌, ◌≤◌, ◌<◌}
use native.Mathlib.Numerals.{add-one}
use native.Mathlib.Omega.{arith}
use mathlib.Core.Path.{◌≡◌, refl, sym, ◌∙◌}
use mathlib.Core.Bool.{Bool, true, false}
use mathlib.Core.List.{[], ◌∷◌, ◌++◌, append-nil, append_assoc}
use lib.Dec.{ltb}
use lib.ListN.{length, length-append}
use Rattle.meaning.specs.Lists.{opt}
use Rattle.meaning.specs.Rows.{Row, Sizes, at}
use Rattle.meaning.specs.Rules.{Literal, at_most, at_least, Rule}
use Rattle.meaning.specs.General.{differs, earlier}

-- ---- one literal more, or none

pub opt_length : {A : Type 0} (b : Bool) (a : A) → length (opt b a) ≤ 1
opt_length true a = omega arith
opt_length false a = omega arith

-- ---- differs

pub with_some : (h : Rule) {t : Rule} {b : Bool} (c : Literal) → b ≡ true → t ≡ h ++ (c ∷ []) → t ≡ h ++ opt b c
with_some h c e q = rw e q

pub with_none : (h : Rule) {b : Bool} (c : Literal) → b ≡ false → h ≡ h ++ opt b c
with_none h c e = rw e (sym (append-nil h))

pub differ_both : (h r : Rule) {t : Rule} (i n v : ℕ) → r ≡ h ++ opt (ltb 0 v) (at_most i (v - 1)) → t ≡ r ++ opt (ltb (v + 1) n) (at_least i (v + 1)) → t ≡ h ++ differs i n v
unfolding differs
differ_both h r i n v a b = b ∙ rw a (simp append_assoc)

-- ---- earlier

pub differs_length : (i n v : ℕ) → length (differs i n v) ≤ 2
unfolding differs
differs_length i n v =
    omega (
      arith,
      length-append (opt (ltb 0 v) (at_most i (v - 1))) (opt (ltb (v + 1) n) (at_least i (v + 1))),
      opt_length (ltb 0 v) (at_most i (v - 1)),
      opt_length (ltb (v + 1) n) (at_least i (v + 1)),
    )

pub earlier_length : (ns : Sizes) (m : Row) (i : ℕ) → length (earlier ns m i) ≤ 2 * i
unfolding earlier
earlier_length ns m zero = omega arith
earlier_length ns m (suc i) =
    omega (arith, length-append (earlier ns m i) (differs i (at ns i) (at m i)), earlier_length ns m i, differs_length i (at ns i) (at m i))

module _ (ns : Sizes) (m : Row) where
  pub earlier_start : [] ≡ earlier ns m 0
  unfolding earlier
  earlier_start = refl

  pub earlier_few : (i : ℕ) {r : Rule} → i < 16 → r ≡ earlier ns m i → length r + 2 ≤ 32
  earlier_few i h e = rw e (omega (arith, earlier_length ns m i))

  pub earlier_on : (i : ℕ) {r t : Rule} → r ≡ earlier ns m i → t ≡ r ++ differs i (at ns i) (at m i) → t ≡ earlier ns m (i + 1)
  unfolding earlier
  earlier_on i e more = more ∙ rw (e, add-one)
