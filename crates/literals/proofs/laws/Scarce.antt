-- Scarce: which literals in bytes are scarce, and the loop that counts them.
use Prim.Native.Nat.{ℕ, zero, suc, ◌+◌, ◌≤◌, ◌<◌}
use native.Mathlib.Omega.{arith}
use mathlib.Core.Path.{◌≡◌, refl, ◌∙◌}
use mathlib.Core.Bool.{Bool, true, false, cond, not}
use mathlib.Core.List.{List, ◌++◌}
use mir.Val.{bool_byte}
use lib.Dec.{eqb, eqb-suc-zero}
use lib.ListN.{length, get_or}
use Rattle.std.proofs.lemmas.List.{length-append}
use Rattle.meaning.specs.Rules.{Side, low, high, scarce, scarces}
use Rattle.meaning.specs.Bytes.{literal, literal_at}
use Rattle.literals.specs.Inner.{literals_in}
use Rattle.literals.proofs.laws.Chunks.{literals_first, literals_over}

-- ---- one literal

module _ (b : List ℕ) (p : ℕ) where
  pub scarce_high : eqb (get_or b (p + 1) 0) 0 ≡ scarce high (literal_at b p)
  unfolding scarce
  scarce_high = go (get_or b (p + 1) 0)
    where
      go : (g : ℕ) → eqb g 0 ≡ scarce high (literal g (get_or b p 0) (get_or b (p + 2) 0))
      go zero = refl
      go (suc g) = rw eqb-suc-zero

  pub scarce_low : not (eqb (get_or b (p + 1) 0) 0) ≡ scarce low (literal_at b p)
  unfolding scarce
  scarce_low = go (get_or b (p + 1) 0)
    where
      go : (g : ℕ) → not (eqb g 0) ≡ scarce low (literal g (get_or b p 0) (get_or b (p + 2) 0))
      go zero = refl
      go (suc g) = rw eqb-suc-zero

-- ---- the loop: k of the literals of b that are passed are scarce, and `rest` is left
pub record ScarceFrom (s : Side) (b rest : List ℕ) (k : ℕ) : Type 0 where
  pub few : k + length rest ≤ length b
  pub whole : scarces s (literals_in b) ≡ k + scarces s (literals_in rest)

byte_is : (r : Bool) → bool_byte r ≡ cond r 1 0
byte_is true = refl
byte_is false = refl

small : (r : Bool) → bool_byte r ≤ 1
small true = omega arith
small false = omega arith

module _ (s : Side) (b : List ℕ) where
  module _ {rest : List ℕ} {k : ℕ} (m : ScarceFrom s b rest k) where
    pub scarce_on : (y t : List ℕ) → rest ≡ y ++ t → length y ≡ 3 → (r : Bool) → r ≡ scarce s (literal_at y 0) → ScarceFrom s b t (k + bool_byte r)
    unfolding scarces
    scarce_on y t e three r d =
        let long : length rest ≡ length y + length t = rw e (length-append y t) in
        let w : scarces s (literals_in b) ≡ k + (cond r 1 0 + scarces s (literals_in t)) = m.whole ∙ rw (e, literals_first y t three, ← d) in
        record { few = omega (arith, m.few, long, three, small r); whole = omega (arith, w, byte_is r) }

    pub scarce_end : length rest < 3 → k ≡ scarces s (literals_in b)
    unfolding scarces
    scarce_end short =
        let none : scarces s (literals_in rest) ≡ 0 = rw (literals_over rest short) in
        omega (arith, m.whole)
