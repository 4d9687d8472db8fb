-- Passed: loops that go through the literals of a rule: the first of those that are left; and the loop that counts those that hold.
use Prim.Native.Nat.{ℕ, ◌+◌, ◌≤◌, ◌<◌}
use native.Mathlib.Omega.{arith}
use mathlib.Core.Path.{◌≡◌, refl, ◌∙◌}
use mathlib.Core.Bool.{Bool, true, false}
use mathlib.Core.List.{List, ◌∷◌, ◌++◌}
use mir.Val.{bool_byte}
use lib.ListN.{length, get_or}
use Rattle.std.proofs.lemmas.List.{length-append}
use Rattle.meaning.specs.Rows.{Row}
use Rattle.meaning.specs.Rules.{holds}
use Rattle.meaning.specs.Bytes.{literal_at}
use Rattle.meaning.proofs.Literals.{literal_setting_is}
use Rattle.literals.specs.Inner.{Known, literals_in}
use Rattle.literals.proofs.laws.Chunks.{literals_first, literals_over}
use Rattle.reducing.specs.Inner.{one, number}

-- ---- literals: the first of those that are left, and the rest of them

module _ {rest : List ℕ} (y t : List ℕ) (e : rest ≡ y ++ t) (three : length y ≡ 3) where
  pub literals_on : literals_in rest ≡ literal_at y 0 ∷ literals_in t
  literals_on = rw e (literals_first y t three)

  pub known_on : {l : ℕ} → Known l (literals_in rest) → (get_or y 0 0 < l) × Known l (literals_in t)
  known_on {l} k =
      let both : Known l (literal_at y 0 ∷ literals_in t) = rw literals_on at k in
      (rw literal_setting_is at both.0, both.1)

  pub length_on : length rest ≡ 3 + length t
  length_on = rw e (length-append y t ∙ rw three)

-- ---- how many literals hold: k of those that are passed
pub record NumberFrom (b rest : List ℕ) (m : Row) (k : ℕ) : Type 0 where
  pub known : Known (length m) (literals_in rest)
  pub few : k + length rest ≤ length b
  pub whole : number (λ c. holds c m) (literals_in b) ≡ k + number (λ c. holds c m) (literals_in rest)

pub one_byte : (r : Bool) → bool_byte r ≡ one r
unfolding one
one_byte true = refl
one_byte false = refl

small : (r : Bool) → bool_byte r ≤ 1
small true = omega arith
small false = omega arith

module _ {b rest : List ℕ} {m : Row} {k : ℕ} (n : NumberFrom b rest m k) where
  pub number_on : (y t : List ℕ) → rest ≡ y ++ t → length y ≡ 3 → (r : Bool) → r ≡ holds (literal_at y 0) m → NumberFrom b t m (k + bool_byte r)
  unfolding number
  number_on y t e three r d =
      let w : number (λ c. holds c m) (literals_in b) ≡ k + (one r + number (λ c. holds c m) (literals_in t)) = n.whole ∙ rw (literals_on y t e three, d) in
      let f : k + bool_byte r + length t ≤ length b = omega (arith, n.few, length_on y t e three, small r) in
      record { known = (known_on y t e three n.known).1; few = f; whole = omega (arith, w, one_byte r) }

  pub number_end : length rest < 3 → k ≡ number (λ c. holds c m) (literals_in b)
  unfolding number
  number_end short =
      let none : number (λ c. holds c m) (literals_in rest) ≡ 0 = rw (literals_over rest short) in
      omega (arith, n.whole)
