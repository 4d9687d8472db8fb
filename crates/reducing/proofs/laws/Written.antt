-- Written: the bytes that a book has for a rule, the rule that they stand for, and what one literal more does to both.
use Prim.Native.Nat.{ℕ, zero, suc, ◌<◌}
use native.Mathlib.Omega.{arith}
use mathlib.Core.Path.{◌≡◌, refl, sym, ap, subst, ◌∙◌}
use mathlib.Core.List.{List, [], ◌∷◌, ◌++◌, append-nil}
use lib.ListN.{length, get_or, drop}
use Rattle.meaning.specs.Rules.{at_most, at_least, Rule}
use Rattle.meaning.specs.Bytes.{encode_literals, literal_at}
use Rattle.meaning.proofs.Literals.{literal_parts}
use Rattle.literals.specs.Inner.{literals_in}
use Rattle.literals.proofs.laws.Chunks.{literals_first}
use Rattle.reducing.specs.Inner.{Written}

-- the bytes of a rule, with more behind
encoded_more : (r : Rule) (b : List ℕ) → literals_in (encode_literals r ++ b) ≡ r ++ literals_in b
unfolding literals_in encode_literals
encoded_more [] b = refl
encoded_more (at_most i d ∷ r) b = ap (λ (s : Rule). at_most i d ∷ s) (encoded_more r b)
encoded_more (at_least i d ∷ r) b = ap (λ (s : Rule). at_least i d ∷ s) (encoded_more r b)

encode_append : (r s : Rule) → encode_literals (r ++ s) ≡ encode_literals r ++ encode_literals s
unfolding encode_literals
encode_append [] s = refl
encode_append (c ∷ r) s = rw (encode_append r s)

encoded_back : (r : Rule) → literals_in (encode_literals r) ≡ r
unfolding literals_in
encoded_back r = (rw append-nil at (encoded_more r [])) ∙ append-nil r

pub encoded_written : (r : Rule) → Written (encode_literals r)
encoded_written r = rw (encoded_back r)

-- the rule again, in bytes that are equal to its own
pub rule_back : {b : List ℕ} {r : Rule} → b ≡ encode_literals r → literals_in b ≡ r
rule_back {b} {r} e = rw e (encoded_back r)

-- one literal
literal_written : (y : List ℕ) → length y ≡ 3 → get_or y 1 0 < 2 → encode_literals (literal_at y 0 ∷ []) ≡ y
unfolding encode_literals
literal_written (i ∷ g ∷ d ∷ []) e s = literal_parts g i d [] s
literal_written (i ∷ g ∷ d ∷ c ∷ y) e s = absurd (omega arith)
literal_written (i ∷ g ∷ []) e s = absurd (omega arith)
literal_written (i ∷ []) e s = absurd (omega arith)
literal_written [] e s = absurd (omega arith)

literal_alone : (y : List ℕ) → length y ≡ 3 → literals_in y ≡ literal_at y 0 ∷ []
unfolding literals_in
literal_alone y e = rw (append-nil y) at (literals_first y [] e)

-- ---- one more

module _ (b y : List ℕ) (w : Written b) (three : length y ≡ 3) where
  pub written_rule : literals_in (b ++ y) ≡ literals_in b ++ (literal_at y 0 ∷ [])
  written_rule =
      let more : literals_in (encode_literals (literals_in b) ++ y) ≡ literals_in b ++ (literal_at y 0 ∷ []) = encoded_more (literals_in b) y ∙ rw (literal_alone y three) in
      subst (λ (x : List ℕ). literals_in (x ++ y) ≡ literals_in b ++ (literal_at y 0 ∷ [])) (sym w) more

  pub written_on : get_or y 1 0 < 2 → Written (b ++ y)
  written_on s =
      let more : encode_literals (literals_in b ++ (literal_at y 0 ∷ [])) ≡ encode_literals (literals_in b) ++ y = encode_append (literals_in b) (literal_at y 0 ∷ []) ∙ rw (literal_written y three s) in
      ap (λ (x : List ℕ). x ++ y) w ∙ sym (ap encode_literals written_rule ∙ more)

-- ---- the first of them

written_parts : (y t : List ℕ) → length y ≡ 3 → Written (y ++ t) → (get_or y 1 0 < 2) × Written t
unfolding literals_in encode_literals
written_parts (i ∷ zero ∷ d ∷ []) t e w = (omega arith, ap (drop 3) w)
written_parts (i ∷ suc zero ∷ d ∷ []) t e w = (omega arith, ap (drop 3) w)
written_parts (i ∷ suc (suc g) ∷ d ∷ []) t e w =
    let k : suc (suc g) ≡ 1 = ap (λ (l : List ℕ). get_or l 1 0) w in
    absurd (omega arith)
written_parts (i ∷ g ∷ d ∷ c ∷ y) t e w = absurd (omega arith)
written_parts (i ∷ g ∷ []) t e w = absurd (omega arith)
written_parts (i ∷ []) t e w = absurd (omega arith)
written_parts [] t e w = absurd (omega arith)

pub written_first : {b : List ℕ} (y t : List ℕ) → b ≡ y ++ t → length y ≡ 3 → Written b → (get_or y 1 0 < 2) × Written t
written_first y t e three w = written_parts y t three (rw e at w)
