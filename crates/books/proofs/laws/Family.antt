-- Family: the test of a rule by its family's number is the test of the family that the number names.
use Prim.Native.Nat.{ℕ, zero, suc, ◌+◌, ◌*◌, ◌-◌, ◌≤◌, ◌<◌}
use native.Mathlib.Omega.{arith}
use mathlib.Core.Path.{◌≡◌, refl, ◌∙◌}
use mathlib.Core.Bool.{Bool, true}
use mathlib.Core.List.{List, [], ◌∷◌}
use lib.Dec.{ltb}
use lib.ListN.{length, take, drop}
use Rattle.meaning.specs.Rules.{Rule, Side, low, high, scarce, scarces, horn, bijunctive, in_family}
use Rattle.meaning.specs.Bytes.{literal, literals_at}
use Rattle.meaning.proofs.Literals.{literals_length}
use Rattle.literals.specs.Inner.{literals_in}
use Rattle.literals.proofs.laws.Chunks.{literals_part}
use Rattle.literals.specs.declared.kinds.Family.{Family}
use Rattle.literals.specs.declared.kinds.Family.TheVariants.{General, Horn, Dual, Bijunctive}
use Rattle.literals.specs.Kinds.{family_of}

abbrev test_of : Family → Rule → Bool
test_of General r = true
test_of Horn r = horn low r
test_of Dual r = horn high r
test_of Bijunctive r = bijunctive r

pub family_test : (r : Rule) (family : ℕ) (f : Family) → f ≡ family_of family → test_of f r ≡ in_family family r
unfolding in_family
family_test r family f e = rw e (go family)
  where
    go : (k : ℕ) → test_of (family_of k) r ≡ in_family k r
    go zero = refl
    go (suc zero) = refl
    go (suc (suc zero)) = refl
    go (suc (suc (suc k))) = refl

module _ (b : List ℕ) (start c family : ℕ) where
  pub family_horn : (k : Bool) → Horn ≡ family_of family → start + 3 * c ≤ length b → k ≡ horn low (literals_in (take (start + 3 * c - start) (drop start b)))
      → k ≡ in_family family (literals_at b start c)
  family_horn k e h d = d ∙ rw (literals_part b start c h) (family_test (literals_at b start c) family Horn e)

  pub family_dual : (k : Bool) → Dual ≡ family_of family → start + 3 * c ≤ length b → k ≡ horn high (literals_in (take (start + 3 * c - start) (drop start b)))
      → k ≡ in_family family (literals_at b start c)
  family_dual k e h d = d ∙ rw (literals_part b start c h) (family_test (literals_at b start c) family Dual e)

  pub family_bijunctive : Bijunctive ≡ family_of family → ltb c 3 ≡ in_family family (literals_at b start c)
  unfolding bijunctive
  family_bijunctive e =
      let n : ltb c 3 ≡ bijunctive (literals_at b start c) = rw (literals_length b start c) in
      n ∙ family_test (literals_at b start c) family Bijunctive e

  pub family_short : c < 2 → true ≡ in_family family (literals_at b start c)
  unfolding in_family horn bijunctive scarces scarce literals_at
  family_short h = go c family h
    where
      one : (s : Side) (g i d : ℕ) → true ≡ ltb (scarces s (literal g i d ∷ [])) 2
      one low zero i d = refl
      one low (suc g) i d = refl
      one high zero i d = refl
      one high (suc g) i d = refl

      go : (k f : ℕ) → k < 2 → true ≡ in_family f (literals_at b start k)
      go zero zero n = refl
      go zero (suc zero) n = refl
      go zero (suc (suc zero)) n = refl
      go zero (suc (suc (suc f))) n = refl
      go (suc zero) zero n = refl
      go (suc zero) (suc zero) n = one low _ _ _
      go (suc zero) (suc (suc zero)) n = one high _ _ _
      go (suc zero) (suc (suc (suc f))) n = refl
      go (suc (suc k)) f n = absurd (omega arith)
