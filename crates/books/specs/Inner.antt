-- Inner: the words that only inner contracts cite.
use Rattle.std.specs.Prelude.{ℕ, ◌≤◌, ◌+◌, ◌/◌, List, [], ◌∷◌, ◌++◌, Bool, false, ◌||◌, cond, ◌≡◌, length, drop, take, leb}
use Rattle.meaning.specs.Rules.{Rule, overlap, AllGood}
use Rattle.meaning.specs.Rows.{Sizes, Row}
use Rattle.meaning.specs.Bytes.{rules_at, place_at, encode_rules, encode_end, end_at}

-- some literal overlaps with the one after it
unfoldable pub idle_next : Rule → Bool
idle_next [] = false
idle_next (c ∷ []) = false
idle_next (c ∷ d ∷ r) = overlap c d || idle_next (d ∷ r)

-- from place p on stand k good rules, then the end, and nothing more
pub record Holds (b : List ℕ) (ns : Sizes) (family p k : ℕ) : Type 0 where
  pub good : AllGood ns family (rules_at b p k)
  pub inside : place_at b p k + 2 ≤ length b
  pub bytes : drop p b ≡ encode_rules (rules_at b p k) ++ encode_end

pub record Placed (b : List ℕ) (k p : ℕ) : Type 0 where
  pub is : place_at b 7 k ≡ p
  pub inside : end_at b p ≤ length b

-- the bytes written over the old ones from `at` on
unfoldable pub put_at : List ℕ → ℕ → List ℕ → List ℕ
put_at old at bytes = take at old ++ (bytes ++ drop (at + length bytes) old)

-- the same where they fit, else nothing is written
unfoldable pub put_in : List ℕ → ℕ → List ℕ → List ℕ
put_in old at bytes = cond (leb (at + length bytes) (length old)) (put_at old at bytes) old

-- what a writer of a record tells: what the room holds then, and the place after the record, whether or not it fits
pub record Puts (old new : List ℕ) (at : ℕ) (bytes : List ℕ) (next : ℕ) : Type 0 where
  pub room : new ≡ put_in old at bytes
  pub next_is : next ≡ at + length bytes

-- a rule's record, from the bytes of its literals
unfoldable pub rule_record : List ℕ → List ℕ
rule_record literals = 82 ∷ 85 ∷ length literals / 3 ∷ literals

-- k rules from p on that may be asked of x
pub record Testable (b : List ℕ) (x : Row) (p k : ℕ) : Type 0 where
  pub ns : Sizes
  pub family : ℕ
  pub long : length x ≡ length ns
  pub holds : Holds b ns family p k

-- k rules from place 7 on, over these sizes
pub record Walkable (b : List ℕ) (ns : Sizes) (k : ℕ) : Type 0 where
  pub family : ℕ
  pub holds : Holds b ns family 7 k
