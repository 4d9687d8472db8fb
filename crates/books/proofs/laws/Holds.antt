-- Holds: what stands in an accepted book from a place on, for those who walk it by places and do not open the reader.
-- holds_start gives it for all rules, at place 7. While there is a rule, holds_good, holds_inside and holds_record tell of the one at
-- the place, and holds_next goes on at its end; holds_on is that step as a loop over i makes it.
use Prim.Native.Nat.{ℕ, zero, suc, ◌+◌, ◌-◌, ◌≤◌, ◌<◌}
use native.Mathlib.Omega.{arith}
use mathlib.Core.Path.{◌≡◌, ap, ◌∙◌}
use mathlib.Core.List.{List, [], ◌++◌, append_assoc}
use lib.ListN.{length, take, drop, drop_of_length-le}
use lib.Seq.{take_at}
use Rattle.meaning.specs.Rows.{Sizes, alike}
use Rattle.meaning.specs.Rules.{Good}
use Rattle.meaning.specs.Bytes.{rule_at, end_at, rules_at, place_at, encode_rule, encode_rules, encode_end}
use Rattle.meaning.proofs.Literals.{two_bytes}
use Rattle.meaning.proofs.Encoded.{rule_stands}
use Rattle.books.specs.Format.{Book, read_of}
use Rattle.books.specs.Inner.{Holds}
use Rattle.books.proofs.laws.Fields.{mark_tells}
use Rattle.books.proofs.laws.Back.{rules_tell}
use Rattle.books.proofs.laws.Whole.{book_tells}

-- ---- the start

pub holds_start : (b : List ℕ) (n l family k : ℕ) → read_of b ≡ Book n l family k → Holds b (alike n l) family 7 k
holds_start b n l family k h =
    let t = book_tells b n l family k h in
    let r = rules_tell b (alike n l) family 7 k t.end t.rules in
    let z = mark_tells b t.end 69 t.last t.end_mark in
    let nil : drop (t.end + 2) b ≡ [] = drop_of_length-le b {i = t.end + 2} (omega (arith, t.done, z.next)) in
    record {
      good = r.good;
      inside = omega (arith, r.end, z.inside);
      bytes = r.bytes ∙ ap (λ (x : List ℕ). encode_rules (rules_at b 7 k) ++ x) (two_bytes b t.end z.inside ∙ rw (z.first, z.second, nil));
    }

-- ---- the step

pub place_at_above : (b : List ℕ) (p k : ℕ) → p ≤ place_at b p k
unfolding place_at
place_at_above b p zero = omega arith
place_at_above b p (suc k) = omega (arith, place_at_above b (end_at b p) k)

module _ (b : List ℕ) (ns : Sizes) (family p k : ℕ) (a : Holds b ns family p k) where
  pub holds_good : 0 < k → Good ns family (rule_at b p)
  unfolding rules_at
  holds_good h = let e : k ≡ suc (k - 1) = omega arith in (rw e at a.good).0

  -- the bytes from there on: the rule's record first
  holds_bytes : 0 < k → drop p b ≡ encode_rule (rule_at b p) ++ (encode_rules (rules_at b (end_at b p) (k - 1)) ++ encode_end)
  unfolding rules_at encode_rules
  holds_bytes h =
      let e : k ≡ suc (k - 1) = omega arith in
      rw e at a.bytes ∙ append_assoc (encode_rule (rule_at b p)) (encode_rules (rules_at b (end_at b p) (k - 1))) encode_end

  -- the record of the rule there is its encoding
  pub holds_record : 0 < k → take (end_at b p - p) (drop p b) ≡ encode_rule (rule_at b p)
  holds_record h =
      let n : length (encode_rule (rule_at b p)) ≡ end_at b p - p = omega (arith, (rule_stands b p (rule_at b p) _ (holds_bytes h)).1) in
      rw (holds_bytes h) (take_at (encode_rule (rule_at b p)) _ (end_at b p - p) n)

  pub holds_next : 0 < k → Holds b ns family (end_at b p) (k - 1)
  unfolding rules_at place_at
  holds_next h =
      let e : k ≡ suc (k - 1) = omega arith in
      record { good = (rw e at a.good).1; inside = rw e at a.inside; bytes = (rule_stands b p (rule_at b p) _ (holds_bytes h)).2 }

  pub holds_inside : 0 < k → end_at b p ≤ length b
  holds_inside h = let n = holds_next h in omega (arith, place_at_above b (end_at b p) (k - 1), n.inside)

-- i of k rules are passed
module _ (b : List ℕ) (ns : Sizes) (family p k i : ℕ) (a : Holds b ns family p (k - i)) where
  pub holds_on : i < k → Holds b ns family (end_at b p) (k - (i + 1))
  holds_on h =
      let e : k - (i + 1) ≡ k - i - 1 = omega arith in
      rw e (holds_next b ns family p (k - i) a (omega arith))
