-- Laws of a rule's part: where its record stands, and that it is the encoding of the rule.
use Prim.Native.Nat.{ℕ, zero, suc, ◌+◌, ◌-◌, ◌≤◌, ◌<◌}
use native.Mathlib.Omega.{arith}
use native.Mathlib.Nat.{sub-zero, add-sub_cancel_left}
use mathlib.Core.Path.{◌≡◌, refl, ◌∙◌}
use mathlib.Core.Logic.{inl, inr}
use mathlib.Core.List.{List, []}
use lib.ListN.{length, get_or, take, drop, length-take, length-drop}
use borrow.Author.Tests.{lt-ltb, le-ltb}
use Rattle.std.specs.Prelude.{Result, Ok, Err}
use Rattle.meaning.specs.Rows.{Sizes, alike}
use Rattle.meaning.specs.Bytes.{encode_rule, rule_at, end_at, rules_at, place_at, rules_in}
use Rattle.meaning.proofs.Tests.{lt_or_le}
use Rattle.books.specs.declared.Head.{Head}
use Rattle.books.specs.declared.Fault.{Fault}
use Rattle.books.specs.declared.part.RulePart.{RulePart}
use Rattle.books.specs.Format.{Book, read_of}
use Rattle.books.specs.Inner.{Holds, Placed}
use Rattle.books.specs.Part.{count_of, record_at, part_of, part_place, part_where}
use Rattle.books.proofs.laws.Holds.{holds_start, holds_inside, holds_next, holds_record}
use Rattle.books.proofs.laws.Accepted.{headed}

-- ---- the walk to a rule: more than j rules stand from p on
pub record Ahead (b : List ℕ) (p j : ℕ) : Type 0 where
  pub ns : Sizes
  pub family : ℕ
  pub more : ℕ
  pub enough : j < more
  pub holds : Holds b ns family p more

ahead_inside : (b : List ℕ) (p j : ℕ) → Ahead b p j → end_at b p ≤ length b
ahead_inside b p j a = holds_inside b a.ns a.family p a.more a.holds (omega (arith, a.enough))

ahead_next : (b : List ℕ) (p j i : ℕ) → j ≡ suc i → Ahead b p j → Ahead b (end_at b p) i
ahead_next b p j i e a = record {
  ns = a.ns;
  family = a.family;
  more = a.more - 1;
  enough = omega (arith, a.enough);
  holds = holds_next b a.ns a.family p a.more a.holds (omega (arith, a.enough));
}

ahead_start : (b : List ℕ) (k : ℕ) → k < count_of (read_of b) → Ahead b 7 k
ahead_start b k h = go (read_of b) refl h
  where
    go : (r : Result Head Fault) → read_of b ≡ r → k < count_of r → Ahead b 7 k
    go (Ok d) e h = record { ns = alike d.n d.l; family = d.family; more = d.rules; enough = h; holds = holds_start b d.n d.l d.family d.rules e }
    go (Err f) e h = absurd (omega arith)

pub record Walk (b : List ℕ) (k p i : ℕ) : Type 0 where
  pub whole : place_at b 7 k ≡ place_at b p (k - i)
  pub inside : end_at b p ≤ length b
  pub short : i ≤ k
  pub ahead : Ahead b p (k - i)

module _ (b : List ℕ) (k : ℕ) where
  pub walk_start : k < count_of (read_of b) → Walk b k 7 0
  walk_start h =
      let a = ahead_start b k h in
      record { whole = rw (sub-zero k); inside = ahead_inside b 7 k a; short = omega arith; ahead = rw (sub-zero k) a }

  pub walk_on : (p i : ℕ) → Walk b k p i → i < k → (e : ℕ) → e ≡ end_at b p → Walk b k e (i + 1)
  unfolding place_at
  walk_on p i w h p' o =
      let e : k - i ≡ suc (k - (i + 1)) = omega arith in
      let a = ahead_next b p (k - i) (k - (i + 1)) e w.ahead in
      rw o (record { whole = w.whole ∙ rw e; inside = ahead_inside b (end_at b p) (k - (i + 1)) a; short = omega arith; ahead = a })

  pub walk_end : (p i : ℕ) → Walk b k p i → k ≤ i → Placed b k p
  unfolding place_at
  walk_end p i w h = let e : k - i ≡ 0 = omega arith in record { is = w.whole ∙ rw e; inside = w.inside }

-- ---- where the part is: the ways out
record_length : (b : List ℕ) (p : ℕ) → end_at b p ≤ length b → length (record_at b p) ≡ end_at b p - p
record_length b p h = simp (length-take, length-drop) (omega arith)

module _ (b : List ℕ) (k c : ℕ) (n : c ≡ count_of (read_of b)) where
  pub where_none : c ≤ k → ◌≡◌ {A = RulePart} (record { place = length b; length = 0 }) (part_where b k)
  unfolding part_of part_place
  where_none h = rw (← n, le-ltb k c h)

  pub where_some : (p : ℕ) → Placed b k p → k < c → (e : ℕ) → e ≡ end_at b p → ◌≡◌ {A = RulePart} (record { place = p; length = e - p }) (part_where b k)
  unfolding part_of part_place
  where_some p w h e o = rw (← n, lt-ltb k c h, w.is, record_length b p w.inside, o)

pub ruleset where_ways = (where_none, where_some)

-- ---- the part is those bytes of the book
ahead_at : (b : List ℕ) (k p : ℕ) → Ahead b p k → Ahead b (place_at b p k) 0
unfolding place_at
ahead_at b zero p a = a
ahead_at b (suc k) p a = ahead_at b k (end_at b p) (ahead_next b p (suc k) k refl a)

module _ (b : List ℕ) (k : ℕ) where
  record_inside : k < count_of (read_of b) → end_at b (place_at b 7 k) ≤ length b
  record_inside h = ahead_inside b (place_at b 7 k) 0 (ahead_at b k 7 (ahead_start b k h))

  whole_inside : part_place b k + length (part_of b k) ≤ length b
  unfolding part_of part_place
  whole_inside = elim (lt_or_le k (count_of (read_of b))) [
    | inl h ↦ let i = record_inside h in rw (lt-ltb k (count_of (read_of b)) h, record_length b (place_at b 7 k) i) (omega arith)
    | inr h ↦ rw (le-ltb k (count_of (read_of b)) h) (omega arith)
  ]

  whole_bytes : take (length (part_of b k)) (drop (part_place b k) b) ≡ part_of b k
  unfolding part_of part_place
  whole_bytes = elim (lt_or_le k (count_of (read_of b))) [
    | inl h ↦ rw (lt-ltb k (count_of (read_of b)) h, record_length b (place_at b 7 k) (record_inside h))
    | inr h ↦ rw (le-ltb k (count_of (read_of b)) h)
  ]

  module _ (p : RulePart) (e : p ≡ part_where b k) where
    pub part_inside : p.place + p.length ≤ length b
    part_inside = rw e whole_inside

    pub part_place_is : p.place ≡ part_place b k
    part_place_is = rw e

    pub part_bytes : take (p.place + p.length - p.place) (drop p.place b) ≡ part_of b k
    part_bytes = rw (e, add-sub_cancel_left (part_place b k) (length (part_of b k))) whole_bytes

pub ruleset part_whole = (part_inside, part_place_is, part_bytes)

-- ---- what the part is: the encoding of the rule

rule_nth : (b : List ℕ) (p k m : ℕ) → k < m → get_or (rules_at b p m) k [] ≡ rule_at b (place_at b p k)
unfolding rules_at place_at
rule_nth b p k zero h = absurd (omega arith)
rule_nth b p zero (suc m) h = refl
rule_nth b p (suc k) (suc m) h = rule_nth b (end_at b p) k m (omega arith)

pub part_is : (b : List ℕ) (n l family c k : ℕ) → read_of b ≡ Book n l family c → k < c → part_of b k ≡ encode_rule (get_or (rules_in b) k [])
unfolding part_of
part_is b n l family c k h q =
    let e : rules_in b ≡ rules_at b 7 c = rw (headed b n l family c h).count_is in
    let a = ahead_at b k 7 (ahead_start b k (rw h q)) in
    rw (e, rule_nth b 7 k c q, h, lt-ltb k c q) (holds_record b a.ns a.family (place_at b 7 k) a.more a.holds (omega (arith, a.enough)))
