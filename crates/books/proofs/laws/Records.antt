-- Records: the bytes of a rule's record, what a writer of a record tells, and the writers' ways out.
use Prim.Native.Nat.{ℕ, ◌+◌, ◌-◌, ◌/◌, ◌%◌, ◌≤◌, ◌<◌}
use native.Mathlib.Omega.{arith}
use mathlib.Core.Path.{◌≡◌, sym, ◌∙◌}
use mathlib.Core.List.{List, [], ◌∷◌, ◌++◌}
use borrow.Rule.Slice.PartMut.{put_mid}
use lib.ListN.{length, length-append}
use lib.Seq.{drop-drop}
use Rattle.meaning.specs.Rules.{Rule}
use Rattle.meaning.specs.Bytes.{encode_literals, encode_rule, encode_head}
use Rattle.meaning.proofs.Encoded.{encode_literals_length}
use Rattle.books.specs.Inner.{put_at, Puts, rule_record}
use Rattle.books.proofs.laws.Put.{put_at_put_at, put_in_fits, put_in_not}

pub rule_record_is : (r : Rule) → rule_record (encode_literals r) ≡ encode_rule r
unfolding rule_record encode_rule
rule_record_is r =
    let e : length (encode_literals r) / 3 ≡ length r = omega (arith, encode_literals_length r) in
    rw e

-- ---- the writers' ways out

-- the bytes copied over a part of the room
put_mid_is : (old : List ℕ) (at k : ℕ) (bytes : List ℕ) → k ≡ length bytes → put_mid at k old bytes ≡ put_at old at bytes
unfolding put_at
put_mid_is old at k bytes e = rw (e, drop-drop (length bytes) at old)

module _ (old : List ℕ) (at : ℕ) (mark bytes : List ℕ) where
  abbrev start : ℕ
  start = at + length mark

  abbrev next : ℕ
  next = start + length bytes

  puts_next : next ≡ at + length (mark ++ bytes)
  puts_next = omega (arith, length-append mark bytes)

  pub puts_nothing : length old < next → Puts old old at (mark ++ bytes) next
  puts_nothing h = record { room = sym (put_in_not old at (mark ++ bytes) (omega (arith, puts_next))); next_is = puts_next }

  pub puts_both : (new new' : List ℕ) → next ≤ length old → new ≡ mark → new' ≡ bytes
      → Puts old (put_mid start (next - start) (put_mid at (start - at) old new) new') at (mark ++ bytes) next
  puts_both new new' h e f =
      let a = put_mid_is old at (start - at) mark (omega arith) in
      let b = put_mid_is (put_at old at mark) start (next - start) bytes (omega arith) in
      record {
        room = rw (e, f, a) b ∙ put_at_put_at old at mark bytes h ∙ sym (put_in_fits old at (mark ++ bytes) (omega (arith, puts_next)));
        next_is = puts_next;
      }

pub ruleset puts = (puts_nothing, puts_both)

pub puts_rule : (old new : List ℕ) (at next k : ℕ) (literals : List ℕ) → Puts old new at (82 ∷ 85 ∷ k ∷ literals) next → k ≡ length literals / 3
    → Puts old new at (rule_record literals) next
unfolding rule_record
puts_rule old new at next k literals p e = rw (← e) p

pub puts_head : (old new : List ℕ) (next n l family rules : ℕ) → rules < 65536 → Puts old new 0 (82 ∷ 66 ∷ n ∷ l ∷ family ∷ rules / 256 ∷ rules % 256 ∷ []) next
    → Puts old new 0 (encode_head n l family rules) next
puts_head old new next n l family rules h p = p
