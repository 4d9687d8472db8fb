-- Sending: rules written one after another, each where it fits, with the length and the number of rules so far.
use Prim.Native.Nat.{ℕ, ◌+◌, ◌≤◌, ◌<◌}
use native.Mathlib.Omega.{arith}
use mathlib.Core.Path.{◌≡◌, refl, sym, ap, ◌∙◌}
use mathlib.Core.Bool.{Bool, true, false}
use mathlib.Core.List.{List, [], ◌∷◌, ◌++◌, map, map-append}
use lib.ListN.{length, length-append}
use Rattle.meaning.specs.Lists.{opt}
use Rattle.meaning.specs.Rows.{Row}
use Rattle.meaning.specs.Rules.{Rule}
use Rattle.meaning.specs.Families.{reduce_for}
use Rattle.meaning.specs.Bytes.{encode_literals, encode_rule, encode_rules}
use Rattle.books.specs.Inner.{put_at, put_in, Puts, rule_record}
use Rattle.meaning.proofs.Encoded.{encode_rule_length, encode_literals_length}
use Rattle.books.proofs.laws.Records.{rule_record_is}
use Rattle.books.proofs.laws.Put.{put_at_length, put_at_nothing, put_at_put_at, put_in_fits}
use Rattle.makers.specs.declared.Made.{Made}
use Rattle.makers.specs.declared.rows.Source.{Source}
use Rattle.makers.specs.declared.sending.Draft.{Draft}
use Rattle.makers.specs.Inner.{source_family, State, state_of, source_rows, send, sends, sends_for, IsSent, Countable, Sent}

-- ---- laws

pub sends_append : (xs ys : List Rule) (s : State) → sends (xs ++ ys) s ≡ sends ys (sends xs s)
unfolding sends
sends_append [] ys s = refl
sends_append (x ∷ xs) ys s = sends_append xs ys (send x s)

pub sends_length : (rs : List Rule) (s : State) → (sends rs s).0.length ≡ s.0.length + length (encode_rules rs)
unfolding sends send encode_rules
sends_length [] s = omega arith
sends_length (r ∷ rs) s = sends_length rs (send r s) ∙ omega (arith, length-append (encode_rule r) (encode_rules rs))

pub sends_rules : (rs : List Rule) (s : State) → (sends rs s).0.rules ≡ s.0.rules + length rs
unfolding sends send
sends_rules [] s = omega arith
sends_rules (r ∷ rs) s = sends_rules rs (send r s) ∙ omega arith

-- where they all fit, all are written
pub sends_room : (rs : List Rule) (s : State) → s.0.length + length (encode_rules rs) ≤ length s.1 → (sends rs s).1 ≡ put_at s.1 s.0.length (encode_rules rs)
unfolding sends send encode_rules
sends_room [] s h = sym (put_at_nothing s.1 s.0.length)
sends_room (r ∷ rs) s h =
    let b = s.1 in
    let at = s.0.length in
    let both = length-append (encode_rule r) (encode_rules rs) in
    let e : put_in b at (encode_rule r) ≡ put_at b at (encode_rule r) = put_in_fits b at (encode_rule r) (omega arith) in
    let long : length (put_in b at (encode_rule r)) ≡ length b = rw e (put_at_length b at (encode_rule r) (omega arith)) in
    sends_room rs (send r s) (omega arith)
    ∙ rw e (put_at_put_at b at (encode_rule r) (encode_rules rs) (omega arith))

-- in turn: what a list of rules does is done by its parts, one after the other
pub sends_for_append : (family : ℕ) (rows : List Row) (xs ys : List Rule) (s : State)
    → sends_for family rows (xs ++ ys) s ≡ sends_for family rows ys (sends_for family rows xs s)
unfolding sends_for
sends_for_append family rows xs ys s = rw map-append (sends_append (map (reduce_for family rows) xs) (map (reduce_for family rows) ys) s)

-- ---- the way out of the code

pub send_put : (r : Rule) (bytes : List ℕ) (t : Made) (old new : List ℕ) (next : ℕ) → bytes ≡ encode_literals r → Puts old new t.length (rule_record bytes) next
    → ◌≡◌ {A = State} (record { length = next; rules = t.rules + 1 }, new) (send r (t, old))
unfolding send
send_put r bytes t old new next b p =
    let e : rule_record bytes ≡ encode_rule r = rw b (rule_record_is r) in
    let q = rw e at p in
    rw (q.next_is, q.room)

pub send_few : (r : Rule) (bytes : List ℕ) → bytes ≡ encode_literals r → length r ≤ 32 → length bytes < 768
send_few r bytes b few = rw b (omega (arith, encode_literals_length r))

-- ---- the state after some slots, of which each sends at most one rule of at most 32 literals

-- the draft after a rule
pub send_more : (r : Rule) (d d' : Draft) → IsSent r d d' → (d'.made.length ≤ d.made.length + 99) × (d'.made.rules ≡ d.made.rules + 1)
unfolding send
send_more r d d' e =
    let length_is : d'.made.length ≡ d.made.length + length (encode_rule r) = ap (λ (x : State). x.0.length) e.state in
    (omega (arith, encode_rule_length r, e.few), ap (λ (x : State). x.0.rules) e.state)

-- no rule
pub sent_none : (k : ℕ) (s : Source) (rs : List Rule) (d : Draft) → rs ≡ [] → Sent k s rs d d
unfolding sends_for sends
sent_none k s rs d e = record { same_room = refl; state = rw e; longer = omega arith; more = omega arith }

-- one lot after the other
pub sent_both : (j k : ℕ) (s : Source) (xs ys : List Rule) (d d₁ d₂ : Draft) → Sent j s xs d d₁ → Sent k s ys d₁ d₂ → Sent (j + k) s (xs ++ ys) d d₂
sent_both j k s xs ys d d₁ d₂ a b = record {
  same_room = b.same_room ∙ a.same_room;
  state = b.state ∙ rw a.state (sym (sends_for_append (source_family s) (source_rows s) xs ys (state_of d)));
  longer = omega (arith, a.longer, b.longer);
  more = omega (arith, a.more, b.more);
}

pub sent_one : (s : Source) (r reduced : Rule) (d d' : Draft) → reduced ≡ reduce_for (source_family s) (source_rows s) r → IsSent reduced d d' → Sent 1 s (r ∷ []) d d'
unfolding sends_for sends
sent_one s r reduced d d' e q =
    let grown = send_more reduced d d' q in
    record { same_room = q.same_room; state = q.state ∙ rw e; longer = omega arith; more = omega arith }

-- the rule of a slot, if it has one
pub slot_some : (s : Source) (b : Bool) (r : Rule) (d d' : Draft) → b ≡ true → Sent 1 s (r ∷ []) d d' → Sent 1 s (opt b r) d d'
slot_some s b r d d' e sent = rw e sent

pub slot_none : (s : Source) (b : Bool) (r : Rule) (d : Draft) → b ≡ false → Sent 1 s (opt b r) d d
slot_none s b r d e = sent_none 1 s (opt b r) d (rw e)

-- what can be counted after k slots
pub sent_countable : (k j n : ℕ) (s : Source) (rs : List Rule) (d d' : Draft) → Sent k s rs d d' → Countable d.made n → k + j ≤ n → Countable d'.made j
sent_countable k j n s rs d d' sent c h = record {
  bytes = omega (arith, sent.longer, c.bytes);
  number = omega (arith, sent.more, c.number);
}
