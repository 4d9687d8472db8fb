-- Writing: the book of a table written to the start of the room, or refusal 8.
use Prim.Native.Nat.{ℕ, ◌+◌, ◌≤◌, ◌<◌}
use native.Mathlib.Omega.{arith}
use mathlib.Core.Path.{◌≡◌, sym, ap, ◌∙◌}
use mathlib.Core.List.{List, ◌++◌, append_assoc}
use lib.ListN.{length, length-append}
use borrow.Author.Tests.{le-leb, lt-leb}
use Rattle.std.specs.Prelude.{Result, Ok, Err}
use Rattle.meaning.specs.Rules.{Rule}
use Rattle.meaning.specs.Families.{rules_for}
use Rattle.meaning.specs.Bytes.{encode_rules, encode_head, encode_end, encode}
use Rattle.std.specs.Borrow.{MutBor}
use Rattle.books.specs.Inner.{put_at, Puts}
use Rattle.meaning.proofs.Encoded.{encode_length}
use Rattle.books.proofs.laws.Put.{put_at_length, put_at_start, put_at_put_at, put_in_fits}
use Rattle.makers.specs.declared.Made.{Made}
use Rattle.makers.specs.declared.Unmade.{Unmade}
use Rattle.makers.specs.declared.Unmade.TheVariants.{Room}
use Rattle.makers.specs.declared.rows.Source.{Source}
use Rattle.makers.specs.declared.sending.Draft.{Draft}
use Rattle.makers.specs.Inner.{source_family, source_rows, State, state_of, sends_for, SentAll, Needed, source_rules, source_bytes, book_of, Writable, Wrote}
use Rattle.makers.specs.Made.{fitting}
use Rattle.makers.proofs.laws.Sending.{sends_length, sends_room}

-- ---- the bytes

-- one write after another from the start of the room
put_more : (old xs ys : List ℕ) (at : ℕ) (mid new : List ℕ) → mid ≡ put_at old 0 xs → at ≡ length xs → length xs + length ys ≤ length old
    → new ≡ put_at mid at ys → new ≡ put_at old 0 (xs ++ ys)
put_more old xs ys at mid new e q h p =
    let z : length xs ≡ 0 + length xs = omega arith in
    p ∙ rw (e, q ∙ z) (put_at_put_at old 0 xs ys (omega arith))

module _ (s : Source) (count : ℕ) (room : List ℕ) (w : Writable s count room) where
  rs : List Rule
  rs = source_rules s

  head : List ℕ
  head = encode_head s.n (length s.sizes.now) (source_family s) count

  pub write_all : (at next : ℕ) (r : MutBor (List ℕ)) (d' : Draft) (new : List ℕ) → Puts room r.now 0 (encode_head s.n (length s.sizes.now) (source_family s) count) at
      → SentAll s (record { room = r; made = record { length = at; rules = 0 } }) d' → Puts d'.room.now new d'.made.length encode_end next
      → (x : List ℕ) → x ≡ new → Wrote (source_bytes s) room next x
  unfolding sends_for rules_for encode rs head
  write_all at next r d' new one sent last x same =
      let d : Draft = record { room = r; made = record { length = at; rules = 0 } } in
      let long = encode_length s.n (length s.sizes.now) (source_family s) rs in
      let fits : 9 + length (encode_rules rs) ≤ length room = omega (arith, w.fits) in
      let at-is : at ≡ 7 = one.next_is in
      let e₁ : r.now ≡ put_at room 0 head = one.room ∙ put_in_fits room 0 head (omega arith) in
      let l₁ : length r.now ≡ length room = ap length e₁ ∙ put_at_length room 0 head (omega arith) in
      let end_is : d'.made.length ≡ at + length (encode_rules rs) = ap (λ (x : State). x.0.length) sent.state ∙ sends_length rs (state_of d) in
      let p₂ : d'.room.now ≡ put_at r.now at (encode_rules rs) = ap (λ (x : State). x.1) sent.state ∙ sends_room rs (state_of d) (omega arith) in
      let e₂ : d'.room.now ≡ put_at room 0 (head ++ encode_rules rs) = put_more room head (encode_rules rs) at r.now d'.room.now e₁ at-is (omega arith) p₂ in
      let both = length-append head (encode_rules rs) in
      let l₂ : length d'.room.now ≡ length room = ap length e₂ ∙ put_at_length room 0 (head ++ encode_rules rs) (omega arith) in
      let p₃ : new ≡ put_at d'.room.now d'.made.length encode_end = last.room ∙ put_in_fits d'.room.now d'.made.length encode_end (omega arith) in
      let e₃ : new ≡ put_at room 0 ((head ++ encode_rules rs) ++ encode_end) =
      put_more room (head ++ encode_rules rs) encode_end d'.made.length d'.room.now new e₂ (omega arith) (omega arith) p₃ in
      record {
        long = omega (arith, last.next_is);
        room = same ∙ e₃ ∙ rw (append_assoc head (encode_rules rs) encode_end, w.count_is) (put_at_start room (encode s.n (length s.sizes.now) (source_family s) rs));
      }

-- ---- the ways out

module _ (s : Source) (room : List ℕ) (t : Made) (need : Needed s.sizes.now (source_family s) (source_rows s) (length room) t) where
  long : length (source_bytes s) ≡ 9 + length (encode_rules (source_rules s))
  long = encode_length s.n (length s.sizes.now) (source_family s) (source_rules s)

  pub book_refused : length room < t.length → ◌≡◌ {A = Result Made Unmade × List ℕ} (Err (Room t.length), room) (book_of s room)
  unfolding book_of fitting
  book_refused h =
      let e : length (source_bytes s) ≡ t.length = long ∙ sym (need.exact h) in
      rw (e, lt-leb t.length (length room) h)

  module _ (fits : t.length ≤ length room) where
    enough : length (source_bytes s) ≤ length room
    enough = omega (arith, long, need.enough)

    pub book_writable : Writable s t.rules room
    book_writable = record { few = need.few; count_is = need.rules_is; fits = enough }

    pub book_written : (length_is : ℕ) (new : List ℕ) → Wrote (source_bytes s) room length_is new
        → ◌≡◌ {A = Result Made Unmade × List ℕ} (Ok (record { length = length_is; rules = t.rules }), new) (book_of s room)
    unfolding book_of fitting
    book_written length_is new w = rw (w.long, w.room, need.rules_is, le-leb (length (source_bytes s)) (length room) enough)
