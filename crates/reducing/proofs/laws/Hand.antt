-- Hand: what one literal more does to the bytes in hand.
use Prim.Native.Nat.{ℕ, ◌+◌, ◌*◌, ◌-◌, ◌≤◌, ◌<◌}
use native.Mathlib.Omega.{arith}
use mathlib.Core.Path.{◌≡◌, sym, ap, ◌∙◌}
use mathlib.Core.List.{List, [], ◌∷◌, ◌++◌}
use lib.ListN.{length, get_or, take, drop, replicate, length-append, take-append-drop}
use borrow.Rule.Slice.PartMut.{put_mid}
use lib.Seq.{length-take-le, drop-drop}
use Rattle.std.proofs.lemmas.List.{length-replicate, drop-replicate}
use Rattle.std.proofs.lemmas.Slice.{take-put_mid, drop-put_mid}
use Rattle.meaning.specs.Bytes.{literal_at}
use Rattle.meaning.proofs.Encoded.{encode_literals_length}
use Rattle.literals.specs.Inner.{literals_in}
use Rattle.reducing.specs.Inner.{Held}
use Rattle.reducing.specs.Proved.{back_count}
use Rattle.reducing.proofs.laws.Written.{written_rule, written_on}

module _ {n : ℕ} {b : List ℕ} (h : Held n b) where
  -- three bytes a literal
  threes : 3 * length (literals_in (take n b)) ≡ n
  threes = sym (encode_literals_length (literals_in (take n b))) ∙ back_count h

  pub kept_few : length (literals_in (take n b)) ≤ 32
  kept_few = omega (arith, threes, h.few)

  pub kept_room : length (literals_in (take n b)) < 32 → n + 3 ≤ 96
  kept_room few = omega (arith, threes)

  module _ (few : length (literals_in (take n b)) < 32) (y : List ℕ) (three : length y ≡ 3) where
    kept_bytes : take (n + 3) (put_mid n (n + 3 - n) b y) ≡ take n b ++ y
    kept_bytes = take-put_mid n (n + 3 - n) b y (n + 3) (omega arith) (omega (arith, h.few, h.room))

    kept_blank : drop (n + 3) (put_mid n (n + 3 - n) b y) ≡ replicate (96 - (n + 3)) 0
    kept_blank =
        let past : drop (n + 3) (put_mid n (n + 3 - n) b y) ≡ drop (n + 3) b = drop-put_mid n (n + 3 - n) b y (n + 3) (omega arith) (omega (arith, h.few, h.room)) (omega arith) in
        let less : 96 - n - 3 ≡ 96 - (n + 3) = omega arith in
        rw (past, ← drop-drop 3 n b, h.blank, ← less) (drop-replicate 3 (96 - n) 0)

    kept_size : length (put_mid n (n + 3 - n) b y) ≡ 96
    kept_size =
        let front : length (take n b) ≡ n = length-take-le n b (omega (arith, h.few, h.room)) in
        let zeros : List ℕ = replicate (96 - (n + 3)) 0 in
        sym (ap length (take-append-drop (n + 3) (put_mid n (n + 3 - n) b y)))
        ∙ rw (kept_bytes, kept_blank) (omega (arith, length-append (take n b ++ y) zeros, length-append (take n b) y, front, length-replicate {A = ℕ} (96 - (n + 3)) 0, kept_room few))

    pub kept_held : get_or y 1 0 < 2 → Held (n + 3) (put_mid n (n + 3 - n) b y)
    kept_held s = record { few = kept_room few; room = kept_size; written = rw kept_bytes (written_on (take n b) y h.written three s); blank = kept_blank }

    pub kept_rule : literals_in (take (n + 3) (put_mid n (n + 3 - n) b y)) ≡ literals_in (take n b) ++ (literal_at y 0 ∷ [])
    kept_rule = rw kept_bytes (written_rule (take n b) y h.written three)
