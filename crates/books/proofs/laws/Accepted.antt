-- One encoding: bytes that are read as a book are the encoding of their head and rules, which are well formed, and no others are.
use Prim.Native.Nat.{ℕ, zero, suc, ◌+◌, ◌*◌, ◌/◌, ◌%◌, ◌≤◌, ◌<◌}
use native.Mathlib.Omega.{arith}
use mathlib.Core.Path.{◌≡◌, refl, sym, ap, ◌∙◌}
use mathlib.Core.List.{List, ◌∷◌, ◌++◌}
use lib.ListN.{length, get_or, drop}
use Rattle.meaning.specs.Rules.{Rule}
use Rattle.meaning.proofs.Literals.{one_byte, three_bytes}
use Rattle.meaning.specs.Bytes.{encode_rules, encode_end, encode, WellFormed, end_at, rules_at, word_at, rules_in}
use Rattle.books.specs.Format.{Book, read_of}
use Rattle.books.proofs.laws.Fields.{mark_tells, field_tells, word_tells}
use Rattle.books.proofs.laws.Whole.{book_tells}
use Rattle.books.proofs.laws.Holds.{holds_start}

start : (b : List ℕ) → 7 ≤ length b → b ≡ get_or b 0 0 ∷ get_or b 1 0 ∷ get_or b 2 0 ∷ get_or b 3 0 ∷ get_or b 4 0 ∷ get_or b 5 0 ∷ get_or b 6 0 ∷ drop 7 b
start b h =
    three_bytes b 0 (omega arith)
    ∙ ap (λ (t : List ℕ). get_or b 0 0 ∷ get_or b 1 0 ∷ get_or b 2 0 ∷ t) (three_bytes b 3 (omega arith))
    ∙ ap (λ (t : List ℕ). get_or b 0 0 ∷ get_or b 1 0 ∷ get_or b 2 0 ∷ get_or b 3 0 ∷ get_or b 4 0 ∷ get_or b 5 0 ∷ t) (one_byte b 6 (omega arith))

pub rules_at_length : (b : List ℕ) (p k : ℕ) → length (rules_at b p k) ≡ k
unfolding rules_at
rules_at_length b p zero = refl
rules_at_length b p (suc k) = ap suc (rules_at_length b (end_at b p) k)

-- the head of an accepted book, as its bytes have it and within its limits
pub record Headed (b : List ℕ) (n l family k : ℕ) : Type 0 where
  pub n_is : get_or b 2 0 ≡ n
  pub l_is : get_or b 3 0 ≡ l
  pub family_is : get_or b 4 0 ≡ family
  pub count_is : word_at b 5 ≡ k
  pub well_formed : WellFormed n l family (rules_in b)
  pub count : length (rules_in b) ≡ k

module _ (b : List ℕ) (n l family k : ℕ) (h : read_of b ≡ Book n l family k) where
  pub headed : Headed b n l family k
  headed =
      let t = book_tells b n l family k h in
      let fn = field_tells b 0 2 1 65 n t.size in
      let fl = field_tells b 0 3 1 17 l t.settings in
      let ff = field_tells b 0 4 0 4 family t.family_is in
      let w = word_tells b 0 5 24577 k t.count in
      let c : word_at b 5 ≡ k = sym w.value in
      let r : length (rules_in b) ≡ k = rules_at_length b 7 (word_at b 5) ∙ c in
      record {
        n_is = sym fn.value;
        l_is = sym fl.value;
        family_is = sym ff.value;
        count_is = c;
        well_formed = record {
          n_low = fn.low;
          n_high = omega (arith, fn.high);
          l_low = fl.low;
          l_high = omega (arith, fl.high);
          families = omega (arith, ff.high);
          few = omega (arith, w.high, r);
          all_good = rw c (holds_start b n l family k h).good;
        };
        count = r;
      }

  halves : (u v : ℕ) → v < 256 → ((256 * u + v) / 256 ≡ u) × ((256 * u + v) % 256 ≡ v)
  halves u v s = (omega arith, omega arith)

  -- a list of bytes is the encoding of its head and rules
  pub encoded : ((i : ℕ) → get_or b i 0 < 256) → b ≡ encode n l family (rules_in b)
  unfolding encode
  encoded bytes =
      let t = book_tells b n l family k h in
      let m = mark_tells b 0 66 t.start t.mark in
      let d = headed in
      let x : drop 7 b ≡ encode_rules (rules_in b) ++ encode_end = rw d.count_is (holds_start b n l family k h).bytes in
      let p = halves (get_or b 5 0) (get_or b 6 0) (bytes 6) in
      start b (omega (arith, (word_tells b 0 5 24577 k t.count).inside))
      ∙ rw (m.first, m.second, d.n_is, d.l_is, d.family_is, rules_at_length b 7 (word_at b 5), p.0, p.1, x)

pub accepted : (b : List ℕ) (n l family k : ℕ) → ((i : ℕ) → get_or b i 0 < 256) → read_of b ≡ Book n l family k
    → (b ≡ encode n l family (rules_in b)) × WellFormed n l family (rules_in b) × (length (rules_in b) ≡ k)
accepted b n l family k bytes h = let d = headed b n l family k h in (encoded b n l family k h bytes, d.well_formed, d.count)

-- two accepted books with the same head and the same rules are the same bytes
pub one_encoding : (b b' : List ℕ) (n l family k : ℕ) → ((i : ℕ) → get_or b i 0 < 256) → ((i : ℕ) → get_or b' i 0 < 256)
    → read_of b ≡ Book n l family k → read_of b' ≡ Book n l family k → rules_in b ≡ rules_in b' → b ≡ b'
one_encoding b b' n l family k y y' h h' e =
    encoded b n l family k h y ∙ ap (λ (rs : List Rule). encode n l family rs) e ∙ sym (encoded b' n l family k h' y')
