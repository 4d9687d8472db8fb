-- Encoded: how long the bytes of a rule and of a book are, and that they read back as the same rules.
use Prim.Native.Nat.{ℕ, zero, suc, ◌+◌, ◌*◌, ◌/◌, ◌%◌, ◌<◌}
use native.Mathlib.Omega.{arith}
use mathlib.Core.Path.{◌≡◌, refl, sym, ◌∙◌}
use mathlib.Core.List.{List, [], ◌∷◌, ◌++◌, append_assoc}
use lib.ListN.{length, get_or, drop, length-append}
use lib.Seq.{drop-nil}
use Rattle.meaning.specs.Rules.{Literal, at_most, at_least, Rule, setting, sign, bound}
use Rattle.meaning.specs.Bytes.{encode_literals, encode_rule, encode_rules, encode_end, encode, literal, literals_at, rule_at, end_at, rules_at, word_at, rules_in}

-- ---- lengths

pub encode_literals_length : (r : Rule) → length (encode_literals r) ≡ 3 * length r
unfolding encode_literals
encode_literals_length [] = refl
encode_literals_length (c ∷ r) = omega (arith, encode_literals_length r)

pub encode_rule_length : (r : Rule) → length (encode_rule r) ≡ 3 + 3 * length r
unfolding encode_rule
encode_rule_length r = omega (arith, encode_literals_length r)

pub encode_length : (n l family : ℕ) (rs : List Rule) → length (encode n l family rs) ≡ 9 + length (encode_rules rs)
unfolding encode
encode_length n l family rs = omega (arith, length-append (encode_rules rs) encode_end)

-- ---- what stands at a place, and what after it

pub record Stands (b : List ℕ) (p x : ℕ) (t : List ℕ) : Type 0 where
  pub inside : p < length b
  pub value : get_or b p 0 ≡ x
  pub after : drop (p + 1) b ≡ t

pub stands : (b : List ℕ) (p x : ℕ) (t : List ℕ) → drop p b ≡ x ∷ t → Stands b p x t
stands [] p x t h = let e : [] ≡ x ∷ t = sym (drop-nil p) ∙ h in let z : ◌≡◌ {A = ℕ} 0 1 = cc in absurd (omega arith)
stands (y ∷ b) zero x t h = record { inside = omega arith; value = cc; after = cc }
stands (y ∷ b) (suc p) x t h =
    let s = stands b p x t h in
    let e : suc p + 1 ≡ suc (p + 1) = omega arith in
    record { inside = omega (arith, s.inside); value = s.value; after = rw e s.after }

pub stands₃ : (b : List ℕ) (p x y z : ℕ) (t : List ℕ) → drop p b ≡ x ∷ y ∷ z ∷ t → (get_or b p 0 ≡ x) × (get_or b (p + 1) 0 ≡ y) × (get_or b (p + 2) 0 ≡ z) × (drop (p + 3) b ≡ t)
stands₃ b p x y z t h =
    let s₀ = stands b p x (y ∷ z ∷ t) h in
    let s₁ = stands b (p + 1) y (z ∷ t) s₀.after in
    let e₂ : p + 1 + 1 ≡ p + 2 = omega arith in
    let s₂ = stands b (p + 2) z t (rw e₂ at s₁.after) in
    let e₃ : p + 2 + 1 ≡ p + 3 = omega arith in
    (s₀.value, s₁.value, s₂.value, rw e₃ at s₂.after)

-- ---- the rules that stand where their bytes do

literal_parts : (c : Literal) → literal (sign c) (setting c) (bound c) ≡ c
literal_parts (at_most i d) = refl
literal_parts (at_least i d) = refl

pub literals_stand : (b : List ℕ) (p : ℕ) (r : Rule) (t : List ℕ) → drop p b ≡ encode_literals r ++ t
    → (literals_at b p (length r) ≡ r) × (drop (p + 3 * length r) b ≡ t)
unfolding encode_literals literals_at
literals_stand b p [] t h = let e : p + 3 * 0 ≡ p = omega arith in (refl, rw e h)
literals_stand b p (c ∷ r) t h =
    let s = stands₃ b p (setting c) (sign c) (bound c) (encode_literals r ++ t) h in
    let m = literals_stand b (p + 3) r t s.3 in
    let e : p + 3 * suc (length r) ≡ p + 3 + 3 * length r = omega arith in
    (rw (s.0, s.1, s.2, literal_parts c, m.0), rw e m.1)

pub rule_stands : (b : List ℕ) (p : ℕ) (r : Rule) (t : List ℕ) → drop p b ≡ encode_rule r ++ t
    → (rule_at b p ≡ r) × (end_at b p ≡ p + length (encode_rule r)) × (drop (end_at b p) b ≡ t)
unfolding encode_rule
rule_stands b p r t h =
    let s = stands₃ b p 82 85 (length r) (encode_literals r ++ t) h in
    let m = literals_stand b (p + 3) r t s.3 in
    rw s.2 (m.0, omega (arith, encode_literals_length r), m.1)

pub rules_stand : (b : List ℕ) (p : ℕ) (rs : List Rule) (t : List ℕ) → drop p b ≡ encode_rules rs ++ t → rules_at b p (length rs) ≡ rs
unfolding encode_rules rules_at
rules_stand b p [] t h = refl
rules_stand b p (r ∷ rs) t h =
    let s = rule_stands b p r (encode_rules rs ++ t) (h ∙ append_assoc (encode_rule r) (encode_rules rs) t) in
    rw (s.0, rules_stand b (end_at b p) rs t s.2)

-- ---- the whole book

word : (k : ℕ) → 256 * (k / 256) + k % 256 ≡ k
word k = omega arith

module _ (n l family : ℕ) (rs : List Rule) where
  pub encode_count : word_at (encode n l family rs) 5 ≡ length rs
  unfolding encode
  encode_count = word (length rs)

  pub encoded_rules : rules_in (encode n l family rs) ≡ rs
  unfolding encode
  encoded_rules = rw (word (length rs)) (rules_stand (encode n l family rs) 7 rs encode_end refl)
