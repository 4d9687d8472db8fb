-- What is written is read: reading the bytes that encode well_formed rules gives their head.
use Prim.Native.Nat.{ℕ, suc, ◌+◌, ◌*◌, ◌/◌, ◌%◌, ◌≤◌, ◌<◌}
use native.Mathlib.Omega.{arith}
use mathlib.Core.Path.{◌≡◌, refl, sym, ap, ◌∙◌}
use mathlib.Core.List.{List, [], ◌∷◌, ◌++◌, append_assoc}
use lib.ListN.{length, get_or, drop, length-drop}
use borrow.Author.Tests.{le-ltb}
use Rattle.std.specs.Prelude.{Ok}
use Rattle.meaning.specs.Rows.{alike}
use Rattle.meaning.specs.Rules.{Literal, Rule, at_most, at_least, setting, sign, bound, top_of, key, AllFit, Ordered, Good, AllGood}
use Rattle.meaning.specs.Bytes.{encode_literals, encode_rule, encode_rules, encode_end, encode, WellFormed, end_at}
use Rattle.meaning.proofs.Encoded.{Stands, stands, literals_stand, rule_stands, encode_count}
use Rattle.books.specs.Format.{Book, mark_of, field_of, order_of, bound_of, literal_of, literals_of, body_of, rule_of, rules_of, tail_of, rest_of, read_of}
use Rattle.books.proofs.laws.Fields.{mark_got, field_got, word_got}

-- ---- a field that stands there is got

field_written : (b : List ℕ) (from p lo top x : ℕ) (t : List ℕ) → Stands b p x t → lo ≤ x → x < top → field_of b from p lo top ≡ Ok x
field_written b from p lo top x t s h k = sym (rw s.value at (field_got b from p lo top s.inside (rw s.value h) (rw s.value k)))

mark_written : (b : List ℕ) (p m : ℕ) (t : List ℕ) → drop p b ≡ 82 ∷ m ∷ t → (mark_of b p m ≡ Ok (p + 2)) × (drop (p + 2) b ≡ t)
mark_written b p m t h =
    let s₀ = stands b p 82 (m ∷ t) h in
    let s₁ = stands b (p + 1) m t s₀.after in
    let e : p + 1 + 1 ≡ p + 2 = omega arith in
    (sym (mark_got b p m (omega (arith, s₁.inside)) s₀.value s₁.value), rw e at s₁.after)

-- ---- the rules

sign_two : (c : Literal) → sign c < 2
sign_two (at_most i d) = omega arith
sign_two (at_least i d) = omega arith

literals_written : (b ns : List ℕ) (from least p : ℕ) (r : Rule) (t : List ℕ) → drop p b ≡ encode_literals r ++ t → AllFit ns r → Ordered least r
    → literals_of b ns from least p (length r) ≡ Ok (p + 3 * length r)
unfolding encode_literals literals_of literal_of bound_of order_of
literals_written b ns from least p [] t h f o = let e : p + 3 * 0 ≡ p = omega arith in rw e
literals_written b ns from least p (c ∷ r) t h f o =
    let s₀ = stands b p (setting c) (sign c ∷ bound c ∷ encode_literals r ++ t) h in
    let s₁ = stands b (p + 1) (sign c) (bound c ∷ encode_literals r ++ t) s₀.after in
    let e₂ : p + 1 + 1 ≡ p + 2 = omega arith in
    let s₂ = stands b (p + 2) (bound c) (encode_literals r ++ t) (rw e₂ at s₁.after) in
    let e₃ : p + 2 + 1 ≡ p + 3 = omega arith in
    let f₀ = field_written b from p 0 (length ns) (setting c) _ s₀ (omega arith) f.0.known in
    let f₁ = field_written b from (p + 1) 0 2 (sign c) _ s₁ (omega arith) (sign_two c) in
    let f₂ = field_written b from (p + 2) (sign c) (top_of (get_or ns (setting c) 0) (sign c)) (bound c) _ s₂ f.0.low f.0.high in
    let e : p + 3 * suc (length r) ≡ p + 3 + 3 * length r = omega arith in
    rw (f₀, f₁, f₂, le-ltb (key c) least o.0, e) (literals_written b ns from (key c + 1) (p + 3) r t (rw e₃ at s₂.after) f.1 o.1)

rule_written : (b ns : List ℕ) (family from : ℕ) (r : Rule) (t : List ℕ) → drop from b ≡ encode_rule r ++ t → Good ns family r → rule_of b ns family from ≡ Ok (end_at b from)
unfolding encode_rule rule_of body_of
rule_written b ns family from r t h g =
    let m = mark_written b from 85 (length r ∷ encode_literals r ++ t) h in
    let s = stands b (from + 2) (length r) (encode_literals r ++ t) m.1 in
    let e₃ : from + 2 + 1 ≡ from + 3 = omega arith in
    let d = rw e₃ at s.after in
    let c = field_written b from (from + 2) 0 (2 * length ns + 1) (length r) _ s (omega arith) (omega (arith, g.short)) in
    let x = literals_written b ns from 0 (from + 3) r t d g.fit g.ordered in
    rw (m.0, c, x, (literals_stand b (from + 3) r t d).0, g.busy, g.kept, s.value)

pub record RulesWritten (b ns : List ℕ) (family p k : ℕ) (t : List ℕ) : Type 0 where
  pub end : ℕ
  pub got : rules_of b ns family p k ≡ Ok end
  pub after : drop end b ≡ t

rules_written : (b ns : List ℕ) (family p : ℕ) (rs : List Rule) (t : List ℕ) → drop p b ≡ encode_rules rs ++ t → AllGood ns family rs → RulesWritten b ns family p (length rs) t
unfolding encode_rules rules_of
rules_written b ns family p [] t h g = record { end = p; got = refl; after = h }
rules_written b ns family p (r ∷ rs) t h g =
    let d = h ∙ append_assoc (encode_rule r) (encode_rules rs) t in
    let x = rule_written b ns family p r (encode_rules rs ++ t) d g.0 in
    let m = rules_written b ns family (end_at b p) rs t (rule_stands b p r (encode_rules rs ++ t) d).2 g.1 in
    record { end = m.end; got = rw x m.got; after = m.after }

-- ---- the whole book

pub written : (n l family : ℕ) (rs : List Rule) → WellFormed n l family rs → read_of (encode n l family rs) ≡ Book n l family (length rs)
unfolding encode read_of rest_of tail_of
written n l family rs w =
    let k = length rs in
    let b : List ℕ = 82 ∷ 66 ∷ n ∷ l ∷ family ∷ k / 256 ∷ k % 256 ∷ (encode_rules rs ++ encode_end) in
    let m = mark_written b 0 66 _ refl in
    let fn = field_written b 0 2 1 65 n _ (stands b 2 n _ refl) w.n_low (omega (arith, w.n_high)) in
    let fl = field_written b 0 3 1 17 l _ (stands b 3 l _ refl) w.l_low (omega (arith, w.l_high)) in
    let ff = field_written b 0 4 0 4 family _ (stands b 4 family _ refl) (omega arith) (omega (arith, w.families)) in
    let s₆ = stands b 6 (k % 256) _ refl in
    let t = word_got b 0 5 24577 k (sym (encode_count n l family rs)) (omega (arith, s₆.inside)) (omega (arith, w.few)) in
    let x = rules_written b (alike n l) family 7 rs encode_end refl w.all_good in
    let z = mark_written b x.end 69 [] x.after in
    let i : length b ≤ x.end + 2 = omega (arith, length-drop (x.end + 2) b, ap length z.1) in
    rw (m.0, fn, fl, ff, sym t, x.got, z.0, le-ltb (x.end + 2) (length b) i)
