-- What was got is the encoding of what stands there: literals, a rule, rules; and what rules that were got tell.
use Prim.Native.Nat.{ℕ, zero, suc, ◌+◌, ◌*◌, ◌<◌}
use native.Mathlib.Omega.{arith}
use mathlib.Core.Path.{◌≡◌, sym, ap, ◌∙◌}
use mathlib.Core.List.{List, ◌++◌, append_assoc}
use lib.ListN.{length, get_or, drop}
use Rattle.std.specs.Prelude.{Ok}
use Rattle.meaning.specs.Rules.{AllGood}
use Rattle.meaning.proofs.Literals.{literals_length, literal_parts, three_bytes}
use Rattle.meaning.specs.Bytes.{encode_literals, encode_rule, encode_rules, literals_at, rule_at, end_at, rules_at, place_at}
use Rattle.books.specs.Format.{mark_of, field_of, literal_of, literals_of, body_of, rule_of, rules_of}
use Rattle.books.proofs.laws.Fields.{chain, field_tells}
use Rattle.books.proofs.laws.Literals.{literal_tells}
use Rattle.books.proofs.laws.Rules.{rule_tells}

literals_encoded : (b ns : List ℕ) (from least p k e : ℕ) → literals_of b ns from least p k ≡ Ok e → drop p b ≡ encode_literals (literals_at b p k) ++ drop (p + 3 * k) b
unfolding literals_of literals_at encode_literals
literals_encoded b ns from least p zero e h = let z : p + 3 * 0 ≡ p = omega arith in rw z
literals_encoded b ns from least p (suc k) e h =
    let s = chain (literal_of b ns from least p) _ e h in
    let t = literal_tells b ns from least p s.0 s.1 in
    let m = literals_encoded b ns from s.0 (p + 3) k e s.2 in
    let z : p + 3 * suc k ≡ p + 3 + 3 * k = omega arith in
    let g : get_or b (p + 1) 0 < 2 = omega (arith, t.sign.value, t.sign.high) in
    three_bytes b p (omega (arith, t.bound.inside)) ∙ sym (literal_parts (get_or b (p + 1) 0) (get_or b p 0) (get_or b (p + 2) 0) (drop (p + 3) b) g) ∙ rw (z, m)

rule_encoded : (b ns : List ℕ) (family from e : ℕ) → rule_of b ns family from ≡ Ok e → drop from b ≡ encode_rule (rule_at b from) ++ drop e b
unfolding rule_of body_of encode_rule
rule_encoded b ns family from e h =
    let u = rule_tells b ns family from e h in
    let s₁ = chain (mark_of b from 85) _ e h in
    let s₂ = chain (field_of b from (from + 2) 0 (2 * length ns + 1)) _ e s₁.2 in
    let c = field_tells b from (from + 2) 0 (2 * length ns + 1) s₂.0 s₂.1 in
    let s₃ = chain (literals_of b ns from 0 (from + 3) s₂.0) _ e s₂.2 in
    let m = rw c.value at (literals_encoded b ns from 0 (from + 3) s₂.0 s₃.0 s₃.1) in
    three_bytes b from (omega (arith, u.count.inside)) ∙ rw (u.mark.first, u.mark.second, m, literals_length b (from + 3) (get_or b (from + 2) 0), u.end)

-- what rules that were got tell
pub record RulesGot (b ns : List ℕ) (family p k e : ℕ) : Type 0 where
  pub good : AllGood ns family (rules_at b p k)
  pub end : place_at b p k ≡ e
  pub bytes : drop p b ≡ encode_rules (rules_at b p k) ++ drop e b

pub rules_tell : (b ns : List ℕ) (family p k e : ℕ) → rules_of b ns family p k ≡ Ok e → RulesGot b ns family p k e
unfolding rules_of rules_at place_at encode_rules
rules_tell b ns family p zero e h = let z : p ≡ e = cc in record { good = tt; end = z; bytes = rw z }
rules_tell b ns family p (suc k) e h =
    let s = chain (rule_of b ns family p) _ e h in
    let u = rule_tells b ns family p s.0 s.1 in
    let m = rw u.end at (rules_tell b ns family s.0 k e s.2) in
    let x = rw u.end at (rule_encoded b ns family p s.0 s.1) in
    record {
      good = (u.good, m.good);
      end = m.end;
      bytes = x ∙ ap (λ (t : List ℕ). encode_rule (rule_at b p) ++ t) m.bytes
          ∙ sym (append_assoc (encode_rule (rule_at b p)) (encode_rules (rules_at b (end_at b p) k)) (drop e b));
    }
