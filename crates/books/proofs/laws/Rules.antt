-- The rules: what a rule that was got tells, and the loop over them.
use Prim.Native.Nat.{ℕ, suc, ◌+◌, ◌*◌, ◌-◌, ◌≤◌, ◌<◌}
use native.Mathlib.Omega.{arith}
use mathlib.Core.Path.{◌≡◌, refl, sym, ◌∙◌}
use mathlib.Core.Bool.{Bool, true, false, cond}
use mathlib.Core.List.{List}
use lib.ListN.{length, get_or}
use Rattle.std.specs.Prelude.{Ok, Err}
use Rattle.books.specs.declared.Fault.{Fault}
use Rattle.books.specs.declared.Fault.TheVariants.{Idle, Family}
use Rattle.meaning.specs.Rules.{idle, in_family, Good}
use Rattle.meaning.proofs.Literals.{literals_length}
use Rattle.meaning.specs.Bytes.{literals_at, rule_at, end_at}
use Rattle.books.specs.Format.{mark_of, field_of, literals_of, body_of, rule_of, rules_of}
use Rattle.books.proofs.laws.Fields.{chain, no_value, mark_tells, field_tells, MarkGot, FieldGot}
use Rattle.books.proofs.laws.Literals.{literals_tell}
use Rattle.books.proofs.laws.Idle.{idle_is_next}
use Rattle.books.specs.Inner.{idle_next}

-- literals that were got are in order, so that a rule is idle just where two neighbours overlap
pub is_idle : (b ns : List ℕ) (from c e : ℕ) (d : Bool) → Ok e ≡ literals_of b ns from 0 (from + 3) c → d ≡ idle_next (literals_at b (from + 3) c) → d ≡ idle (literals_at b (from + 3) c)
is_idle b ns from c e d a i = i ∙ sym (idle_is_next 0 _ (literals_tell b ns from 0 (from + 3) c e (sym a)).ordered)

-- ---- what a rule that was got tells
pub record RuleGot (b ns : List ℕ) (family from e : ℕ) : Type 0 where
  pub mark : MarkGot b from 85 (from + 2)
  pub count : FieldGot b (from + 2) 0 (2 * length ns + 1) (get_or b (from + 2) 0)
  pub end : e ≡ end_at b from
  pub inside : e ≤ length b
  pub good : Good ns family (rule_at b from)

chosen : (i k : Bool) (f g : Fault) (e v : ℕ) → cond i (Err f) (cond k (Ok e) (Err g)) ≡ Ok v → (i ≡ false) × (k ≡ true) × (e ≡ v)
chosen true k f g e v h = no_value refl h
chosen false true f g e v h = (refl, refl, cc)
chosen false false f g e v h = no_value refl h

pub rule_tells : (b ns : List ℕ) (family from e : ℕ) → rule_of b ns family from ≡ Ok e → RuleGot b ns family from e
unfolding rule_of body_of
rule_tells b ns family from e h =
    let s₁ = chain (mark_of b from 85) _ e h in
    let m = mark_tells b from 85 s₁.0 s₁.1 in
    let s₂ = chain (field_of b from (from + 2) 0 (2 * length ns + 1)) _ e s₁.2 in
    let c = s₂.0 in
    let k = field_tells b from (from + 2) 0 (2 * length ns + 1) c s₂.1 in
    let s₃ = chain (literals_of b ns from 0 (from + 3) c) _ e s₂.2 in
    let x = literals_tell b ns from 0 (from + 3) c s₃.0 s₃.1 in
    let w = chosen (idle (literals_at b (from + 3) c)) (in_family family (literals_at b (from + 3) c)) (Idle from) (Family from) s₃.0 e s₃.2 in
    let u : get_or b (from + 2) 0 ≡ c = sym k.value in
    record {
      mark = record { inside = m.inside; first = m.first; second = m.second; next = refl };
      count = record { inside = k.inside; value = refl; low = omega arith; high = omega (arith, k.high, u) };
      end = omega (arith, w.2, x.end, u);
      inside = omega (arith, w.2, x.end, x.inside (omega (arith, k.inside)));
      good = rw u (record { short = omega (arith, literals_length b (from + 3) c, k.high); fit = x.fit; ordered = x.ordered; busy = w.0; kept = w.1 });
    }

-- ---- the loop over the rules: count - i of them are left, from p on
module _ (b ns : List ℕ) (family p count i : ℕ) where
  pub rules_fault : i < count → (f : Fault) → Err f ≡ rule_of b ns family p → rules_of b ns family p (count - i) ≡ Err f
  unfolding rules_of
  rules_fault h f e = let k : count - i ≡ suc (count - (i + 1)) = omega arith in rw (k, ← e)

  pub rules_on : i < count → (v : ℕ) → Ok v ≡ rule_of b ns family p → rules_of b ns family p (count - i) ≡ rules_of b ns family v (count - (i + 1))
  unfolding rules_of
  rules_on h v e = let k : count - i ≡ suc (count - (i + 1)) = omega arith in rw (k, ← e)

  pub rules_end : count ≤ i → rules_of b ns family p (count - i) ≡ Ok p
  unfolding rules_of
  rules_end h = let k : count - i ≡ 0 = omega arith in rw k

pub ruleset rules_loop = (rules_fault, rules_on, rules_end)
