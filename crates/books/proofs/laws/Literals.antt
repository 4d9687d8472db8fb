-- The literals of a rule: what a literal and literals that were got tell, and the loop over them.
use Prim.Native.Nat.{ℕ, zero, suc, ◌+◌, ◌*◌, ◌-◌, ◌≤◌, ◌<◌}
use native.Mathlib.Omega.{arith}
use native.Mathlib.Decide.{dec_lt}
use mathlib.Core.Path.{◌≡◌, refl, sym}
use mathlib.Core.Bool.{cond}
use mathlib.Core.List.{List}
use lib.Dec.{ltb}
use lib.ListN.{length, get_or}
use borrow.Author.Tests.{lt-ltb, le-ltb}
use Rattle.std.specs.Prelude.{Ok, Err}
use Rattle.books.specs.declared.Fault.{Fault}
use Rattle.books.specs.declared.Fault.TheVariants.{Order}
use Rattle.meaning.specs.Rules.{top_of, key_of, key, Fits, AllFit, Ordered}
use Rattle.meaning.specs.Bytes.{literal, literal_at, literals_at}
use Rattle.books.specs.Format.{field_of, order_of, bound_of, literal_of, literals_of}
use Rattle.books.proofs.laws.Fields.{no_value, chain, FieldGot, field_tells}

-- ---- what a literal that was got tells
pub record LiteralGot (b ns : List ℕ) (low p v : ℕ) : Type 0 where
  pub i : ℕ
  pub g : ℕ
  pub d : ℕ
  pub setting : FieldGot b p 0 (length ns) i
  pub sign : FieldGot b (p + 1) 0 2 g
  pub bound : FieldGot b (p + 2) g (top_of (get_or ns i 0) g) d
  pub after : low ≤ key_of i g
  pub next : v ≡ key_of i g + 1

pub literal_tells : (b ns : List ℕ) (from low p v : ℕ) → literal_of b ns from low p ≡ Ok v → LiteralGot b ns low p v
unfolding literal_of bound_of order_of
literal_tells b ns from low p v e =
    let s₁ = chain (field_of b from p 0 (length ns)) _ v e in
    let i = s₁.0 in
    let s₂ = chain (field_of b from (p + 1) 0 2) _ v s₁.2 in
    let g = s₂.0 in
    let s₃ = chain (field_of b from (p + 2) g (top_of (get_or ns i 0) g)) _ v s₂.2 in
    let d = s₃.0 in
    let k = last (key_of i g) s₃.2 in
    record {
      i = i;
      g = g;
      d = d;
      setting = field_tells b from p 0 (length ns) i s₁.1;
      sign = field_tells b from (p + 1) 0 2 g s₂.1;
      bound = field_tells b from (p + 2) g (top_of (get_or ns i 0) g) d s₃.1;
      after = k.0;
      next = k.1;
    }
  where
    last : (k : ℕ) → cond (ltb k low) (Err (Order p)) (Ok (k + 1)) ≡ Ok v → (low ≤ k) × (v ≡ k + 1)
    last k h = elim (dec_lt k low) [
      | yes t ↦ no_value refl (rw (lt-ltb k low t) at h)
      | no t ↦ (omega arith, let u = rw (le-ltb k low (omega arith)) at h in cc)
    ]

-- ---- the loop over the literals of a rule: c - k of them are left
pub record LiteralsAt (b ns : List ℕ) (from c low p k : ℕ) : Type 0 where
  pub whole : literals_of b ns from 0 (from + 3) c ≡ literals_of b ns from low p (c - k)
  pub place : p ≡ from + 3 + 3 * k
  pub inside : p ≤ length b

module _ (b ns : List ℕ) (from low p c k : ℕ) where
  pub literals_fault : k < c → (f : Fault) → Err f ≡ literal_of b ns from low p → literals_of b ns from low p (c - k) ≡ Err f
  unfolding literals_of
  literals_fault h f e = let m : c - k ≡ suc (c - (k + 1)) = omega arith in rw (m, ← e)

  pub literals_on : k < c → (v : ℕ) → Ok v ≡ literal_of b ns from low p → literals_of b ns from low p (c - k) ≡ literals_of b ns from v (p + 3) (c - (k + 1))
  unfolding literals_of
  literals_on h v e = let m : c - k ≡ suc (c - (k + 1)) = omega arith in rw (m, ← e)

  pub literals_end : c ≤ k → literals_of b ns from low p (c - k) ≡ Ok p
  unfolding literals_of
  literals_end h = let m : c - k ≡ 0 = omega arith in rw m

pub ruleset literals_loop = (literals_fault, literals_on, literals_end)

-- ---- what literals that were got tell
pub record LiteralsGot (b ns : List ℕ) (low p k e : ℕ) : Type 0 where
  pub end : e ≡ p + 3 * k
  pub inside : p ≤ length b → p + 3 * k ≤ length b
  pub ordered : Ordered low (literals_at b p k)
  pub fit : AllFit ns (literals_at b p k)

literal_fits : (ns : List ℕ) (g i d : ℕ) → g < 2 → i < length ns → g ≤ d → d < top_of (get_or ns i 0) g → Fits ns (literal g i d) × (key (literal g i d) ≡ key_of i g)
literal_fits ns zero i d h k l t = (record { known = k; low = l; high = t }, refl)
literal_fits ns (suc zero) i d h k l t = (record { known = k; low = l; high = t }, refl)
literal_fits ns (suc (suc g)) i d h k l t = absurd (omega arith)

-- the literal that was got, as the bytes have it
pub got_fits : (b ns : List ℕ) (low p v : ℕ) → LiteralGot b ns low p v → Fits ns (literal_at b p) × (low ≤ key (literal_at b p)) × (v ≡ key (literal_at b p) + 1)
got_fits b ns low p v t =
    let ei : get_or b p 0 ≡ t.i = sym t.setting.value in
    let eg : get_or b (p + 1) 0 ≡ t.g = sym t.sign.value in
    let ed : get_or b (p + 2) 0 ≡ t.d = sym t.bound.value in
    let u = literal_fits ns t.g t.i t.d t.sign.high t.setting.high t.bound.low t.bound.high in
    rw (ei, eg, ed) (u.0, omega (arith, u.1, t.after), omega (arith, u.1, t.next))

pub literals_tell : (b ns : List ℕ) (from low p k e : ℕ) → literals_of b ns from low p k ≡ Ok e → LiteralsGot b ns low p k e
unfolding literals_of literals_at
literals_tell b ns from low p zero e h = let u : e ≡ p = cc in record { end = omega arith; inside = λ t. omega arith; ordered = tt; fit = tt }
literals_tell b ns from low p (suc k) e h =
    let s = chain (literal_of b ns from low p) _ e h in
    let t = literal_tells b ns from low p s.0 s.1 in
    let u = got_fits b ns low p s.0 t in
    let m = literals_tell b ns from s.0 (p + 3) k e s.2 in
    record {
      end = omega (arith, m.end);
      inside = λ i. omega (arith, m.inside (omega (arith, t.bound.inside)));
      ordered = (u.1, rw (← u.2) m.ordered);
      fit = (u.0, m.fit);
    }
