-- Ruled: what decides below a prefix: of each group of places of rules a front part, and a run of rules in the book's own order.
use Prim.Native.Nat.{ℕ, ◌+◌, ◌≤◌, ◌<◌}
use native.Mathlib.Omega.{arith}
use mathlib.Core.Path.{◌≡◌, refl, sym, ap, ◌∙◌}
use mathlib.Core.Bool.{Bool}
use mathlib.Core.Logic.{inl, inr}
use mathlib.Core.List.{List, [], ◌∷◌, ◌++◌}
use lib.ListN.{length, get_or}
use Rattle.meaning.specs.Rows.{Row}
use Rattle.meaning.specs.Bytes.{rule_at}
use Rattle.meaning.specs.Listing.{dead}
use Rattle.meaning.proofs.Tests.{lt_or_le}
use Rattle.listing.specs.Inner.{Stirred, Laid, Within, Kept, Ruled}
use Rattle.listing.proofs.laws.Parting.{eq_or}

pub kept_same : (s e p : List ℕ) → Kept s e p p
kept_same s e p = record {
  long = refl;
  rest = λ g i h k l m. refl;
  there = λ g i h k l. record { at = i; above = k; under = l; is = refl };
  back = λ g i h k l. record { at = i; above = k; under = l; is = refl };
}

pub kept_on : (s e p q r : List ℕ) → Kept s e p q → Kept s e q r → Kept s e p r
kept_on s e p q r a c = record {
  long = c.long ∙ a.long;
  rest = λ g i h k l m. c.rest g i h k l m ∙ a.rest g i h k l m;
  there = λ g i h k l.
      let x = a.there g i h k l in
      let y = c.there g x.at h x.above x.under in
      record { at = y.at; above = y.above; under = y.under; is = y.is ∙ x.is };
  back = λ g i h k l.
      let x = c.back g i h k l in
      let y = a.back g x.at h x.above x.under in
      record { at = y.at; above = y.above; under = y.under; is = y.is ∙ x.is };
}

-- the same for longer fronts
pub kept_wider : (s e f p q : List ℕ) → (n : ℕ) → Laid s f n → Within e f → Kept s e p q → Kept s f p q
kept_wider s e f p q n l w a = record {
  long = a.long;
  rest = λ g i h k m o. a.rest g i h (omega (arith, w.under g h)) m o;
  there = λ g i h k m. elim (lt_or_le i (get_or e g 0)) [
    | inl o ↦
        let x = a.there g i h k o in
        record { at = x.at; above = x.above; under = omega (arith, x.under, w.under g h); is = x.is }
    | inr o ↦ record { at = i; above = k; under = m; is = a.rest g i h o k (omega (arith, l.front g h)) }
  ];
  back = λ g i h k m. elim (lt_or_le i (get_or e g 0)) [
    | inl o ↦
        let x = a.back g i h k o in
        record { at = x.at; above = x.above; under = omega (arith, x.under, w.under g h); is = x.is }
    | inr o ↦ record { at = i; above = k; under = m; is = sym (a.rest g i h o k (omega (arith, l.front g h))) }
  ];
}

-- one front stirred
pub kept_stirred : (s e p q : List ℕ) (n g : ℕ) → g < 16 → Laid s e n → Stirred p q (get_or s g 0) (get_or e g 0) → Kept s e p q
kept_stirred s e p q n g h l a = record {
  long = a.long;
  rest = λ f i k m o r. elim (eq_or f g) [
    | inl z ↦ a.high i (rw z at m)
    | inr z ↦ outside f i k z o r
  ];
  there = λ f i k m o. elim (eq_or f g) [
    | inl z ↦ rw z (a.there i (rw z at m) (rw z at o))
    | inr z ↦ record { at = i; above = m; under = o; is = outside f i k z m (omega (arith, l.front f k)) }
  ];
  back = λ f i k m o. elim (eq_or f g) [
    | inl z ↦ rw z (a.back i (rw z at m) (rw z at o))
    | inr z ↦ record { at = i; above = m; under = o; is = sym (outside f i k z m (omega (arith, l.front f k))) }
  ];
}
  where
    outside : (f i : ℕ) → f < 16 → (f ≡ g → ⊥) → get_or s f 0 ≤ i → i < get_or s (f + 1) 0 → get_or q i 0 ≡ get_or p i 0
    outside f i k z m o = elim (lt_or_le f g) [
      | inl r ↦ a.low i (omega (arith, l.apart f g r h))
      | inr r ↦ a.high i (omega (arith, l.front g h, l.apart g f (omega arith) k))
    ]

-- ---- what the entries say

module _ (b : List ℕ) (d : Row → Bool) (x : Row) (s e : List ℕ) (at k : ℕ) where
  pub ruled_kept : (p q : List ℕ) → Kept s e p q → Ruled b d x p s e at k → Ruled b d x q s e at k
  ruled_kept p q a r = record {
    few = r.few;
    stand = r.stand;
    tells = r.tells;
    entries = λ g i h m o. let z = a.back g i h m o in rw (sym z.is) (r.entries g z.at h z.above z.under);
    covers = λ y v h m o. elim (r.covers y v h m o) [
      | inl t ↦
          let z = a.there (length (x ++ y)) t.at h t.above t.under in
          inl (record { at = z.at; above = z.above; under = z.under; kills = ap (λ (n : ℕ). dead (rule_at b n ∷ []) ((x ++ y) ++ (v ∷ []))) z.is ∙ t.kills })
      | inr t ↦ inr t
    ];
  }
