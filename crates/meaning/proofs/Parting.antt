-- Parting: two rows of one length, by the setting at which they part.
use Prim.Native.Nat.{ℕ, zero, suc, ◌≤◌, ◌<◌}
use native.Mathlib.Omega.{arith}
use mathlib.Core.Path.{◌≡◌, refl, sym, ap}
use mathlib.Core.Logic.{inl, inr}
use mathlib.Core.Bool.{Bool, true, false, cond, ◌&&◌, ◌||◌}
use mathlib.Core.List.{[], ◌∷◌}
use lib.Dec.{T, ltb, eqb, ltb→lt}
use lib.ListN.{length, get_or-eq_default}
use borrow.Author.Tests.{eqb-true}
use Rattle.meaning.specs.Rows.{Row, at, before}
use Rattle.meaning.specs.General.{split}
use Rattle.meaning.proofs.Tests.{lt_or_le, or_e}
use Rattle.meaning.proofs.Asked.{Agree}

-- a and b agree before the place, and there a is less
pub record Less (a b : Row) : Type 0 where
  pub place : ℕ
  pub agree : Agree place a b
  pub less : at a place < at b place

pub less_inside : (a b : Row) (p : Less a b) → p.place < length b
less_inside a b p = elim (lt_or_le p.place (length b)) [
  | inl h ↦ h
  | inr h ↦ absurd (omega (arith, p.less, get_or-eq_default b 0 h))
]

pub less_irrefl : (a : Row) → ¬ Less a a
less_irrefl a p = omega arith

-- up to the place, a is at most b
less_le : (a b : Row) (p : Less a b) (j : ℕ) → j ≤ p.place → at a j ≤ at b j
less_le a b p j h = elim (lt_or_le j p.place) [
  | inl k ↦ omega (arith, p.agree j k)
  | inr k ↦ let e : j ≡ p.place = omega arith in rw e (omega arith)
]

pub less_trans : (a b c : Row) → Less a b → Less b c → Less a c
less_trans a b c p q = elim (lt_or_le p.place q.place) [
  | inl h ↦ record {
    place = p.place;
    agree = λ k l. omega (arith, p.agree k l, q.agree k (omega arith));
    less = omega (arith, p.less, q.agree p.place h);
  }
  | inr h ↦ record {
    place = q.place;
    agree = λ k l. omega (arith, p.agree k (omega arith), q.agree k l);
    less = omega (arith, less_le a b p q.place h, q.less);
  }
]

pub less_asym : (a b : Row) → Less a b → ¬ Less b a
less_asym a b p q = less_irrefl a (less_trans a b a p q)

agree_cons : (u v : ℕ) (a b : Row) (i : ℕ) → u ≡ v → Agree i a b → Agree (suc i) (u ∷ a) (v ∷ b)
agree_cons u v a b i e g zero h = e
agree_cons u v a b i e g (suc j) h = g j (omega arith)

less_cons : (u v : ℕ) (a b : Row) → u ≡ v → Less a b → Less (u ∷ a) (v ∷ b)
less_cons u v a b e p = record { place = suc p.place; agree = agree_cons u v a b p.place e p.agree; less = p.less }

less_head : (u v : ℕ) (a b : Row) → u < v → Less (u ∷ a) (v ∷ b)
less_head u v a b h = record { place = 0; agree = λ j l. absurd (omega arith); less = h }

-- ---- two rows of one length are equal, or one is less

pub data Compared (a b : Row) : Type 0 where
  lower : Less a b → Compared a b
  equal : a ≡ b → Compared a b
  upper : Less b a → Compared a b

compared_cons : (u v : ℕ) (a b : Row) → u ≡ v → Compared a b → Compared (u ∷ a) (v ∷ b)
compared_cons u v a b e (lower p) = lower (less_cons u v a b e p)
compared_cons u v a b e (equal p) = equal (λ i. e i ∷ p i)
compared_cons u v a b e (upper p) = upper (less_cons v u b a (sym e) p)

pub compare : (a b : Row) → length a ≡ length b → Compared a b
compare [] [] e = equal refl
compare [] (v ∷ b) e = absurd (omega arith)
compare (u ∷ a) [] e = absurd (omega arith)
compare (u ∷ a) (v ∷ b) e = elim (lt_or_le u v) [
  | inl h ↦ lower (less_head u v a b h)
  | inr h ↦ elim (lt_or_le v u) [
    | inl k ↦ upper (less_head v u b a k)
    | inr k ↦ compared_cons u v a b (omega arith) (compare a b (omega arith))
  ]
]

-- ---- rows in order part at their split

split_at : (u v : ℕ) (a b : Row) (t : Bool) → eqb u v ≡ t → (T (before a b) → (p : Less a b) × (p.place ≡ split a b))
    → T (ltb u v || (t && before a b)) → (p : Less (u ∷ a) (v ∷ b)) × (p.place ≡ cond t (suc (split a b)) 0)
unfolding less_head less_cons
split_at u v a b true e f h = elim (or_e (ltb u v) (before a b) h) [
  | inl t ↦ absurd (omega (arith, ltb→lt u v t, eqb-true u v e))
  | inr t ↦ (less_cons u v a b (eqb-true u v e) (f t).0, ap suc (f t).1)
]
split_at u v a b false e f h = elim (or_e (ltb u v) false h) [
  | inl t ↦ (less_head u v a b (ltb→lt u v t), refl)
  | inr t ↦ absurd t
]

before_split : (a b : Row) → length a ≡ length b → T (before a b) → (p : Less a b) × (p.place ≡ split a b)
unfolding before split
before_split [] [] e h = absurd h
before_split [] (v ∷ b) e h = absurd (omega arith)
before_split (u ∷ a) [] e h = absurd h
before_split (u ∷ a) (v ∷ b) e h = split_at u v a b (eqb u v) refl (before_split a b (omega arith)) h

module _ (a b : Row) (e : length a ≡ length b) (t : T (before a b)) where
  pub split_agree : Agree (split a b) a b
  split_agree = let r = before_split a b e t in rw (← r.1) r.0.agree

  pub split_less : at a (split a b) < at b (split a b)
  split_less = let r = before_split a b e t in rw (← r.1) r.0.less

  -- its place is the split by computation
  abbrev pub before_less : Less a b
  before_less = record { place = split a b; agree = split_agree; less = split_less }
