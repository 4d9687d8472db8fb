-- Extreme: of a table that is closed under conjunction, the rows that met a rule all meet it reduced to Horn. What says which
-- positive literal stays, the minimum of the rows that meet no negative one, is itself such a row. Dual Horn is the same proof.
use mathlib.Core.Path.{refl}
use mathlib.Core.Logic.{◌⊎◌, inl, inr}
use mathlib.Core.Bool.{cond}
use mathlib.Core.List.Memᴰ
use mathlib.Core.List.{List, [], ◌∷◌, Memᴰ}
use mathlib.Core.Option.{Option, none, some}
use lib.Dec.{T}
use Rattle.meaning.specs.Rows.{Row}
use Rattle.meaning.specs.Rules.{Literal, Rule, Side, holds, met, scarce, horn}
use Rattle.meaning.specs.Families.{both, common, common_and, join, extreme, keep_for, reduce}
use Rattle.meaning.specs.Closed.{Closed}
use Rattle.meaning.proofs.Tests.{is, isnt, case, yes_of, no_of, or_e}
use Rattle.meaning.proofs.MetLaws.{met_nil, met_cons}
use Rattle.meaning.proofs.Combined.{scarce_both, common_both}
use Rattle.meaning.proofs.Reduced.{RowsMeet}

module _ (s : Side) where
  -- ---- what m keeps of a rule, another row meets

  -- a meets all the scarce literals that m meets
  abbrev Below : Row → Row → Type 0
  Below m a = (l : Literal) → T (scarce s l) → T (holds l m) → T (holds l a)

  common_and_common : (m : Row) (r : Rule) (a : Row) → T (met (common s r) a) → T (met (common_and s m r) a)
  unfolding common_and common
  common_and_common m [] a t = t
  common_and_common m (l ∷ r) a t = elim (case (scarce s l)) [
    | is e ↦ rw e (elim (case (holds l m)) [
      | is f ↦ rw f ((met_cons l (common s r) a).1 (inr (rw e at t)))
      | isnt f ↦ rw f (common_and_common m r a (rw e at t))
    ])
    | isnt e ↦ rw e (elim ((met_cons l (common s r) a).0 (rw e at t)) [
      | inl h ↦ (met_cons l (common_and s m r) a).1 (inl h)
      | inr h ↦ (met_cons l (common_and s m r) a).1 (inr (common_and_common m r a h))
    ])
  ]

  common_and_below : (m : Row) (r : Rule) (a : Row) → Below m a → T (met r m) → (¬ T (met (common s r) m)) → T (met (common_and s m r) a)
  unfolding common_and common
  common_and_below m [] a b t n = absurd (met_nil m t)
  common_and_below m (l ∷ r) a b t n = elim (case (scarce s l)) [
    | is e ↦ rw e (elim (case (holds l m)) [
      | is f ↦ rw f ((met_cons l (common s r) a).1 (inl (b l (yes_of _ e) (yes_of _ f))))
      | isnt f ↦ rw f (elim ((met_cons l r m).0 t) [ inl h ↦ absurd (no_of _ f h) | inr h ↦ common_and_below m r a b h (rw e at n) ])
    ])
    | isnt e ↦
        let n' : ¬ T (met (l ∷ common s r) m) = rw e at n in
        rw e ((met_cons l (common_and s m r) a).1 (elim ((met_cons l r m).0 t) [
          | inl h ↦ absurd (n' ((met_cons l (common s r) m).1 (inl h)))
          | inr h ↦ inr (common_and_below m r a b h (λ z. n' ((met_cons l (common s r) m).1 (inr z))))
        ]))
  ]

  -- what meets no common literal at two rows meets none at their combination
  common_not : (r : Rule) (a b : Row) → (¬ T (met (common s r) a)) → (¬ T (met (common s r) b)) → ¬ T (met (common s r) (both s a b))
  unfolding common
  common_not [] a b m n = met_nil _
  common_not (l ∷ r) a b m n = elim (case (scarce s l)) [
    | is e ↦ rw e (common_not r a b (rw e at m) (rw e at n))
    | isnt e ↦
        let m' : ¬ T (met (l ∷ common s r) a) = rw e at m in
        let n' : ¬ T (met (l ∷ common s r) b) = rw e at n in
        rw e (λ t. elim ((met_cons l (common s r) (both s a b)).0 t) [
          | inl h ↦ elim (or_e (holds l a) (holds l b) ((common_both s l a b (no_of _ e)).0 h)) [
            | inl k ↦ m' ((met_cons l (common s r) a).1 (inl k))
            | inr k ↦ n' ((met_cons l (common s r) b).1 (inl k))
          ]
          | inr h ↦ common_not r a b (λ z. m' ((met_cons l (common s r) a).1 (inr z))) (λ z. n' ((met_cons l (common s r) b).1 (inr z))) h
        ])
  ]

  -- ---- the combination of all rows that meet no common literal

  module _ (r : Rule) (rows : List Row) (closed : Closed s rows) where
    -- it is a row, and meets none either
    abbrev Unmet : Option Row → Type 0
    Unmet none = Unit {0}
    Unmet (some m) = Memᴰ m rows × (¬ T (met (common s r) m))

    -- a meets a common literal, or all the scarce ones that it meets
    abbrev Reaches : Option Row → Row → Type 0
    Reaches none a = T (met (common s r) a)
    Reaches (some m) a = T (met (common s r) a) ⊎ Below m a

    join_unmet : (k : Option Row) (m : Row) → Unmet k → Memᴰ m rows → (¬ T (met (common s r) m)) → Unmet (join s k m)
    unfolding join
    join_unmet none m g h n = (h, n)
    join_unmet (some k) m g h n = (closed k m g.0 h, common_not r k m g.1 n)

    below_left : (k m a : Row) → Below k a → Below (both s k m) a
    below_left k m a b l t h = b l t ((scarce_both s l k m t).0 h).0

    join_reaches : (k : Option Row) (m a : Row) → Reaches k a → Reaches (join s k m) a
    unfolding join
    join_reaches none m a c = inl c
    join_reaches (some k) m a (inl t) = inl t
    join_reaches (some k) m a (inr b) = inr (below_left k m a b)

    join_last : (k : Option Row) (m : Row) → Reaches (join s k m) m
    unfolding join
    join_last none m = inr (λ l t h. h)
    join_last (some k) m = inr (λ l t h. ((scarce_both s l k m t).0 h).1)

    met_reaches : (k : Option Row) (a : Row) → T (met (common s r) a) → Reaches k a
    met_reaches none a t = t
    met_reaches (some m) a t = inl t

    extreme_unmet : (k : Option Row) (ms : List Row) → Unmet k → ((m : Row) → Memᴰ m ms → Memᴰ m rows) → Unmet (extreme s (common s r) k ms)
    unfolding extreme
    extreme_unmet k [] g f = g
    extreme_unmet k (m ∷ ms) g f = extreme_unmet (cond (met (common s r) m) k (join s k m)) ms (elim (case (met (common s r) m)) [
      | is e ↦ rw e g
      | isnt e ↦ rw e (join_unmet k m g (f m (Memᴰ.head refl)) (no_of _ e))
    ]) (λ a h. f a (Memᴰ.tail h))

    extreme_keeps : (k : Option Row) (ms : List Row) (a : Row) → Reaches k a → Reaches (extreme s (common s r) k ms) a
    unfolding extreme
    extreme_keeps k [] a c = c
    extreme_keeps k (m ∷ ms) a c = extreme_keeps (cond (met (common s r) m) k (join s k m)) ms a (elim (case (met (common s r) m)) [
      | is e ↦ rw e c
      | isnt e ↦ rw e (join_reaches k m a c)
    ])

    extreme_reaches : (k : Option Row) (ms : List Row) (a : Row) → Memᴰ a ms → Reaches (extreme s (common s r) k ms) a
    unfolding extreme
    extreme_reaches k [] a h = absurd (Memᴰ.not-nil h)
    extreme_reaches k (m ∷ ms) a h = elim (Memᴰ.cases_cons h) [
      | inl q ↦ extreme_keeps (cond (met (common s r) m) k (join s k m)) ms a (rw q (elim (case (met (common s r) m)) [
        | is e ↦ rw e (met_reaches k m (yes_of _ e))
        | isnt e ↦ rw e (join_last k m)
      ]))
      | inr z ↦ extreme_reaches (cond (met (common s r) m) k (join s k m)) ms a z
    ]

    keep_for_met : (k : Option Row) (a : Row) → Unmet k → Reaches k a → RowsMeet rows r → T (met (keep_for s r k) a)
    unfolding keep_for
    keep_for_met none a g c f = c
    keep_for_met (some m) a g (inl t) f = common_and_common m r a t
    keep_for_met (some m) a g (inr b) f = common_and_below m r a b (f m g.0) g.1

  pub reduce_stays : (rows : List Row) → Closed s rows → (r : Rule) → RowsMeet rows r → RowsMeet rows (reduce s rows r)
  unfolding reduce
  reduce_stays rows closed r f m h = elim (case (horn s r)) [
    | is e ↦ rw e (f m h)
    | isnt e ↦ rw e (keep_for_met r rows closed (extreme s (common s r) none rows) m (extreme_unmet r rows closed none rows tt (λ a z. z)) (extreme_reaches r rows closed none rows m h) f)
  ]
