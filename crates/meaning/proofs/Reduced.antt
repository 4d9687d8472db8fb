-- Reduced: what is left of rules from which literals are left out, and when exactly the same rows still meet them.
use mathlib.Core.Path.{refl}
use mathlib.Core.Logic.{◌↔◌, inl, inr}
use mathlib.Core.List.Memᴰ
use mathlib.Core.List.{List, [], ◌∷◌, ◌++◌, map, Memᴰ}
use lib.Dec.{T}
use Rattle.meaning.specs.Rows.{Row}
use Rattle.meaning.specs.Rules.{Rule, met, all_met, Part, done, skip, hold, Parts, ended, next}
use Rattle.meaning.specs.Families.{met_by_all}
use Rattle.meaning.proofs.Tests.{T_and}
use Rattle.meaning.proofs.MetLaws.{met_cons, all_met_cons}

pub part_all : (r : Rule) → Part r r
part_all [] = done
part_all (l ∷ r) = hold (part_all r)

pub part_append : (p : Rule) {r s : Rule} → Part r s → Part (p ++ r) (p ++ s)
part_append [] h = h
part_append (l ∷ p) h = hold (part_append p h)

pub part_trans : {r s t : Rule} → Part s t → Part r s → Part r t
part_trans done p = p
part_trans (skip q) p = skip (part_trans q p)
part_trans (hold q) (skip p) = skip (part_trans q p)
part_trans (hold q) (hold p) = hold (part_trans q p)

pub part_met : (r s : Rule) (x : Row) → Part r s → T (met r x) → T (met s x)
part_met r s x done t = t
part_met r s x (skip {l = l} {s = s'} p) t = (met_cons l s' x).1 (inr (part_met r s' x p t))
part_met r s x (hold {l = l} {r = r'} {s = s'} p) t = elim ((met_cons l r' x).0 t) [
  | inl h ↦ (met_cons l s' x).1 (inl h)
  | inr h ↦ (met_cons l s' x).1 (inr (part_met r' s' x p h))
]

-- ---- all rows meet a rule, or all rules

abbrev pub RowsMeet : List Row → Rule → Type 0
RowsMeet rows r = (m : Row) → Memᴰ m rows → T (met r m)

abbrev pub RowsMeetAll : List Row → List Rule → Type 0
RowsMeetAll rows rs = (m : Row) → Memᴰ m rows → T (all_met rs m)

pub met_by_all_mem : (r : Rule) (rows : List Row) → T (met_by_all r rows) ↔ RowsMeet rows r
unfolding met_by_all
met_by_all_mem r [] = (λ t m h. absurd (Memᴰ.not-nil h), λ f. tt)
met_by_all_mem r (y ∷ rows) = simp (T_and, met_by_all_mem r rows) (
  λ p m h. elim (Memᴰ.cases_cons h) [ inl e ↦ rw e p.0 | inr k ↦ p.1 m k ],
  λ g. (g y (Memᴰ.head refl), λ m h. g m (Memᴰ.tail h)),
)

-- ---- each rule of a list reduced by f

module _ (f : Rule → Rule) (part : (r : Rule) → Part (f r) r) where
  pub reduced_parts : (rs : List Rule) → Parts (map f rs) rs
  reduced_parts [] = ended
  reduced_parts (r ∷ rs) = next (part r) (reduced_parts rs)

  -- what meets the reduced rules meets the rules
  pub reduced_met : (rs : List Rule) (x : Row) → T (all_met (map f rs) x) → T (all_met rs x)
  unfolding all_met
  reduced_met [] x t = tt
  reduced_met (r ∷ rs) x t = let p = (all_met_cons (f r) (map f rs) x).0 t in (all_met_cons r rs x).1 (part_met (f r) r x (part r) p.0, reduced_met rs x p.1)

module _ (rows : List Row) (f : Rule → Rule) (stays : (r : Rule) → RowsMeet rows r → RowsMeet rows (f r)) where
  -- rows that all meet the rules all meet the reduced ones
  pub reduced_stays : (rs : List Rule) → RowsMeetAll rows rs → RowsMeetAll rows (map f rs)
  unfolding all_met
  reduced_stays [] g m h = tt
  reduced_stays (r ∷ rs) g m h = (all_met_cons (f r) (map f rs) m).1 (
    stays r (λ k z. ((all_met_cons r rs k).0 (g k z)).0) m h,
    reduced_stays rs (λ k z. ((all_met_cons r rs k).0 (g k z)).1) m h,
  )
