-- Median: of a table that is closed under median, a rule from which no literal can be dropped has at most two.
use Prim.Native.Nat.{ℕ, zero, suc, ◌<◌}
use native.Mathlib.Omega.{arith}
use mathlib.Core.Path.{◌≡◌, refl}
use mathlib.Core.Logic.{◌⊎◌, inl, inr}
use mathlib.Core.List.{List, [], ◌∷◌, ◌++◌, append_assoc, append-nil, Memᴰ}
use lib.Dec.{T}
use lib.ListN.{length, length-append}
use Rattle.meaning.specs.Rows.{Row}
use Rattle.meaning.specs.Rules.{Literal, Rule, holds, met, bijunctive, Part, skip}
use Rattle.meaning.specs.Families.{median, met_by_all, trim}
use Rattle.meaning.specs.Closed.{MedianClosed}
use Rattle.meaning.proofs.Tests.{is, isnt, case, yes_of, no_of, lt_or_le}
use Rattle.meaning.proofs.MetLaws.{met_nil, met_cons}
use Rattle.meaning.proofs.Combined.{first_second, first_third, second_third, median_two}
use Rattle.meaning.proofs.Reduced.{part_all, part_append, part_trans, part_met, RowsMeet, met_by_all_mem}

-- ---- what is kept is a part, and is met by all rows

module _ (rows : List Row) where
  pub trim_part : (kept rest : Rule) → Part (trim rows kept rest) (kept ++ rest)
  unfolding trim
  trim_part kept [] = rw append-nil (part_all kept)
  trim_part kept (l ∷ rest) = elim (case (met_by_all (kept ++ rest) rows)) [
    | is e ↦ rw e (part_trans (part_append kept (skip (part_all rest))) (trim_part kept rest))
    | isnt e ↦ rw e (rw append_assoc at (trim_part (kept ++ (l ∷ [])) rest))
  ]

  trim_met : (kept rest : Rule) → T (met_by_all (kept ++ rest) rows) → T (met_by_all (trim rows kept rest) rows)
  unfolding trim
  trim_met kept [] t = rw append-nil at t
  trim_met kept (l ∷ rest) t = elim (case (met_by_all (kept ++ rest) rows)) [
    | is e ↦ rw e (trim_met kept rest (yes_of _ e))
    | isnt e ↦ rw e (trim_met (kept ++ (l ∷ [])) rest (rw append_assoc t))
  ]

-- ---- no literal of what is kept can be dropped

-- a rule without its literal number i
unfoldable without : Rule → ℕ → Rule
without [] i = []
without (l ∷ r) zero = r
without (l ∷ r) (suc i) = l ∷ without r i

without_early : (r s : Rule) (i : ℕ) → i < length r → without (r ++ s) i ≡ without r i ++ s
unfolding without
without_early [] s i h = absurd (omega arith)
without_early (l ∷ r) s zero h = refl
without_early (l ∷ r) s (suc i) h = rw (without_early r s i (omega arith))

without_last : (r : Rule) (l : Literal) (i : ℕ) → i ≡ length r → without (r ++ (l ∷ [])) i ≡ r
unfolding without
without_last [] l zero e = refl
without_last [] l (suc i) e = absurd (omega arith)
without_last (k ∷ r) l zero e = absurd (omega arith)
without_last (k ∷ r) l (suc i) e = rw (without_last r l i (omega arith))

module _ (rows : List Row) where
  -- no literal of kept can be dropped from kept ++ rest
  abbrev Needed : Rule → Rule → Type 0
  Needed kept rest = (i : ℕ) → i < length kept → ¬ T (met_by_all (without kept i ++ rest) rows)

  met_by_all_part : (r s : Rule) → Part r s → T (met_by_all r rows) → T (met_by_all s rows)
  met_by_all_part r s p t = (met_by_all_mem s rows).1 (λ m h. part_met r s m p ((met_by_all_mem r rows).0 t m h))

  needed_keep : (kept : Rule) (l : Literal) (rest : Rule) → Needed kept (l ∷ rest) → (¬ T (met_by_all (kept ++ rest) rows)) → Needed (kept ++ (l ∷ [])) rest
  needed_keep kept l rest f n i h = elim (lt_or_le i (length kept)) [
    | inl k ↦ rw (without_early kept (l ∷ []) i k, append_assoc) (f i k)
    | inr k ↦ rw (without_last kept l i (omega (arith, length-append kept (l ∷ [])))) n
  ]

  trim_needed : (kept rest : Rule) → Needed kept rest → Needed (trim rows kept rest) []
  unfolding trim
  trim_needed kept [] f = f
  trim_needed kept (l ∷ rest) f = elim (case (met_by_all (kept ++ rest) rows)) [
    | is e ↦ rw e (trim_needed kept rest (λ i h t. f i h (met_by_all_part _ _ (part_append (without kept i) (skip (part_all rest))) t)))
    | isnt e ↦ rw e (trim_needed (kept ++ (l ∷ [])) rest (needed_keep kept l rest f (no_of _ e)))
  ]

-- ---- three literals that cannot be dropped make a median that meets none

failing : (r : Rule) (rows : List Row) → (¬ T (met_by_all r rows)) → (m : Row) × Memᴰ m rows × (¬ T (met r m))
unfolding met_by_all
failing r [] n = absurd (n tt)
failing r (m ∷ rows) n = elim (case (met r m)) [
  | is e ↦ let z = failing r rows (λ t. n (rw e t)) in (z.0, Memᴰ.tail z.1, z.2)
  | isnt e ↦ (m, Memᴰ.head refl, no_of _ e)
]

met_median : (r : Rule) (a b c : Row) → T (met r (median a b c)) → T (met r a) ⊎ T (met r b)
met_median [] a b c t = absurd (met_nil _ t)
met_median (l ∷ r) a b c t = elim ((met_cons l r (median a b c)).0 t) [
  | inl h ↦ elim ((median_two l a b c).0 h) [
    | first_second p q ↦ inl ((met_cons l r a).1 (inl p))
    | first_third p q ↦ inl ((met_cons l r a).1 (inl p))
    | second_third p q ↦ inr ((met_cons l r b).1 (inl p))
  ]
  | inr h ↦ elim (met_median r a b c h) [ inl k ↦ inl ((met_cons l r a).1 (inr k)) | inr k ↦ inr ((met_cons l r b).1 (inr k)) ]
]

not_cons : (l : Literal) (r : Rule) (x : Row) → (¬ T (met (l ∷ r) x)) → (¬ T (holds l x)) × (¬ T (met r x))
not_cons l r x n = (λ h. n ((met_cons l r x).1 (inl h)), λ h. n ((met_cons l r x).1 (inr h)))

apart : (l k j : Literal) (r : Rule) (a b c : Row)
    → (¬ T (met (k ∷ j ∷ r) a)) → (¬ T (met (l ∷ j ∷ r) b)) → (¬ T (met (l ∷ k ∷ r) c)) → ¬ T (met (l ∷ k ∷ j ∷ r) (median a b c))
apart l k j r a b c na nb nc t =
    let (ka, na') = not_cons k (j ∷ r) a na in
    let (ja, ra) = not_cons j r a na' in
    let (lb, nb') = not_cons l (j ∷ r) b nb in
    let (jb, rb) = not_cons j r b nb' in
    let (lc, nc') = not_cons l (k ∷ r) c nc in
    let (kc, rc) = not_cons k r c nc' in
    elim ((met_cons l (k ∷ j ∷ r) (median a b c)).0 t) [
      | inl h ↦ elim ((median_two l a b c).0 h) [ first_second p q ↦ lb q | first_third p q ↦ lc q | second_third p q ↦ lb p ]
      | inr u ↦ elim ((met_cons k (j ∷ r) (median a b c)).0 u) [
        | inl h ↦ elim ((median_two k a b c).0 h) [ first_second p q ↦ ka p | first_third p q ↦ ka p | second_third p q ↦ kc q ]
        | inr v ↦ elim ((met_cons j r (median a b c)).0 v) [
          | inl h ↦ elim ((median_two j a b c).0 h) [ first_second p q ↦ ja p | first_third p q ↦ ja p | second_third p q ↦ jb p ]
          | inr w ↦ elim (met_median r a b c w) [ inl h ↦ ra h | inr h ↦ rb h ]
        ]
      ]
    ]

module _ (rows : List Row) (closed : MedianClosed rows) where
  three : (l k j : Literal) (r : Rule) → Needed rows (l ∷ k ∷ j ∷ r) [] → RowsMeet rows (l ∷ k ∷ j ∷ r) → ⊥
  unfolding without
  three l k j r f g =
      let (a, ha, na) = failing (k ∷ j ∷ r) rows (rw append-nil at (f 0 (omega arith))) in
      let (b, hb, nb) = failing (l ∷ j ∷ r) rows (rw append-nil at (f 1 (omega arith))) in
      let (c, hc, nc) = failing (l ∷ k ∷ r) rows (rw append-nil at (f 2 (omega arith))) in
      apart l k j r a b c na nb nc (g (median a b c) (closed a b c ha hb hc))

  needed_two : (r : Rule) → Needed rows r [] → RowsMeet rows r → T (bijunctive r)
  unfolding bijunctive
  needed_two [] f g = tt
  needed_two (l ∷ []) f g = tt
  needed_two (l ∷ k ∷ []) f g = tt
  needed_two (l ∷ k ∷ j ∷ r) f g = absurd (three l k j r f g)

pub trim_stays : (rows : List Row) (r : Rule) → RowsMeet rows r → RowsMeet rows (trim rows [] r)
trim_stays rows r f = (met_by_all_mem (trim rows [] r) rows).0 (trim_met rows [] r ((met_by_all_mem r rows).1 f))

pub trim_two : (rows : List Row) → MedianClosed rows → (r : Rule) → RowsMeet rows r → T (bijunctive (trim rows [] r))
trim_two rows closed r f = needed_two rows closed (trim rows [] r) (trim_needed rows [] r (λ i h. absurd (omega arith))) (trim_stays rows r f)
