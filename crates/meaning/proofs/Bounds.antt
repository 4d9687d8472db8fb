-- Bounds: every made rule is one that a book may hold, and there are few enough of them; so the made book is well formed.
use Prim.Native.Nat.{ℕ, zero, suc, ◌+◌, ◌*◌, ◌-◌, ◌≤◌}
use native.Mathlib.Omega.{arith}
use native.Mathlib.Nat.{mul-le-mul}
use mathlib.Core.Path.{◌≡◌}
use mathlib.Core.List.{List, [], ◌∷◌, map}
use lib.Dec.{T, ltb}
use lib.ListN.{length, length-append, length-map, length-replicate}
use Rattle.meaning.specs.Lists.{each, All}
use Rattle.meaning.specs.Rows.{Row, Sizes, alike, at, row, sound}
use Rattle.meaning.specs.Rules.{Literal, at_most, at_least, Rule, sign, AllFit, key, Ordered, low, high, in_family, Good, AllGood}
use Rattle.meaning.specs.General.{left_at, right_at, mid_at, split, fork, middle, row_rules, general}
use Rattle.meaning.specs.Families.{reduce_for, rules_for}
use Rattle.meaning.specs.Closed.{ClosedFor}
use Rattle.meaning.specs.Bytes.{WellFormed}
use Rattle.meaning.proofs.Tests.{is, isnt, case, is_yes}
use Rattle.meaning.proofs.MetLaws.{all_met_cons}
use Rattle.meaning.proofs.Reduced.{RowsMeet, RowsMeetAll}
use Rattle.meaning.proofs.Horn.{reduce_horn}
use Rattle.meaning.proofs.Median.{trim_two}
use Rattle.meaning.proofs.Made.{reduce_for_part, general_rows}
use Rattle.meaning.proofs.Idle.{broken_busy}
use Rattle.meaning.proofs.Proper.{Proper, part_proper, general_proper}

-- ---- every made rule is good

sign_le : (c : Literal) → sign c ≤ 1
sign_le (at_most i d) = omega arith
sign_le (at_least i d) = omega arith

-- keys that ascend below twice the number of settings are at most so many
ordered_short : (ns : Sizes) (lo : ℕ) (r : Rule) → AllFit ns r → Ordered lo r → lo ≤ 2 * length ns → length r + lo ≤ 2 * length ns
ordered_short ns lo [] f o h = omega arith
ordered_short ns lo (c ∷ r) f o h = omega (arith, o.0, ordered_short ns (key c + 1) r f.1 o.1 (omega (arith, f.0.known, sign_le c)))

proper_good : (ns : Sizes) (family : ℕ) (r : Rule) → Proper ns r → T (in_family family r) → Good ns family r
proper_good ns family r p t = record {
  short = omega (arith, ordered_short ns 0 r p.fit p.ordered (omega arith));
  fit = p.fit;
  ordered = p.ordered;
  busy = broken_busy p.breaker r p.broken;
  kept = is_yes (in_family family r) t;
}

reduce_for_family : (family : ℕ) (rows : List Row) → ClosedFor family rows → (r : Rule) → RowsMeet rows r → T (in_family family (reduce_for family rows r))
unfolding reduce_for in_family
reduce_for_family zero rows closed r g = tt
reduce_for_family (suc zero) rows closed r g = reduce_horn low rows r
reduce_for_family (suc (suc zero)) rows closed r g = reduce_horn high rows r
reduce_for_family (suc (suc (suc f))) rows closed r g = trim_two rows closed r g

module _ (family : ℕ) (ns : Sizes) (rows : List Row) (closed : ClosedFor family rows) where
  reduced_good : (rs : List Rule) → All (Proper ns) rs → RowsMeetAll rows rs → AllGood ns family (map (reduce_for family rows) rs)
  reduced_good [] p g = tt
  reduced_good (r ∷ rs) p g = (
    proper_good ns family (reduce_for family rows r) (part_proper ns (reduce_for family rows r) r (reduce_for_part family rows r) p.0)
        (reduce_for_family family rows closed r (λ m h. ((all_met_cons r rs m).0 (g m h)).0)),
    reduced_good rs p.1 (λ m h. ((all_met_cons r rs m).0 (g m h)).1),
  )

pub rules_good : (family : ℕ) (ns : Sizes) (rows : List Row) → T (sound ns rows) → ClosedFor family rows → AllGood ns family (rules_for family ns rows)
unfolding rules_for
rules_good family ns rows t closed = reduced_good family ns rows closed (general ns rows) (general_proper ns rows t) (general_rows ns rows t)

-- ---- how many there are

each_few : {A : Type 0} (f : ℕ → List A) (most : ℕ) → ((i : ℕ) → length (f i) ≤ most) → (s k : ℕ) → length (each f s k) ≤ k * most
each_few f most h s zero = omega arith
each_few f most h s (suc k) = rw length-append (omega (arith, h s, each_few f most h (suc s) k))

left_few : (ns : Sizes) (m : Row) (i : ℕ) → length (left_at ns m i) ≤ 1
unfolding left_at
left_few ns m i = elim (case (ltb 0 (at m i))) [ is e ↦ rw e (omega arith) | isnt e ↦ rw e (omega arith) ]

right_few : (ns : Sizes) (m : Row) (i : ℕ) → length (right_at ns m i) ≤ 1
unfolding right_at
right_few ns m i = elim (case (ltb (at m i + 1) (at ns i))) [ is e ↦ rw e (omega arith) | isnt e ↦ rw e (omega arith) ]

mid_few : (ns : Sizes) (m m' : Row) (i : ℕ) → length (mid_at ns m m' i) ≤ 1
unfolding mid_at
mid_few ns m m' i = elim (case (ltb (at m i + 1) (at m' i))) [ is e ↦ rw e (omega arith) | isnt e ↦ rw e (omega arith) ]

middle_few : (ns : Sizes) (rows : List Row) (k : ℕ) → length (middle ns rows k) ≤ 1
unfolding middle
middle_few ns rows k = elim (case (ltb (suc k) (length rows))) [
  | is e ↦ rw e (mid_few ns (row rows k) (row rows (suc k)) (split (row rows k) (row rows (suc k))))
  | isnt e ↦ rw e (omega arith)
]

-- a left and a right rule for each setting, and a middle rule
row_few : (ns : Sizes) (rows : List Row) (k : ℕ) → length (row_rules ns rows k) ≤ 2 * length ns + 1
unfolding row_rules
row_few ns rows k = simp length-append (omega (
  arith,
  each_few (left_at ns (row rows k)) 1 (left_few ns (row rows k)) (fork rows k) (length ns - fork rows k),
  each_few (right_at ns (row rows k)) 1 (right_few ns (row rows k)) (fork rows (suc k)) (length ns - fork rows (suc k)),
  middle_few ns rows k,
))

pub rules_length : (family : ℕ) (ns : Sizes) (rows : List Row) → length (rules_for family ns rows) ≡ length (general ns rows)
unfolding rules_for
rules_length family ns rows = length-map (general ns rows) (reduce_for family rows)

general_few : (ns : Sizes) (rows : List Row) → 1 ≤ length rows → length (general ns rows) ≤ length rows * (2 * length ns + 1)
unfolding general
general_few ns [] h = absurd (omega arith)
general_few ns (m ∷ rows) h = each_few (row_rules ns (m ∷ rows)) (2 * length ns + 1) (row_few ns (m ∷ rows)) 0 (length (m ∷ rows))

-- no rows included
pub rules_bounded : (family : ℕ) (ns : Sizes) (rows : List Row) → length ns ≤ 16 → length rows ≤ 512 → length (rules_for family ns rows) ≤ 24576
unfolding general
rules_bounded family ns [] h k = omega (arith, rules_length family ns [])
rules_bounded family ns (m ∷ rows) h k =
    let few : length (m ∷ rows) * (2 * length ns + 1) ≤ 512 * 33 = mul-le-mul {m₂ = 33} k (omega arith) in
    omega (arith, rules_length family ns (m ∷ rows), general_few ns (m ∷ rows) (omega arith))

-- ---- the made book

pub made_well_formed : (n l family : ℕ) (rows : List Row) → 1 ≤ n → n ≤ 64 → 1 ≤ l → l ≤ 16 → family ≤ 3 → length rows ≤ 512
    → T (sound (alike n l) rows) → ClosedFor family rows → WellFormed n l family (rules_for family (alike n l) rows)
made_well_formed n l family rows n₁ n₂ l₁ l₂ f k t closed = record {
  n_low = n₁;
  n_high = n₂;
  l_low = l₁;
  l_high = l₂;
  families = f;
  few = rules_bounded family (alike n l) rows (omega (arith, length-replicate l n)) k;
  all_good = rules_good family (alike n l) rows t closed;
}
