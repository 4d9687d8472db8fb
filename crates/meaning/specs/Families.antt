-- The other families: rows combined setting by setting, and how a general rule is reduced to Horn, dual Horn or bijunctive.
use Rattle.std.specs.Prelude.{ℕ, zero, suc, min, max, Bool, true, cond, ◌&&◌, ◌≡◌, ◌↔◌, length, T}
use mathlib.Core.List.{List, [], ◌∷◌, ◌++◌, map, Memᴰ}
use Rattle.std.proofs.Math.Option.{Option, none, some}
use Rattle.meaning.specs.Rows.{Row, Sizes, at, within}
use Rattle.meaning.specs.Rules.{Rule, Side, low, high, holds, met, scarce, horn, by_family, all_met, in_family}
use Rattle.meaning.specs.General.{general}
use Rattle.meaning.specs.Lists.{All}

-- ---- rows combined

-- the row g 0, g 1, .., of n values
unfoldable pub fill : (ℕ → ℕ) → ℕ → Row
fill g zero = []
fill g (suc n) = fill g n ++ (g n ∷ [])

unfoldable pub pick : Side → ℕ → ℕ → ℕ
pick low u v = min u v
pick high u v = max u v

-- conjunction: the minimum at each setting; disjunction: the maximum
unfoldable pub both : Side → Row → Row → Row
both s a b = fill (λ i. pick s (at a i) (at b i)) (max (length a) (length b))

-- the middle of three values
unfoldable pub mid : ℕ → ℕ → ℕ → ℕ
mid u v w = max (min u v) (min (max u v) w)

-- median: the middle of three at each setting
unfoldable pub median : Row → Row → Row → Row
median a b c = fill (λ i. mid (at a i) (at b i) (at c i)) (max (max (length a) (length b)) (length c))

-- ---- Horn (low), and dual Horn (high) as its mirror

-- the literals that are not scarce: Horn keeps the negatives
unfoldable pub common : Side → Rule → Rule
common s [] = []
common s (c ∷ r) = cond (scarce s c) (common s r) (c ∷ common s r)

-- these, and the first scarce one that m meets, in the rule's order
unfoldable pub common_and : Side → Row → Rule → Rule
common_and s m [] = []
common_and s m (c ∷ r) = cond (scarce s c) (cond (holds c m) (c ∷ common s r) (common_and s m r)) (c ∷ common_and s m r)

unfoldable pub join : Side → Option Row → Row → Option Row
join s none m = some m
join s (some k) m = some (both s k m)

-- k and all rows that do not meet r, combined; none where there is nothing to combine
unfoldable pub extreme : Side → Rule → Option Row → List Row → Option Row
extreme s r k [] = k
extreme s r k (m ∷ rows) = extreme s r (cond (met r m) k (join s k m)) rows

unfoldable pub keep_for : Side → Rule → Option Row → Rule
keep_for s r none = common s r
keep_for s r (some m) = common_and s m r

-- a rule with two or more positives keeps its negatives; if some row meets none of these, the minimum of all such rows
-- says which positive literal stays: the first that it meets
unfoldable pub reduce : Side → List Row → Rule → Rule
reduce s rows r = cond (horn s r) r (keep_for s r (extreme s (common s r) none rows))

-- ---- bijunctive

unfoldable pub met_by_all : Rule → List Row → Bool
met_by_all r [] = true
met_by_all r (m ∷ rows) = met r m && met_by_all r rows

-- through the literals in order, dropping each one without which every row still meets what is left; kept: those gone through
unfoldable pub trim : List Row → Rule → Rule → Rule
trim rows kept [] = kept
trim rows kept (c ∷ rest) = cond (met_by_all (kept ++ rest) rows) (trim rows kept rest) (trim rows (kept ++ (c ∷ [])) rest)

-- ---- the rules of a table in a family

-- the general rules stay as they are
unfoldable pub reduce_for : ℕ → List Row → Rule → Rule
reduce_for family rows r = by_family family r (reduce low rows r) (reduce high rows r) (trim rows [] r)

unfoldable pub rules_for : ℕ → Sizes → List Row → List Rule
rules_for family ns rows = map (reduce_for family rows) (general ns rows)

-- the rules permit exactly the rows
abbrev pub Exactly : Sizes → List Row → List Rule → Type 0
Exactly ns rows rules = (x : Row) → T (within ns x) → T (all_met rules x) ↔ Memᴰ x rows

-- some rules do, all in the family
pub record Has (ns : Sizes) (rows : List Row) (family : ℕ) : Type 0 where
  pub rules : List Rule
  pub kept : All (λ r. in_family family r ≡ true) rules
  pub exactly : Exactly ns rows rules
