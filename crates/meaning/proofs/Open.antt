-- Open: the search over pairs finds nothing just where the table is closed under conjunction (disjunction);
-- what it finds is the first pair of rows whose conjunction (disjunction) is no row.
use Prim.Native.Nat.{ℕ, ◌<◌}
use native.Mathlib.Omega.{arith}
use mathlib.Core.Path.{◌≡◌, sym}
use mathlib.Core.Logic.Iff
use mathlib.Core.Logic.{◌↔◌, inl, inr}
use mathlib.Core.List.{List, [], ◌∷◌}
use mathlib.Core.Option.{none, some}
use lib.ListN.{length}
use Rattle.meaning.specs.Rows.{Row, row}
use Rattle.meaning.specs.Rules.{Side}
use Rattle.meaning.specs.Families.{both}
use Rattle.meaning.specs.Closed.{Closed, try_pair, open_pair, PairIn, FirstOpen}
use Rattle.meaning.proofs.Tests.{lt_or_le}
use Rattle.meaning.proofs.Members.{is_row_mem, row_mem, mem_row}
use Rattle.meaning.proofs.Swapped.{both_comm, both_same}
use Rattle.meaning.proofs.Search.{unless_none, unless_some, pair_none, pair_some}

module _ (s : Side) (rows : List Row) where
  -- ---- nothing is found

  pair_in : (i j : ℕ) → (try_pair s rows i j ≡ none) ↔ PairIn s rows i j
  pair_in i j = Iff.trans (unless_none _ (i ∷ j ∷ [])) (is_row_mem (both s (row rows i) (row rows j)) rows)

  -- from i < j to any two rows
  any_pair : ((i j : ℕ) → i < j → j < length rows → PairIn s rows i j) → (i j : ℕ) → i < length rows → j < length rows → PairIn s rows i j
  any_pair f i j h k = elim (lt_or_le i j) [
    | inl l ↦ f i j l k
    | inr l ↦ elim (lt_or_le j i) [
      | inl m ↦ rw (both_comm s (row rows i) (row rows j)) (f j i m h)
      | inr m ↦ let e : i ≡ j = omega arith in rw (e, both_same s (row rows j)) (row_mem rows j k)
    ]
  ]

  pub open_pair_none : (open_pair s rows ≡ none) ↔ Closed s rows
  unfolding open_pair
  open_pair_none = (
    λ e a b h k.
        let (i, hi, p) = mem_row rows a h in
        let (j, hj, q) = mem_row rows b k in
        rw (p, q) (any_pair (λ i j l m. (pair_in i j).0 ((pair_none (try_pair s rows) (length rows)).0 e i j l m)) i j hi hj),
    λ c. (pair_none (try_pair s rows) (length rows)).1 (λ i j h k. (pair_in i j).1 (c (row rows i) (row rows j) (row_mem rows i (omega arith)) (row_mem rows j k))),
  )

  pub open_pair_first : (numbers : List ℕ) → open_pair s rows ≡ some numbers → FirstOpen s rows numbers
  unfolding open_pair
  open_pair_first numbers e =
      let c = pair_some (try_pair s rows) (length rows) numbers e in
      let (n, q) = unless_some _ (c.one ∷ c.two ∷ []) numbers c.gives in
      record {
        one = c.one;
        two = c.two;
        found = sym q;
        order = c.order;
        inside = c.inside;
        no_row = λ h. n ((is_row_mem _ rows).1 h);
        earlier = λ i j h k o. (pair_in i j).0 (c.before i j h k o);
      }
