-- OpenTriple: the search over triples finds nothing just where the table is closed under median;
-- what it finds is the first triple of rows whose median is no row.
use Prim.Native.Nat.{ℕ, ◌<◌}
use native.Mathlib.Omega.{arith}
use mathlib.Core.Path.{◌≡◌, sym}
use mathlib.Core.Logic.Iff
use mathlib.Core.Logic.{◌↔◌, inl, inr}
use mathlib.Core.List.{List, [], ◌∷◌}
use mathlib.Core.Option.{none, some}
use lib.Dec.{T}
use lib.ListN.{length}
use Rattle.meaning.specs.Rows.{Row, Sizes, row, sound}
use Rattle.meaning.specs.Families.{median}
use Rattle.meaning.specs.Closed.{MedianClosed, try_triple, open_triple, TripleIn, FirstOpenTriple}
use Rattle.meaning.proofs.Tests.{lt_or_le}
use Rattle.meaning.proofs.Members.{is_row_mem, row_mem, mem_row, sound_length}
use Rattle.meaning.proofs.Swapped.{median_swap, median_last, median_same}
use Rattle.meaning.proofs.Search.{unless_none, unless_some, triple_none, triple_some}

-- ---- what holds of i < j < k, and is symmetric, and holds of repeats, holds of all

module _ (P : ℕ → ℕ → ℕ → Type 0) (swap : (i j k : ℕ) → P i j k → P j i k) (last : (i j k : ℕ) → P i j k → P i k j)
    (twice : (i k : ℕ) → P i i k) (sorted : (i j k : ℕ) → i < j → j < k → P i j k) where
  two_sorted : (i j k : ℕ) → i < j → P i j k
  two_sorted i j k h = elim (lt_or_le k i) [
    | inl l ↦ last i k j (swap k i j (sorted k i j l h))
    | inr l ↦ elim (lt_or_le i k) [
      | inr m ↦ let e : k ≡ i = omega arith in rw e (last i i j (twice i j))
      | inl m ↦ elim (lt_or_le k j) [
        | inl n ↦ last i k j (sorted i k j m n)
        | inr n ↦ elim (lt_or_le j k) [
          | inl o ↦ sorted i j k h o
          | inr o ↦ let e : k ≡ j = omega arith in rw e (swap j i j (last j j i (twice j i)))
        ]
      ]
    ]
  ]

  any_order : (i j k : ℕ) → P i j k
  any_order i j k = elim (lt_or_le i j) [
    | inl h ↦ two_sorted i j k h
    | inr h ↦ elim (lt_or_le j i) [
      | inl l ↦ swap j i k (two_sorted j i k l)
      | inr l ↦ let e : i ≡ j = omega arith in rw e (twice j k)
    ]
  ]

module _ (rows : List Row) where
  triple_in : (i j k : ℕ) → (try_triple rows i j k ≡ none) ↔ TripleIn rows i j k
  triple_in i j k = Iff.trans (unless_none _ (i ∷ j ∷ k ∷ [])) (is_row_mem (median (row rows i) (row rows j) (row rows k)) rows)

  pub open_triple_first : (numbers : List ℕ) → open_triple rows ≡ some numbers → FirstOpenTriple rows numbers
  unfolding open_triple
  open_triple_first numbers e =
      let c = triple_some (try_triple rows) (length rows) numbers e in
      let (n, q) = unless_some _ (c.one ∷ c.two ∷ c.three ∷ []) numbers c.gives in
      record {
        one = c.one;
        two = c.two;
        three = c.three;
        found = sym q;
        order = c.order;
        inside = c.inside;
        no_row = λ h. n ((is_row_mem _ rows).1 h);
        earlier = λ i j k h l m o. (triple_in i j k).0 (c.before i j k h l m o);
      }

  -- ---- nothing is found

  -- the rows have one length: then the median of a row, itself and another is that row
  module _ (ns : Sizes) (sane : T (sound ns rows)) where
    any_triple : ((i j k : ℕ) → i < j → j < k → k < length rows → TripleIn rows i j k)
        → (i j k : ℕ) → i < length rows → j < length rows → k < length rows → TripleIn rows i j k
    any_triple f = any_order (λ i j k. i < length rows → j < length rows → k < length rows → TripleIn rows i j k)
        (λ i j k t h l m. rw (median_swap (row rows j) (row rows i) (row rows k)) (t l h m))
        (λ i j k t h l m. rw (median_last (row rows i) (row rows k) (row rows j)) (t h m l))
        (λ i k h l m. rw (median_same (row rows i) (row rows k) (omega (arith, sound_length ns rows sane i h, sound_length ns rows sane k m))) (row_mem rows i h))
        (λ i j k a b h l m. f i j k a b m)

    pub open_triple_none : (open_triple rows ≡ none) ↔ MedianClosed rows
    unfolding open_triple
    open_triple_none = (
      λ e a b c h l m.
          let (i, hi, p) = mem_row rows a h in
          let (j, hj, q) = mem_row rows b l in
          let (k, hk, r) = mem_row rows c m in
          rw (p, q, r) (any_triple (λ i j k x y z. (triple_in i j k).0 ((triple_none (try_triple rows) (length rows)).0 e i j k x y z)) i j k hi hj hk),
      λ c. (triple_none (try_triple rows) (length rows)).1 (λ i j k h l m. (triple_in i j k).1 (c (row rows i) (row rows j) (row rows k)
          (row_mem rows i (omega arith)) (row_mem rows j (omega arith)) (row_mem rows k m))),
    )
