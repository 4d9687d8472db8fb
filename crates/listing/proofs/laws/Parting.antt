-- Parting: a part of a list whose elements change places, those that are wanted to its front.
use Prim.Native.Nat.{ℕ, ◌+◌, ◌≤◌, ◌<◌}
use native.Mathlib.Omega.{arith}
use mathlib.Core.Path.{◌≡◌, refl, sym, ap, ◌∙◌}
use mathlib.Core.Bool.{Bool, true, false}
use mathlib.Core.Logic.{◌⊎◌, inl, inr}
use mathlib.Core.List.{List, [], ◌∷◌}
use Rattle.std.specs.List.{swap}
use Rattle.std.proofs.lemmas.List.{get_or_default}
use lib.ListN.{length, length-set, get_or, set}
use lib.Seq.{get_or-set_same, get_or-set_other}
use Rattle.meaning.proofs.Order.{compare}
use Rattle.listing.specs.Inner.{Has, Stirred, swap_of, settle_list, settle_count}

pub eq_or : (a b : ℕ) → (a ≡ b) ⊎ (a ≡ b → ⊥)
eq_or a b = elim (compare a b) [
  | inl l ↦ inr (λ e. omega arith)
  | inr m ↦ elim m [
    | inl e ↦ inl e
    | inr l ↦ inr (λ e. omega arith)
  ]
]

ne_lt : (a b : ℕ) → (a ≡ b → ⊥) → a < b + 1 → a < b
ne_lt a b n h = omega arith

pub stirred_on : (p q r : List ℕ) (lo hi : ℕ) → Stirred p q lo hi → Stirred q r lo hi → Stirred p r lo hi
stirred_on p q r lo hi s t = record {
  long = t.long ∙ s.long;
  low = λ i h. t.low i h ∙ s.low i h;
  high = λ i h. t.high i h ∙ s.high i h;
  there = λ i h k.
      let a = s.there i h k in
      let c = t.there a.at a.above a.under in
      record { at = c.at; above = c.above; under = c.under; is = c.is ∙ a.is };
  back = λ i h k.
      let a = t.back i h k in
      let c = s.back a.at a.above a.under in
      record { at = c.at; above = c.above; under = c.under; is = c.is ∙ a.is };
}

-- ---- two elements change places

module _ (p : List ℕ) (i k : ℕ) (hi : i < length p) (hk : k < length p) where
  swap_k : get_or (swap_of p i k) k 0 ≡ get_or p i 0
  swap_k = get_or-set_same (set p i (get_or p k 0)) k (get_or p i 0) 0 (omega (arith, length-set p i (get_or p k 0)))

  swap_i : get_or (swap_of p i k) i 0 ≡ get_or p k 0
  swap_i = elim (compare i k) [
    | inl l ↦ get_or-set_other (set p i (get_or p k 0)) k i (get_or p i 0) 0 (λ e. omega arith) ∙ get_or-set_same p i (get_or p k 0) 0 hi
    | inr m ↦ elim m [
      | inl e ↦ ap (λ (n : ℕ). get_or (swap_of p i k) n 0) e ∙ swap_k ∙ ap (λ (n : ℕ). get_or p n 0) e
      | inr l ↦ get_or-set_other (set p i (get_or p k 0)) k i (get_or p i 0) 0 (λ e. omega arith) ∙ get_or-set_same p i (get_or p k 0) 0 hi
    ]
  ]

  swap_other : (j : ℕ) → (j ≡ i → ⊥) → (j ≡ k → ⊥) → get_or (swap_of p i k) j 0 ≡ get_or p j 0
  swap_other j n m = get_or-set_other (set p i (get_or p k 0)) k j (get_or p i 0) 0 (λ e. m (omega arith)) ∙ get_or-set_other p i j (get_or p k 0) 0 (λ e. n (omega arith))

  -- i at or behind k, both within lo and hi
  pub stirred_swap : (lo hi : ℕ) → lo ≤ k → k ≤ i → i < hi → Stirred p (swap_of p i k) lo hi
  stirred_swap lo hi a b c = record {
    long = length-set (set p i (get_or p k 0)) k (get_or p i 0) ∙ length-set p i (get_or p k 0);
    low = λ j h. swap_other j (λ e. omega arith) (λ e. omega arith);
    high = λ j h. swap_other j (λ e. omega arith) (λ e. omega arith);
    there = λ j h m. there j h m;
    back = λ j h m. back j h m;
  }
    where
      there : (j : ℕ) → lo ≤ j → j < hi → Has (swap_of p i k) lo hi (get_or p j 0)
      there j h m = elim (eq_or j i) [
        | inl e ↦ record { at = k; above = a; under = omega arith; is = swap_k ∙ ap (λ (n : ℕ). get_or p n 0) (sym e) }
        | inr n ↦ elim (eq_or j k) [
          | inl e ↦ record { at = i; above = omega arith; under = c; is = swap_i ∙ ap (λ (n : ℕ). get_or p n 0) (sym e) }
          | inr o ↦ record { at = j; above = h; under = m; is = swap_other j n o }
        ]
      ]

      back : (j : ℕ) → lo ≤ j → j < hi → Has p lo hi (get_or (swap_of p i k) j 0)
      back j h m = elim (eq_or j i) [
        | inl e ↦ record { at = k; above = a; under = omega arith; is = sym (ap (λ (n : ℕ). get_or (swap_of p i k) n 0) e ∙ swap_i) }
        | inr n ↦ elim (eq_or j k) [
          | inl e ↦ record { at = i; above = omega arith; under = c; is = sym (ap (λ (n : ℕ). get_or (swap_of p i k) n 0) e ∙ swap_k) }
          | inr o ↦ record { at = j; above = h; under = m; is = sym (swap_other j n o) }
        ]
      ]

-- ---- the loop: of the elements before i those that are not wanted stand from k on

pub settle_no : (b : Bool) (p : List ℕ) (i k : ℕ) → b ≡ false → (p ≡ settle_list b p i k) × (k ≡ settle_count b k)
unfolding settle_list settle_count
settle_no b p i k h = rw h (refl, refl)

pub settle_yes : (b : Bool) (p : List ℕ) (i k : ℕ) → b ≡ true → (swap_of p i k ≡ settle_list b p i k) × (k + 1 ≡ settle_count b k)
unfolding settle_list settle_count
settle_yes b p i k h = rw h (refl, refl)

-- within the list `swap` takes no default
swap_same : (p : List ℕ) (i k : ℕ) → i < length p → k < length p → swap p i k ≡ swap_of p i k
swap_same [] i k h g = absurd (omega arith)
swap_same (d ∷ ys) i k h g = rw (get_or_default (d ∷ ys) i d 0 h, get_or_default (d ∷ ys) k d 0 g)

pub settle_swapped : (b : Bool) (p : List ℕ) (i k : ℕ) → b ≡ true → i < length p → k < length p → (q : List ℕ) → q ≡ swap p i k → (q ≡ settle_list b p i k) × (k + 1 ≡ settle_count b k)
settle_swapped b p i k h m n q e = let s = settle_yes b p i k h in (e ∙ swap_same p i k m n ∙ s.0, s.1)

module _ (wanted : ℕ → Bool) (p : List ℕ) (lo hi : ℕ) where
  pub record Parting (q : List ℕ) (i k : ℕ) : Type 0 where
    pub from : lo ≤ k
    pub behind : k ≤ i
    pub upto : i ≤ hi
    pub stirred : Stirred p q lo hi
    pub chosen : (j : ℕ) → lo ≤ j → j < k → wanted (get_or q j 0) ≡ true
    pub left : (j : ℕ) → k ≤ j → j < i → wanted (get_or q j 0) ≡ false

  module _ (q : List ℕ) (i k : ℕ) (y : Parting q i k) where
    pub parting_on : hi ≤ length p → i < hi → (e : ℕ) → e ≡ get_or q i 0 → (b : Bool) → b ≡ wanted e
        → (r : List ℕ) (m : ℕ) → (r ≡ settle_list b q i k) × (m ≡ settle_count b k) → Parting r (i + 1) m
    unfolding settle_list settle_count
    parting_on g h e f b w r m s = go b refl
      where
        is : wanted (get_or q i 0) ≡ b
        is = ap wanted (sym f) ∙ sym w

        go : (t : Bool) → b ≡ t → Parting r (i + 1) m
        go true z =
            let in-i : i < length q = omega (arith, y.stirred.long) in
            let in-k : k < length q = omega (arith, y.stirred.long, y.behind) in
            rw (s.0, s.1, z) (record {
              from = omega (arith, y.from);
              behind = omega (arith, y.behind);
              upto = omega arith;
              stirred = stirred_on p q (swap_of q i k) lo hi y.stirred (stirred_swap q i k in-i in-k lo hi y.from y.behind h);
              chosen = λ j a c. front in-i in-k z j a c;
              left = λ j a c. yes in-i in-k j a c;
            })
          where
            front : i < length q → k < length q → b ≡ true → (j : ℕ) → lo ≤ j → j < k + 1 → wanted (get_or (swap_of q i k) j 0) ≡ true
            front in-i in-k z j a c = elim (eq_or j k) [
              | inl e ↦ ap wanted (ap (λ (n : ℕ). get_or (swap_of q i k) n 0) e ∙ swap_k q i k in-i in-k) ∙ is ∙ z
              | inr n ↦ ap wanted (swap_other q i k in-i in-k j (λ e. omega (arith, ne_lt j k n c, y.behind)) n) ∙ y.chosen j a (ne_lt j k n c)
            ]

            yes : i < length q → k < length q → (j : ℕ) → k + 1 ≤ j → j < i + 1 → wanted (get_or (swap_of q i k) j 0) ≡ false
            yes in-i in-k j a c = elim (eq_or j i) [
              | inl e ↦ ap wanted (ap (λ (n : ℕ). get_or (swap_of q i k) n 0) e ∙ swap_i q i k in-i in-k) ∙ y.left k (omega arith) (omega arith)
              | inr n ↦ ap wanted (swap_other q i k in-i in-k j n (λ e. omega arith)) ∙ y.left j (omega arith) (ne_lt j i n c)
            ]
        go false z =
            rw (s.0, s.1, z) (record {
              from = y.from;
              behind = omega (arith, y.behind);
              upto = omega arith;
              stirred = y.stirred;
              chosen = y.chosen;
              left = λ j a c. elim (eq_or j i) [
                | inl e ↦ ap (λ (n : ℕ). wanted (get_or q n 0)) e ∙ is ∙ z
                | inr n ↦ y.left j a (ne_lt j i n c)
              ];
            })
