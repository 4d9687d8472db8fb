-- Members: the rows of a table by number and by test, and what a sound table says of them.
use Prim.Native.Nat.{ℕ, zero, suc, ◌<◌}
use native.Mathlib.Omega.{arith}
use mathlib.Core.Path.{◌≡◌, refl, ap}
use mathlib.Core.Logic.{◌↔◌, inl, inr}
use mathlib.Core.List.Memᴰ
use mathlib.Core.List.{List, [], ◌∷◌, Memᴰ}
use lib.Dec.{T, ltb, eqb, eqb→eq, eqb_refl, ltb→lt, lt→ltb}
use lib.ListN.{length}
use Rattle.meaning.specs.Rows.{Row, Sizes, at, row, within, before, ascending, all_within, sound, same, is_row}
use Rattle.meaning.proofs.Tests.{and_l, and_r, and_i, or_l, or_r, or_e}

-- ---- a row of a table, by the test and by its number

pub same_refl : (a : Row) → T (same a a)
unfolding same
same_refl [] = tt
same_refl (u ∷ a) = and_i (eqb u u) (same a a) (eqb_refl u) (same_refl a)

pub same_eq : (a b : Row) → T (same a b) → a ≡ b
unfolding same
same_eq [] [] t = refl
same_eq [] (v ∷ b) t = absurd t
same_eq (u ∷ a) [] t = absurd t
same_eq (u ∷ a) (v ∷ b) t =
    let p = eqb→eq u v (and_l (eqb u v) (same a b) t) in
    let q = same_eq a b (and_r (eqb u v) (same a b) t) in
    cc

pub is_row_mem : (x : Row) (rows : List Row) → T (is_row x rows) ↔ Memᴰ x rows
unfolding is_row
is_row_mem x [] = (λ t. absurd t, λ h. Memᴰ.not-nil h)
is_row_mem x (m ∷ rows) = (
  λ t. elim (or_e (same x m) (is_row x rows) t) [ inl h ↦ Memᴰ.head (same_eq x m h) | inr h ↦ Memᴰ.tail ((is_row_mem x rows).0 h) ],
  λ h. elim (Memᴰ.cases_cons h) [
    | inl e ↦ or_l (same x m) (is_row x rows) (rw e (same_refl m))
    | inr k ↦ or_r (same x m) (is_row x rows) ((is_row_mem x rows).1 k)
  ],
)

pub row_mem : (rows : List Row) (i : ℕ) → i < length rows → Memᴰ (row rows i) rows
row_mem [] i h = absurd (omega arith)
row_mem (m ∷ rows) zero h = Memᴰ.head refl
row_mem (m ∷ rows) (suc i) h = Memᴰ.tail (row_mem rows i (omega arith))

pub mem_row : (rows : List Row) (a : Row) → Memᴰ a rows → (i : ℕ) × (i < length rows) × (a ≡ row rows i)
mem_row [] a h = absurd (Memᴰ.not-nil h)
mem_row (m ∷ rows) a h = elim (Memᴰ.cases_cons h) [
  | inl e ↦ (0, omega arith, e)
  | inr k ↦ let (i, l, e) = mem_row rows a k in (suc i, omega arith, e)
]

-- ---- within the sizes

pub within_length : (ns : Sizes) (x : Row) → T (within ns x) → length x ≡ length ns
unfolding within
within_length [] [] t = refl
within_length [] (v ∷ x) t = absurd t
within_length (n ∷ ns) [] t = absurd t
within_length (n ∷ ns) (v ∷ x) t = ap suc (within_length ns x (and_r (ltb v n) (within ns x) t))

pub within_at : (ns : Sizes) (x : Row) → T (within ns x) → (j : ℕ) → j < length ns → at x j < at ns j
unfolding within
within_at [] [] t j h = absurd (omega arith)
within_at [] (v ∷ x) t j h = absurd t
within_at (n ∷ ns) [] t j h = absurd t
within_at (n ∷ ns) (v ∷ x) t zero h = ltb→lt v n (and_l (ltb v n) (within ns x) t)
within_at (n ∷ ns) (v ∷ x) t (suc j) h = within_at ns x (and_r (ltb v n) (within ns x) t) j (omega arith)

pub within_of : (ns : Sizes) (x : Row) → length x ≡ length ns → ((j : ℕ) → j < length ns → at x j < at ns j) → T (within ns x)
unfolding within
within_of [] [] e f = tt
within_of [] (v ∷ x) e f = absurd (omega arith)
within_of (n ∷ ns) [] e f = absurd (omega arith)
within_of (n ∷ ns) (v ∷ x) e f = and_i (ltb v n) (within ns x) (lt→ltb v n (f 0 (omega arith))) (within_of ns x (omega arith) (λ j h. f (suc j) (omega arith)))

-- ---- a sound table

pub all_within_mem : (ns : Sizes) (rows : List Row) (m : Row) → T (all_within ns rows) → Memᴰ m rows → T (within ns m)
unfolding all_within
all_within_mem ns [] m t h = absurd (Memᴰ.not-nil h)
all_within_mem ns (y ∷ rows) m t h = elim (Memᴰ.cases_cons h) [
  | inl e ↦ rw e (and_l (within ns y) (all_within ns rows) t)
  | inr k ↦ all_within_mem ns rows m (and_r (within ns y) (all_within ns rows) t) k
]

pub ascending_next : (rows : List Row) (k : ℕ) → T (ascending rows) → suc k < length rows → T (before (row rows k) (row rows (suc k)))
unfolding ascending
ascending_next [] k t h = absurd (omega arith)
ascending_next (m ∷ []) k t h = absurd (omega arith)
ascending_next (m ∷ n ∷ rows) zero t h = and_l (before m n) (ascending (n ∷ rows)) t
ascending_next (m ∷ n ∷ rows) (suc k) t h = ascending_next (n ∷ rows) k (and_r (before m n) (ascending (n ∷ rows)) t) (omega arith)

module _ (ns : Sizes) (rows : List Row) (t : T (sound ns rows)) where
  pub sound_mem : (m : Row) → Memᴰ m rows → T (within ns m)
  unfolding sound
  sound_mem m h = all_within_mem ns rows m (and_l (all_within ns rows) (ascending rows) t) h

  pub sound_row : (k : ℕ) → k < length rows → T (within ns (row rows k))
  sound_row k h = sound_mem (row rows k) (row_mem rows k h)

  pub sound_length : (k : ℕ) → k < length rows → length (row rows k) ≡ length ns
  sound_length k h = within_length ns (row rows k) (sound_row k h)

  pub sound_next : (k : ℕ) → suc k < length rows → T (before (row rows k) (row rows (suc k)))
  unfolding sound
  sound_next k h = ascending_next rows k (and_r (all_within ns rows) (ascending rows) t) h
