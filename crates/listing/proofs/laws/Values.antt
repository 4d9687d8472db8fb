-- Values: a set of values below 64 as one number, whose bit v says whether v may follow; and the set without an interval.
use Prim.Native.Nat.{ℕ, ◌+◌, ◌*◌, ◌-◌, ◌/◌, ◌%◌, ◌^◌, ◌≤◌, ◌<◌}
use native.Mathlib.Nat.{mod-lt, mod-eq_of_lt, div-eq_of_lt}
use native.Mathlib.Omega.{arith}
use mathlib.Core.Path.{◌≡◌, sym, ap, ◌∙◌}
use mathlib.Core.Bool.{Bool, false, ◌||◌}
use mathlib.Core.Logic.{inl, inr}
use lib.Dec.{eqb}
use lib.Pow.{pow_pos, pow-lt, mod-pow-add, pow_mono, shr-shr, high, low, field, mod-mod-pow, ones_split, ones_lt, split}
use borrow.Author.Tests.{le-leb, lt-leb, lt-ltb, le-ltb}
use Rattle.meaning.proofs.Tests.{lt_or_le}
use Rattle.listing.specs.Inner.{between, bit, forbidden, Forbids}

-- the set of all 64 values
abbrev pub every : ℕ
every = 18446744073709551615

-- ---- bits of sums

bit_mod : (n k v : ℕ) → v < k → bit (n % 2 ^ k) v ≡ bit n v
unfolding bit
bit_mod n k v h =
    let e : k ≡ (k - v - 1) + 1 + v = omega arith in
    ap (λ (m : ℕ). n % 2 ^ m / 2 ^ v % 2) e ∙ ap (λ (m : ℕ). m % 2) (field n ((k - v - 1) + 1) v) ∙ mod-mod-pow (n / 2 ^ v) (k - v - 1) 1

bit_high : (h k r v : ℕ) → r < 2 ^ k → k ≤ v → bit (h * 2 ^ k + r) v ≡ h / 2 ^ (v - k) % 2
unfolding bit
bit_high h k r v l g =
    let e : v ≡ k + (v - k) = omega arith in
    ap (λ (m : ℕ). (h * 2 ^ k + r) / 2 ^ m % 2) e ∙ ap (λ (m : ℕ). m % 2) (sym (shr-shr (h * 2 ^ k + r) k (v - k)) ∙ ap (λ (m : ℕ). m / 2 ^ (v - k)) (high h k l))

bit_low : (h k r v : ℕ) → r < 2 ^ k → v < k → bit (h * 2 ^ k + r) v ≡ bit r v
bit_low h k r v l g = sym (bit_mod (h * 2 ^ k + r) k v g) ∙ ap (λ (m : ℕ). bit m v) (low h k l)

bit_none : (r v : ℕ) → r < 2 ^ v → bit r v ≡ 0
unfolding bit
bit_none r v h = let e : 0 * 2 ^ v + r ≡ r = omega arith in ap (λ (m : ℕ). m / 2 ^ v % 2) (sym e) ∙ ap (λ (m : ℕ). m % 2) (high 0 v h)

pub every_open : (v : ℕ) → v < 64 → forbidden every v ≡ false
unfolding forbidden bit
every_open v h =
    let e : 64 ≡ (63 - v) + 1 + v = omega arith in
    ap (λ (m : ℕ). eqb (m / 2 ^ v % 2) 0) (ap (λ (m : ℕ). 2 ^ m - 1) e ∙ ones_split ((63 - v) + 1) v)
    ∙ ap (λ (m : ℕ). eqb (m % 2) 0) (high (2 ^ ((63 - v) + 1) - 1) v (ones_lt v) ∙ ones_split (63 - v) 1)
    ∙ ap (λ (m : ℕ). eqb m 0) (low (2 ^ (63 - v) - 1) 1 (ones_lt 1))

-- ---- the ways out of `without`

between_none : (lo hi v : ℕ) → hi ≤ lo → between lo hi v ≡ false
between_none lo hi v h = elim (lt_or_le v lo) [
  | inl k ↦ rw (lt-leb lo v k)
  | inr k ↦ rw (le-leb lo v k, le-ltb v hi (omega arith))
]

pub without_none : (s lo hi : ℕ) → hi ≤ lo → Forbids s lo hi s
without_none s lo hi h = record { is = λ v k. sym (ap (λ (b : Bool). b || forbidden s v) (between_none lo hi v h)) }

bit_over : (s hi v : ℕ) → hi ≤ v → s / 2 ^ hi / 2 ^ (v - hi) % 2 ≡ bit s v
unfolding bit
bit_over s hi v k = let q : hi + (v - hi) ≡ v = omega arith in ap (λ (m : ℕ). m % 2) (shr-shr s hi (v - hi) ∙ ap (λ (m : ℕ). s / 2 ^ m) q)

-- below lo as it was, nothing from lo up to below hi, and from hi on as it was
pub without_is : (s lo hi new : ℕ) → lo < hi → new ≡ s / 2 ^ hi * 2 ^ hi + s % 2 ^ lo → Forbids s lo hi new
unfolding forbidden
without_is s lo hi new h e = record { is = λ v k. ap (λ (m : ℕ). eqb (bit m v) 0) e ∙ at v }
  where
    small : s % 2 ^ lo < 2 ^ lo
    small = mod-lt s (pow_pos lo)

    less : s % 2 ^ lo < 2 ^ hi
    less = omega (arith, small, pow_mono {i = lo} {j = hi} (omega arith))

    at : (v : ℕ) → eqb (bit (s / 2 ^ hi * 2 ^ hi + s % 2 ^ lo) v) 0 ≡ between lo hi v || eqb (bit s v) 0
    at v = elim (lt_or_le v lo) [
      | inl k ↦ rw (lt-leb lo v k, bit_low (s / 2 ^ hi) hi (s % 2 ^ lo) v less (omega arith), bit_mod s lo v k)
      | inr k ↦ elim (lt_or_le v hi) [
        | inl m ↦ rw (le-leb lo v k, lt-ltb v hi m, bit_low (s / 2 ^ hi) hi (s % 2 ^ lo) v less m, bit_none (s % 2 ^ lo) v (omega (arith, small, pow_mono {i = lo} {j = v} k)))
        | inr m ↦ rw (le-leb lo v k, le-ltb v hi m, bit_high (s / 2 ^ hi) hi (s % 2 ^ lo) v less m, bit_over s hi v m)
      ]
    ]

-- a shift to the left within 64 bits loses nothing
abbrev pub top : ℕ
top = 18446744073709551616

one_shifted : (lo : ℕ) → lo < 64 → 1 * 2 ^ lo % top ≡ 2 ^ lo
one_shifted lo h = let e : 1 * 2 ^ lo ≡ 2 ^ lo = omega arith in rw e (mod-eq_of_lt (pow-lt {i = lo} {j = 64} h))

module _ (s lo hi new : ℕ) (fits : s < top) (h : lo < hi) where
  pub without_low : hi ≡ 64 → new ≡ s % (1 * 2 ^ lo % top) → Forbids s lo hi new
  without_low e q =
      let z : s / 2 ^ hi ≡ 0 = rw e (div-eq_of_lt fits) in
      let n : s / 2 ^ hi * 2 ^ hi + s % 2 ^ lo ≡ s % 2 ^ lo = rw z (omega arith) in
      without_is s lo hi new h (q ∙ ap (λ (m : ℕ). s % m) (one_shifted lo (omega arith)) ∙ sym n)

  pub without_some : hi ≤ 64 → 0 < 1 * 2 ^ lo % top
  without_some k = rw (one_shifted lo (omega arith)) (pow_pos lo)

  pub without_sum : hi ≤ 64 → (hi ≡ 64 → ⊥) → s % (1 * 2 ^ lo % top) + (s / 2 ^ hi * 2 ^ hi) % top < top
  without_sum k z =
      rw (one_shifted lo (omega arith), mod-eq_of_lt top_fits) (omega (arith, split s hi, mod_le))
    where
      top_fits : s / 2 ^ hi * 2 ^ hi < top
      top_fits = omega (arith, split s hi)

      mod_le : s % 2 ^ lo ≤ s % 2 ^ hi
      mod_le =
          let e : hi ≡ (hi - lo) + lo = omega arith in
          rw e (omega (arith, mod-pow-add s (hi - lo) lo))

  pub without_both : hi ≤ 64 → (hi ≡ 64 → ⊥) → new ≡ s % (1 * 2 ^ lo % top) + (s / 2 ^ hi * 2 ^ hi) % top → Forbids s lo hi new
  without_both k z q =
      let f : s / 2 ^ hi * 2 ^ hi < top = omega (arith, split s hi) in
      without_is s lo hi new h (q ∙ rw (one_shifted lo (omega arith), mod-eq_of_lt f) (omega arith))
