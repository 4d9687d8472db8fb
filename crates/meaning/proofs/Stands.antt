-- Stands: how a combination stands to a row and to the next one, from what the rules of the row ask, and the other way round.
use Prim.Native.Nat.{ℕ, ◌+◌, ◌-◌, ◌≤◌, ◌<◌}
use native.Mathlib.Omega.{arith}
use mathlib.Core.Path.{◌≡◌, sym}
use mathlib.Core.Logic.{◌↔◌, inl, inr}
use lib.Dec.{T}
use lib.ListN.{length}
use Rattle.meaning.specs.Lists.{each}
use Rattle.meaning.specs.Rows.{Row, Sizes, at, within}
use Rattle.meaning.specs.Rules.{all_met}
use Rattle.meaning.specs.General.{left_at, right_at, mid_at}
use Rattle.meaning.proofs.Tests.{lt_or_le}
use Rattle.meaning.proofs.MetLaws.{all_met_each}
use Rattle.meaning.proofs.Asked.{Agree, left_met, right_met, mid_met}
use Rattle.meaning.proofs.Members.{within_length, within_at}
use Rattle.meaning.proofs.Parting.{Less, less_inside, less_asym}

-- the left rules of m from setting s on, met by x
abbrev pub LeftOk : Sizes → ℕ → Row → Row → Type 0
LeftOk ns s m x = (i : ℕ) → s ≤ i → i < length ns → Agree i x m → at m i ≤ at x i

-- the right rules
abbrev pub RightOk : Sizes → ℕ → Row → Row → Type 0
RightOk ns s m x = (i : ℕ) → s ≤ i → i < length ns → Agree i x m → at x i ≤ at m i

-- the middle rule of m and m', the next row, at setting d
abbrev pub MidOk : ℕ → Row → Row → Row → Type 0
MidOk d m m' x = Agree d x m → at m d < at x d → at m' d ≤ at x d

module _ (ns : Sizes) (x : Row) (w : T (within ns x)) where
  pub left_run : (s : ℕ) (m : Row) → T (all_met (each (left_at ns m) s (length ns - s)) x) ↔ LeftOk ns s m x
  left_run s m = simp all_met_each (
    λ f i h k. (left_met ns m x i (λ j l. within_at ns x w j (omega arith))).0 (f i h (omega arith)),
    λ f i h k. (left_met ns m x i (λ j l. within_at ns x w j (omega arith))).1 (f i h (omega arith)),
  )

  pub right_run : (s : ℕ) (m : Row) → T (all_met (each (right_at ns m) s (length ns - s)) x) ↔ RightOk ns s m x
  right_run s m = simp all_met_each (
    λ f i h k. (right_met ns m x i (λ j l. within_at ns x w j (omega arith))).0 (f i h (omega arith)),
    λ f i h k. (right_met ns m x i (λ j l. within_at ns x w j (omega arith))).1 (f i h (omega arith)),
  )

  pub mid_one : (m m' : Row) (d : ℕ) → d < length ns → T (all_met (mid_at ns m m' d) x) ↔ MidOk d m m' x
  mid_one m m' d h = mid_met ns m x d (λ j l. within_at ns x w j (omega arith)) m'

  -- ---- the rules are met

  -- past m, x can be below m', the next row, only after their split
  pub next : (m m' : Row) (q : Less m m') → RightOk ns (q.place + 1) m x → MidOk q.place m m' x
      → Less m x → (p : Less x m') → q.place + 1 ≤ p.place
  next m m' q r d u p = elim (lt_or_le q.place p.place) [
    | inl h ↦ omega arith
    | inr h ↦ elim (lt_or_le p.place q.place) [
      | inl k ↦ absurd (less_asym m x u (record { place = p.place; agree = λ j l. omega (arith, p.agree j l, q.agree j (omega arith)); less = omega (arith, p.less, q.agree p.place k) }))
      | inr k ↦ absurd (same_place (omega arith))
    ]
  ]
    where
      same_place : p.place ≡ q.place → ⊥
      same_place e = elim (lt_or_le (at m q.place) (at x q.place)) [
        | inl h ↦ omega (arith, d (λ j l. omega (arith, p.agree j (omega arith), q.agree j l)) h, below)
        | inr h ↦ elim (lt_or_le u.place q.place) [
          | inl k ↦ omega (arith, u.less, p.agree u.place (omega arith), q.agree u.place k)
          | inr k ↦ elim (lt_or_le q.place u.place) [
            | inl l ↦ omega (arith, u.less, r u.place (omega arith) (omega (arith, less_inside m x u, within_length ns x w)) (λ j z. sym (u.agree j z)))
            | inr l ↦ omega (arith, above (omega arith))
          ]
        ]
      ]
        where
          below : at x q.place < at m' q.place
          below = rw (← e) p.less

          above : u.place ≡ q.place → at m q.place < at x q.place
          above f = rw (← f) u.less

-- ---- how x stands is known: then the rules are met

module _ (ns : Sizes) (x : Row) where
  pub left_ok : (s : ℕ) (m : Row) → ((p : Less x m) → p.place < s) → LeftOk ns s m x
  left_ok s m v i h k g = elim (lt_or_le (at x i) (at m i)) [
    | inl l ↦ absurd (omega (arith, v (record { place = i; agree = g; less = l })))
    | inr l ↦ l
  ]

  -- x is not past m
  module _ (m : Row) (n : ¬ Less m x) where
    pub right_low : (s : ℕ) → RightOk ns s m x
    right_low s i h k g = elim (lt_or_le (at m i) (at x i)) [
      | inl l ↦ absurd (n (record { place = i; agree = λ j z. sym (g j z); less = l }))
      | inr l ↦ l
    ]

    pub mid_low : (d : ℕ) (m' : Row) → MidOk d m m' x
    mid_low d m' g l = absurd (n (record { place = d; agree = λ j z. sym (g j z); less = l }))

    pub next_low : (m' : Row) (q : Less m m') (p : Less x m') → p.place < q.place + 1
    next_low m' q p = elim (lt_or_le q.place p.place) [
      | inl l ↦ absurd (n (record { place = q.place; agree = λ j z. omega (arith, q.agree j z, p.agree j (omega arith)); less = omega (arith, q.less, p.agree q.place l) }))
      | inr l ↦ omega arith
    ]

  -- x is not below m', the row after m
  module _ (m m' : Row) (q : Less m m') (n : ¬ Less x m') where
    pub right_high : RightOk ns (q.place + 1) m x
    right_high i h k g = absurd (n (record { place = q.place; agree = λ j z. omega (arith, q.agree j z, g j (omega arith)); less = omega (arith, q.less, g q.place (omega arith)) }))

    pub mid_high : MidOk q.place m m' x
    mid_high g l = elim (lt_or_le (at x q.place) (at m' q.place)) [
      | inl z ↦ absurd (n (record { place = q.place; agree = λ j y. omega (arith, q.agree j y, g j y); less = z }))
      | inr z ↦ z
    ]
