-- One n for all settings: the sizes alike, and how sixteen of them are lent.
use Prim.Native.Nat.{ℕ, zero, suc, ◌≤◌, ◌<◌}
use native.Mathlib.Omega.{arith}
use mathlib.Core.Path.{◌≡◌, refl, sym, ap}
use mathlib.Core.List.{List, ◌∷◌}
use lib.ListN.{length, get_or, take, replicate, length-replicate, get_or-replicate}
use lib.Seq.{length-take-le}
use Rattle.meaning.specs.Rows.{alike}

pub alike_length : (n l : ℕ) → length (alike n l) ≡ l
alike_length n l = length-replicate l n

pub alike_at : (n l i : ℕ) → i < l → get_or (alike n l) i 0 ≡ n
alike_at n l i h = get_or-replicate l i n 0 h

-- of sixteen, the first l
pub alike_lent : (n l : ℕ) → l ≤ 16 → take l (replicate 16 n) ≡ alike n l
alike_lent n l h = go 16 l h
  where
    go : (k l : ℕ) → l ≤ k → take l (replicate k n) ≡ replicate l n
    go k zero h = refl
    go zero (suc l) h = absurd (omega arith)
    go (suc k) (suc l) h = ap (λ (t : List ℕ). n ∷ t) (go k l (omega arith))

pub alike_cut : (n l : ℕ) → l ≤ 16 → l ≡ length (take l (replicate 16 n))
alike_cut n l h = sym (length-take-le l (replicate 16 n) h)
