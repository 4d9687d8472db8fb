-- Chunks: the literals in bytes, gone through three bytes after three.
use Prim.Native.Nat.{ℕ, zero, suc, ◌+◌, ◌*◌, ◌-◌, ◌≤◌, ◌<◌}
use native.Mathlib.Omega.{arith}
use mathlib.Core.Path.{◌≡◌, refl, ap}
use mathlib.Core.List.{List, [], ◌∷◌, ◌++◌}
use lib.ListN.{length, take, drop}
use Rattle.meaning.specs.Rules.{Rule}
use Rattle.meaning.specs.Bytes.{literal_at, literals_at}
use Rattle.meaning.proofs.Literals.{three_bytes}
use Rattle.literals.specs.Inner.{literals_in}

-- the first three are the first literal
pub literals_first : (x t : List ℕ) → length x ≡ 3 → literals_in (x ++ t) ≡ literal_at x 0 ∷ literals_in t
unfolding literals_in
literals_first (i ∷ g ∷ d ∷ []) t e = refl
literals_first (i ∷ g ∷ d ∷ c ∷ x) t e = absurd (omega arith)
literals_first (i ∷ g ∷ []) t e = absurd (omega arith)
literals_first (i ∷ []) t e = absurd (omega arith)
literals_first [] t e = absurd (omega arith)

-- fewer are none
pub literals_over : (t : List ℕ) → length t < 3 → literals_in t ≡ []
unfolding literals_in
literals_over (i ∷ g ∷ d ∷ t) h = absurd (omega arith)
literals_over (i ∷ g ∷ []) h = refl
literals_over (i ∷ []) h = refl
literals_over [] h = refl

-- those of a part of the bytes are those that stand there
pub literals_there : (b : List ℕ) (p c : ℕ) → p + 3 * c ≤ length b → literals_in (take (3 * c) (drop p b)) ≡ literals_at b p c
unfolding literals_in literals_at
literals_there b p zero h = refl
literals_there b p (suc c) h =
    let e : 3 * suc c ≡ suc (suc (suc (3 * c))) = omega arith in
    rw (e, three_bytes b p (omega arith)) (ap (λ (r : Rule). literal_at b p ∷ r) (literals_there b (p + 3) c (omega arith)))

-- the same of a slice from p up to below its end
pub literals_part : (b : List ℕ) (p c : ℕ) → p + 3 * c ≤ length b → literals_in (take (p + 3 * c - p) (drop p b)) ≡ literals_at b p c
literals_part b p c h =
    let e : p + 3 * c - p ≡ 3 * c = omega arith in
    rw e (literals_there b p c h)
