-- Tests: what a Bool says as a fact, and cases on a test or on two numbers.
use Prim.Native.Nat.{ℕ, ◌≤◌, ◌<◌}
use native.Mathlib.Omega.{arith}
use mathlib.Core.Path.{◌≡◌, refl}
use mathlib.Core.Logic.{◌↔◌, ◌≢◌, ◌⊎◌, inl, inr}
use mathlib.Core.Bool.{Bool, true, false, ◌&&◌, ◌||◌}
use lib.Dec.{T, leb, ltb, leb→le, le→leb}
use borrow.Author.Tests.{ltb-true, ltb-false}

-- ---- cases

-- a test passes or not
pub data Case (b : Bool) : Type 0 where
  is : b ≡ true → Case b
  isnt : b ≡ false → Case b

pub case : (b : Bool) → Case b
case true = is refl
case false = isnt refl

pub lt_or_le : (a b : ℕ) → (a < b) ⊎ (b ≤ a)
lt_or_le a b = elim (case (ltb a b)) [ is e ↦ inl (ltb-true a b e) | isnt e ↦ inr (ltb-false a b e) ]

pub not_le : (a b : ℕ) → (¬ (a ≤ b)) ↔ (b < a)
not_le a b = (λ n. elim (lt_or_le b a) [ inl h ↦ h | inr h ↦ absurd (n h) ], λ h k. omega arith)

-- numbers that cannot differ are equal
pub eq_stable : (a b : ℕ) → ¬ (a ≢ b) → a ≡ b
eq_stable a b n = elim (lt_or_le a b) [
  | inl h ↦ absurd (n (omega arith))
  | inr h ↦ elim (lt_or_le b a) [ inl k ↦ absurd (n (omega arith)) | inr k ↦ omega arith ]
]

-- ---- as facts

pub yes_of : (b : Bool) → b ≡ true → T b
yes_of b e = rw e tt

pub no_of : (b : Bool) → b ≡ false → ¬ T b
no_of b e t = rw e at t

pub is_yes : (b : Bool) → T b → b ≡ true
is_yes true t = refl
is_yes false t = absurd t

pub is_no : (b : Bool) → (¬ T b) → b ≡ false
is_no true n = absurd (n tt)
is_no false n = refl

-- a test that cannot fail passes
pub stable : (b : Bool) → ¬ ¬ T b → T b
stable true n = tt
stable false n = n (λ t. t)

-- ---- and, or

pub and_l : (a b : Bool) → T (a && b) → T a
and_l true b t = tt
and_l false b t = t

pub and_r : (a b : Bool) → T (a && b) → T b
and_r true b t = t
and_r false b t = absurd t

pub and_i : (a b : Bool) → T a → T b → T (a && b)
and_i true b s t = t
and_i false b s t = s

pub or_l : (a b : Bool) → T a → T (a || b)
or_l true b t = t
or_l false b t = absurd t

pub or_r : (a b : Bool) → T b → T (a || b)
or_r true b t = tt
or_r false b t = t

pub or_e : (a b : Bool) → T (a || b) → T a ⊎ T b
or_e true b t = inl t
or_e false b t = inr t

pub T_and : (a b : Bool) → T (a && b) ↔ (T a × T b)
T_and a b = (λ t. (and_l a b t, and_r a b t), λ p. and_i a b p.0 p.1)

pub T-or : (a b : Bool) → T (a || b) ↔ (¬ T a → T b)
T-or true b = (λ t n. absurd (n tt), λ f. tt)
T-or false b = (λ t n. t, λ f. f (λ t. t))

pub T-nor : (a b : Bool) → (¬ T (a || b)) ↔ ((¬ T a) × (¬ T b))
T-nor true b = (λ n. absurd (n tt), λ p. p.0)
T-nor false b = (λ n. (λ t. t, n), λ p. p.1)

pub T-leb : (a b : ℕ) → T (leb a b) ↔ (a ≤ b)
T-leb a b = (leb→le a b, le→leb a b)

pub ruleset tests = (T_and, T-leb)
