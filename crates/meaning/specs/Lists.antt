-- Lists: the few words on lists that the definitions use.
use Rattle.std.specs.Prelude.{ℕ, zero, suc, Bool, true, false, List, [], ◌∷◌, ◌++◌, ◌≡◌}

module _ {A : Type 0} where
  -- a list of one, if the test passes
  abbrev pub opt : Bool → A → List A
  opt true a = a ∷ []
  opt false a = []

  -- f s, f (s + 1), .., k of them, one after the other
  abbrev pub each : (ℕ → List A) → ℕ → ℕ → List A
  each f s zero = []
  each f s (suc k) = f s ++ each f (suc s) k

  abbrev pub cons_if : Bool → A → List A → List A
  cons_if true x r = x ∷ r
  cons_if false x r = r

  -- those that pass the test, in their order
  abbrev pub keep : (A → Bool) → List A → List A
  keep p [] = []
  keep p (x ∷ xs) = cons_if (p x) x (keep p xs)

  abbrev pub is_nil : List A → Bool
  is_nil [] = true
  is_nil (x ∷ xs) = false

  -- the last, or c where there is none
  abbrev pub last_or : A → List A → A
  last_or c [] = c
  last_or c (x ∷ xs) = last_or x xs

  abbrev pub All : (A → Type 0) → List A → Type 0
  All P [] = Unit {0}
  All P (x ∷ xs) = P x × All P xs

module _ {A : Type 0} (lt : A → A → Bool) where
  abbrev pub Ascends : List A → Type 0
  Ascends [] = Unit {0}
  Ascends (x ∷ xs) = All (λ y. lt x y ≡ true) xs × Ascends xs
