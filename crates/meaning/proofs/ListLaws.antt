-- Laws of the words on lists: keep, each, the last one, and none at all.
use Prim.Native.Nat.{ℕ, zero, suc, ◌+◌, ◌-◌, ◌≤◌, ◌<◌}
use native.Mathlib.Nat.{zero-add, suc-add, add-suc, add-zero}
use native.Mathlib.Omega.{arith}
use mathlib.Core.Path.{◌≡◌, refl, sym, ap, ◌∙◌, fun_ext}
use mathlib.Core.Bool.{Bool, true, false, ◌&&◌, true≢false, false≢true}
use mathlib.Core.List.{List, [], ◌∷◌, ◌++◌, map, append_assoc, map-append}
use lib.ListN.{length}
use Rattle.meaning.specs.Lists.{each, cons_if, keep, is_nil, last_or}

module _ {A : Type 0} where
  -- ---- keep

  cons_if_append : (b : Bool) (x : A) (r s : List A) → cons_if b x r ++ s ≡ cons_if b x (r ++ s)
  cons_if_append true x r s = refl
  cons_if_append false x r s = refl

  pub keep_append : (p : A → Bool) (xs ys : List A) → keep p (xs ++ ys) ≡ keep p xs ++ keep p ys
  keep_append p [] ys = refl
  keep_append p (x ∷ xs) ys = rw (keep_append p xs ys) (sym (cons_if_append (p x) x (keep p xs) (keep p ys)))

  -- kept twice, by tests of which one implies the other
  pub keep_keep : (p r : A → Bool) → ((x : A) → p x ≡ true → r x ≡ true) → (xs : List A) → keep p (keep r xs) ≡ keep p xs
  keep_keep p r i [] = refl
  keep_keep p r i (x ∷ xs) = go (p x) (r x) refl refl (keep_keep p r i xs)
    where
      go : (a b : Bool) → p x ≡ a → r x ≡ b → keep p (keep r xs) ≡ keep p xs → keep p (cons_if b x (keep r xs)) ≡ cons_if a x (keep p xs)
      go true true e f ih = rw (e, ih)
      go true false e f ih = absurd (true≢false (sym (i x e) ∙ f))
      go false true e f ih = rw e ih
      go false false e f ih = ih

  pub keep_each : (p : A → Bool) (f : ℕ → List A) (s k : ℕ) → keep p (each f s k) ≡ each (λ v. keep p (f v)) s k
  keep_each p f s zero = refl
  keep_each p f s (suc k) = rw (keep_append p (f s) (each f (suc s) k), keep_each p f (suc s) k)

  -- ---- each

  pub each_ext : (f g : ℕ → List A) → ((v : ℕ) → f v ≡ g v) → (s k : ℕ) → each f s k ≡ each g s k
  each_ext f g h s k = rw (fun_ext h)

  pub each_split : (f : ℕ → List A) (s a b : ℕ) → each f s (a + b) ≡ each f s a ++ each f (s + a) b
  each_split f s zero b = rw (zero-add, add-zero)
  each_split f s (suc a) b =
      rw (suc-add, each_split f (suc s) a b, add-suc, suc-add) (sym (append_assoc (f s) (each f (suc s) a) (each f (suc (s + a)) b)))

  -- those before v, v's own, and those behind it
  pub each_at : (f : ℕ → List A) (s k v : ℕ) → s ≤ v → v < s + k → each f s k ≡ each f s (v - s) ++ (f v ++ each f (suc v) (s + k - suc v))
  each_at f s k v a b =
      let e : k ≡ (v - s) + suc (s + k - suc v) = omega arith in
      let g : s + (v - s) ≡ v = omega arith in
      ap (λ j. each f s j) e ∙ each_split f s (v - s) (suc (s + k - suc v)) ∙ rw g

  -- ---- the last one, and none at all

  -- a list that is not empty ends in its last
  pub last_split : (x : A) (xs : List A) → (ys : List A) × (x ∷ xs ≡ ys ++ (last_or x xs ∷ []))
  last_split x [] = ([], refl)
  last_split x (y ∷ xs) = let r = last_split y xs in (x ∷ r.0, ap (λ (l : List A). x ∷ l) r.1)

  pub is_nil_append : (xs ys : List A) → is_nil (xs ++ ys) ≡ is_nil xs && is_nil ys
  is_nil_append [] ys = refl
  is_nil_append (x ∷ xs) ys = refl

  pub is_nil_nil : (xs : List A) → is_nil xs ≡ true → xs ≡ []
  is_nil_nil [] h = refl
  is_nil_nil (x ∷ xs) h = absurd (false≢true h)

  pub is_nil_some : (xs : List A) → is_nil xs ≡ false → 1 ≤ length xs
  is_nil_some [] h = absurd (true≢false h)
  is_nil_some (x ∷ xs) h = omega arith

-- ---- map

module _ {A B : Type 0} where
  pub keep_map : (p : B → Bool) (f : A → B) (xs : List A) → keep p (map f xs) ≡ map f (keep (λ x. p (f x)) xs)
  keep_map p f [] = refl
  keep_map p f (x ∷ xs) = rw (keep_map p f xs)
      (elim (p (f x)) as (λ b. cons_if b (f x) (map f (keep (λ x. p (f x)) xs)) ≡ map f (cons_if b x (keep (λ x. p (f x)) xs))) [ true ↦ refl | false ↦ refl ])

  pub map_each : (f : A → B) (g : ℕ → List A) (s k : ℕ) → map f (each g s k) ≡ each (λ v. map f (g v)) s k
  map_each f g s zero = refl
  map_each f g s (suc k) = rw (map-append f (g s) (each g (suc s) k), map_each f g (suc s) k)

  pub is_nil_map : (f : A → B) (xs : List A) → is_nil (map f xs) ≡ is_nil xs
  is_nil_map f [] = refl
  is_nil_map f (x ∷ xs) = refl
