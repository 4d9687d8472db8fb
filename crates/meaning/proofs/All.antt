-- What holds of every element of a list, and being an element of one.
use Prim.Native.Nat.{ℕ, zero, suc, ◌+◌, ◌-◌, ◌≤◌, ◌<◌}
use native.Mathlib.Omega.{arith}
use mathlib.Core.Path.{◌≡◌, refl, sym, subst}
use mathlib.Core.Bool.{Bool, true, false}
use mathlib.Core.List.Memᴰ
use mathlib.Core.List.{List, [], ◌∷◌, ◌++◌, map, Memᴰ}
use Rattle.meaning.specs.Lists.{each, cons_if, keep, All}
use Rattle.meaning.proofs.ListLaws.{each_at}

module _ {A : Type 0} where
  pub All-of : (P : A → Type 0) → ((x : A) → P x) → (xs : List A) → All P xs
  All-of P h [] = tt
  All-of P h (x ∷ xs) = (h x, All-of P h xs)

  pub All-mono : (P Q : A → Type 0) → ((x : A) → P x → Q x) → (xs : List A) → All P xs → All Q xs
  All-mono P Q f [] h = tt
  All-mono P Q f (x ∷ xs) h = (f x h.0, All-mono P Q f xs h.1)

  pub All-append : (P : A → Type 0) (xs ys : List A) → All P xs → All P ys → All P (xs ++ ys)
  All-append P [] ys h k = k
  All-append P (x ∷ xs) ys h k = (h.0, All-append P xs ys h.1 k)

  pub All-each : (P : A → Type 0) (f : ℕ → List A) (s k : ℕ) → ((v : ℕ) → s ≤ v → v < s + k → All P (f v)) → All P (each f s k)
  All-each P f s zero h = tt
  All-each P f s (suc k) h =
      All-append P (f s) (each f (suc s) k) (h s (omega arith) (omega arith))
      (All-each P f (suc s) k (λ v a b. h v (omega arith) (omega arith)))

  pub All-keep : (P : A → Type 0) (p : A → Bool) (xs : List A) → All P xs → All P (keep p xs)
  All-keep P p [] h = tt
  All-keep P p (x ∷ xs) h = go (p x) (All-keep P p xs h.1)
    where
      go : (b : Bool) → All P (keep p xs) → All P (cons_if b x (keep p xs))
      go true r = (h.0, r)
      go false r = r

  pub All-at : (P : A → Type 0) (xs : List A) (q : A) (ys : List A) → All P (xs ++ (q ∷ ys)) → P q
  All-at P [] q ys h = h.0
  All-at P (x ∷ xs) q ys h = All-at P xs q ys h.1

  -- ---- all pass the test, or none does

  pub keep_all : (p : A → Bool) (xs : List A) → All (λ x. p x ≡ true) xs → keep p xs ≡ xs
  keep_all p [] h = refl
  keep_all p (x ∷ xs) h = rw (h.0, keep_all p xs h.1)

  pub keep_none : (p : A → Bool) (xs : List A) → All (λ x. p x ≡ false) xs → keep p xs ≡ []
  keep_none p [] h = refl
  keep_none p (x ∷ xs) h = rw h.0 (keep_none p xs h.1)

  pub keep_holds : (p : A → Bool) (xs : List A) → All (λ x. p x ≡ true) (keep p xs)
  keep_holds p [] = tt
  keep_holds p (x ∷ xs) = go (p x) refl (keep_holds p xs)
    where
      go : (b : Bool) → p x ≡ b → All (λ x. p x ≡ true) (keep p xs) → All (λ x. p x ≡ true) (cons_if b x (keep p xs))
      go true e r = (e, r)
      go false e r = r

  -- ---- elements

  pub All-mem : (P : A → Type 0) (x : A) (xs : List A) → All P xs → Memᴰ x xs → P x
  All-mem P x xs h (Memᴰ.head e) = subst P (sym e) h.0
  All-mem P x xs h (Memᴰ.tail {xs = ys} m) = All-mem P x ys h.1 m

  pub mem_each : (x : A) (f : ℕ → List A) (s k v : ℕ) → s ≤ v → v < s + k → Memᴰ x (f v) → Memᴰ x (each f s k)
  mem_each x f s k v a b m = rw (each_at f s k v a b) (Memᴰ.append_right (each f s (v - s)) (Memᴰ.append_left (each f (suc v) (s + k - suc v)) m))

  pub mem_keep : (p : A → Bool) (x : A) (xs : List A) → p x ≡ true → Memᴰ x xs → Memᴰ x (keep p xs)
  mem_keep p x [] t m = elim m [ ]
  mem_keep p x (y ∷ xs) t (Memᴰ.head e) = let q : p y ≡ true = cc in rw q (Memᴰ.head e)
  mem_keep p x (y ∷ xs) t (Memᴰ.tail m) = go (p y) (mem_keep p x xs t m)
    where
      go : (b : Bool) → Memᴰ x (keep p xs) → Memᴰ x (cons_if b y (keep p xs))
      go true r = Memᴰ.tail r
      go false r = r

module _ {A B : Type 0} where
  pub All-map : (P : B → Type 0) (f : A → B) (xs : List A) → All (λ x. P (f x)) xs → All P (map f xs)
  All-map P f [] h = tt
  All-map P f (x ∷ xs) h = (h.0, All-map P f xs h.1)
