-- Strictly ascending lists: each element comes before ALL that follow it. What comes after an element is what stands behind it.
use mathlib.Core.Path.{◌≡◌}
use mathlib.Core.Bool.{Bool, true, false}
use mathlib.Core.List.{List, [], ◌∷◌, ◌++◌}
use Rattle.meaning.specs.Lists.{cons_if, keep, All, Ascends}
use Rattle.meaning.proofs.ListLaws.{keep_append}
use Rattle.meaning.proofs.All.{All-append, All-keep, keep_all, keep_none}

module _ {A : Type 0} (lt : A → A → Bool) where
  pub ascends_append : (xs ys : List A) → Ascends lt xs → Ascends lt ys → All (λ x. All (λ y. lt x y ≡ true) ys) xs → Ascends lt (xs ++ ys)
  ascends_append [] ys a b h = b
  ascends_append (x ∷ xs) ys a b h =
      (All-append (λ y. lt x y ≡ true) xs ys a.0 h.0, ascends_append xs ys a.1 b h.1)

  pub ascends_keep : (p : A → Bool) (xs : List A) → Ascends lt xs → Ascends lt (keep p xs)
  ascends_keep p [] a = tt
  ascends_keep p (x ∷ xs) a = go (p x) (ascends_keep p xs a.1)
    where
      go : (b : Bool) → Ascends lt (keep p xs) → Ascends lt (cons_if b x (keep p xs))
      go true r = (All-keep (λ y. lt x y ≡ true) p xs a.0, r)
      go false r = r

  module _ (asymmetric : (x y : A) → lt x y ≡ true → lt y x ≡ false) (irreflexive : (x : A) → lt x x ≡ false) where
    ascends_front : (xs : List A) (q : A) (ys : List A) → Ascends lt (xs ++ (q ∷ ys)) → All (λ x. lt q x ≡ false) xs
    ascends_front [] q ys a = tt
    ascends_front (x ∷ xs) q ys a = (asymmetric x q (at xs a.0), ascends_front xs q ys a.1)
      where
        at : (zs : List A) → All (λ y. lt x y ≡ true) (zs ++ (q ∷ ys)) → lt x q ≡ true
        at [] h = h.0
        at (z ∷ zs) h = at zs h.1

    ascends_back : (xs ys : List A) → Ascends lt (xs ++ ys) → Ascends lt ys
    ascends_back [] ys a = a
    ascends_back (x ∷ xs) ys a = ascends_back xs ys a.1

    pub ascends_after : (xs : List A) (q : A) (ys : List A) → Ascends lt (xs ++ (q ∷ ys)) → keep (lt q) (xs ++ (q ∷ ys)) ≡ ys
    ascends_after xs q ys a =
        rw (keep_append (lt q) xs (q ∷ ys), keep_none (lt q) xs (ascends_front xs q ys a), irreflexive q)
        (keep_all (lt q) ys (ascends_back xs (q ∷ ys) a).0)
