-- The visited prefixes RELATIVE to the prefix one stands at: below the value v the sizes are the tail and dead is d (v ∷ _), so that
-- every proof is an induction from the head. `visits_tree` crosses over to the definition.
use Prim.Native.Nat.{ℕ, zero, suc, ◌≤◌}
use native.Mathlib.Omega.{arith}
use mathlib.Core.Path.{◌≡◌, refl, sym, ap, ◌∙◌, fun_ext}
use mathlib.Core.Bool.{Bool, true, false, cond}
use mathlib.Core.List.{List, [], ◌∷◌, ◌++◌, map, append-nil, map-map, map-id}
use lib.Seq.{append_snoc}
use Rattle.meaning.specs.Lists.{each, All, Ascends}
use Rattle.meaning.proofs.ListLaws.{map_each}
use Rattle.meaning.proofs.All.{All-of, All-mono, All-map, All-each}
use Rattle.meaning.proofs.Ascending.{ascends_append}
use Rattle.meaning.specs.Rows.{Row, Sizes, before}
use Rattle.meaning.proofs.Order.{before_some, before_less, before_same}
use Rattle.meaning.specs.Listing.{below, visits}

abbrev pub under : (Row → Bool) → ℕ → Row → Bool
under d v s = d (v ∷ s)

-- the value v, and below it what L says
abbrev pub branch : ℕ → List Row → List Row
branch v L = (v ∷ []) ∷ map (λ s. v ∷ s) L

abbrev pub tree : Sizes → (Row → Bool) → List Row
tree [] d = []
tree (n ∷ ns) d = let r = each (λ v. branch v (tree ns (under d v))) 0 n in cond (d []) [] r

-- one branch of it, as a function of the value
abbrev pub limb : Sizes → (Row → Bool) → ℕ → List Row
limb ns d v = branch v (tree ns (under d v))

-- ---- crossing over

pub below_tree : (d : Row → Bool) (ns : Sizes) (p : Row) → below d ns p ≡ map (λ s. p ++ s) (tree ns (λ s. d (p ++ s)))
below_tree d [] p = refl
below_tree d (n ∷ ns) p = rw (append-nil p) (go (d p) (λ v. simp append_snoc at (below_tree d ns (p ++ (v ∷ [])))))
  where
    go : (b : Bool) → ((v : ℕ) → below d ns (p ++ (v ∷ [])) ≡ map (λ s. p ++ (v ∷ s)) (tree ns (λ s. d (p ++ (v ∷ s)))))
        → cond b [] (each (λ v. (p ++ (v ∷ [])) ∷ below d ns (p ++ (v ∷ []))) 0 n)
        ≡ map (λ s. p ++ s) (cond b [] (each (limb ns (λ s. d (p ++ s))) 0 n))
    go true ih = refl
    go false ih =
        ap (λ (g : ℕ → List Row). each g 0 n)
        (fun_ext (λ v. ap (λ (l : List Row). (p ++ (v ∷ [])) ∷ l)
        (ih v ∙ sym (map-map (λ s. p ++ s) (λ s. v ∷ s) (tree ns (λ s. d (p ++ (v ∷ s))))))))
        ∙ sym (map_each (λ s. p ++ s) (limb ns (λ s. d (p ++ s))) 0 n)

pub visits_tree : (ns : Sizes) (d : Row → Bool) → visits ns d ≡ tree ns d
visits_tree ns d = below_tree d ns [] ∙ map-id (tree ns d)

-- ---- first values

abbrev pub HeadIs : ℕ → Row → Type 0
HeadIs v [] = ⊥
HeadIs v (u ∷ x) = u ≡ v

abbrev pub HeadFrom : ℕ → Row → Type 0
HeadFrom v [] = ⊥
HeadFrom v (u ∷ x) = v ≤ u

head_from : (w v : ℕ) → v ≤ w → (x : Row) → HeadIs w x → HeadFrom v x
head_from w v h [] k = k
head_from w v h (u ∷ x) k = omega arith

pub limb_heads : (ns : Sizes) (d : Row → Bool) (v : ℕ) → All (HeadIs v) (limb ns d v)
limb_heads ns d v = (refl, All-map (HeadIs v) (λ s. v ∷ s) (tree ns (under d v)) (All-of (λ s. v ≡ v) (λ s. refl) (tree ns (under d v))))

pub heads_before : (v : ℕ) (x y : Row) → HeadIs v x → HeadFrom (suc v) y → before x y ≡ true
heads_before v [] y h k = absurd h
heads_before v (u ∷ x) [] h k = absurd k
heads_before v (u ∷ x) (w ∷ y) h k = before_less u w x y (omega arith)

-- lists by their first value, one after the other
module _ (f : ℕ → List Row) (heads : (v : ℕ) → All (HeadIs v) (f v)) where
  pub each_heads : (v k : ℕ) → All (HeadFrom v) (each f v k)
  each_heads v k = All-each (HeadFrom v) f v k (λ w a b. All-mono (HeadIs w) (HeadFrom v) (head_from w v a) (f w) (heads w))

  pub each_ascends : ((v : ℕ) → Ascends before (f v)) → (v k : ℕ) → Ascends before (each f v k)
  each_ascends h v zero = tt
  each_ascends h v (suc k) = ascends_append before (f v) (each f (suc v) k) (h v) (each_ascends h (suc v) k)
      (All-mono (HeadIs v) (λ x. All (λ y. before x y ≡ true) (each f (suc v) k))
      (λ x e. All-mono (HeadFrom (suc v)) (λ y. before x y ≡ true) (λ y g. heads_before v x y e g) (each f (suc v) k) (each_heads (suc v) k))
      (f v) (heads v))

pub tree_heads : (ns : Sizes) (d : Row → Bool) → All (HeadFrom 0) (tree ns d)
tree_heads [] d = tt
tree_heads (n ∷ ns) d = go (d [])
  where
    go : (b : Bool) → All (HeadFrom 0) (cond b [] (each (limb ns d) 0 n))
    go true = tt
    go false = each_heads (limb ns d) (limb_heads ns d) 0 n

-- ---- ascending

pub map_ascends : (v : ℕ) (L : List Row) → Ascends before L → Ascends before (map (λ s. v ∷ s) L)
map_ascends v [] a = tt
map_ascends v (x ∷ L) a = (
  All-map (λ y. before (v ∷ x) y ≡ true) (λ s. v ∷ s) L
      (All-mono (λ y. before x y ≡ true) (λ y. before (v ∷ x) (v ∷ y) ≡ true) (λ y h. before_same v x y ∙ h) L a.0),
  map_ascends v L a.1,
)

branch_ascends : (v : ℕ) (L : List Row) → All (HeadFrom 0) L → Ascends before L → Ascends before (branch v L)
branch_ascends v L h a =
    (All-map (λ y. before (v ∷ []) y ≡ true) (λ s. v ∷ s) L (All-mono (HeadFrom 0) (λ s. before (v ∷ []) (v ∷ s) ≡ true) first L h), map_ascends v L a)
  where
    first : (s : Row) → HeadFrom 0 s → before (v ∷ []) (v ∷ s) ≡ true
    first [] h = absurd h
    first (u ∷ s) h = before_same v [] (u ∷ s) ∙ before_some u s

pub tree_ascends : (ns : Sizes) (d : Row → Bool) → Ascends before (tree ns d)
tree_ascends [] d = tt
tree_ascends (n ∷ ns) d = go (d []) (λ v. tree_ascends ns (under d v))
  where
    go : (b : Bool) → ((v : ℕ) → Ascends before (tree ns (under d v))) → Ascends before (cond b [] (each (limb ns d) 0 n))
    go true ih = tt
    go false ih =
        each_ascends (limb ns d) (limb_heads ns d) (λ v. branch_ascends v (tree ns (under d v)) (tree_heads ns (under d v)) (ih v)) 0 n
