-- Course: the prefixes that the code goes through, one after the other, and that they are the visited ones after the cursor.
use Prim.Native.Nat.{ℕ, zero, suc, ◌+◌, ◌-◌}
use native.Mathlib.Nat.{sub-zero}
use native.Mathlib.Numerals.{add-one}
use native.Mathlib.Omega.{arith}
use mathlib.Core.Path.{◌≡◌, refl, sym, ap, ◌∙◌, fun_ext}
use mathlib.Core.Bool.{Bool, true, false, cond}
use mathlib.Core.List.{List, [], ◌∷◌, ◌++◌, map, append-nil, map-append, map-map, map-id}
use lib.Dec.{T}
use lib.ListN.{length, get_or}
use lib.Seq.{append_snoc}
use Rattle.meaning.specs.Lists.{each}
use Rattle.meaning.specs.Rows.{Row, Sizes, begins}
use Rattle.meaning.specs.Listing.{below, after}
use Rattle.meaning.proofs.ListLaws.{map_each}
use Rattle.meaning.proofs.Tree.{tree, limb, below_tree}
use Rattle.meaning.proofs.After.{beyond, after_beyond}
use Rattle.listing.specs.Inner.{part, branch_of, from_of, past_of}

module _ (d : Row → Bool) where
  -- no level is gone into below a dead prefix
  abbrev pub stop_at : Bool → Sizes → Sizes
  stop_at true ns = []
  stop_at false ns = ns

  pub below_from : (ns : Sizes) (p : Row) → below d ns p ≡ from_of d (stop_at (d p) ns) p 0
  below_from [] p = go (d p)
    where
      go : (b : Bool) → [] ≡ from_of d (stop_at b []) p 0
      go true = refl
      go false = refl
  below_from (n ∷ ns) p = go (d p)
    where
      go : (b : Bool) → cond b [] (each (branch_of d ns p) 0 n) ≡ from_of d (stop_at b (n ∷ ns)) p 0
      go true = refl
      go false = rw (sub-zero n)

  -- ---- the visited prefixes after the cursor

  branch_limb : (ns : Sizes) (p : Row) (v : ℕ) → branch_of d ns p v ≡ map (λ s. p ++ s) (limb ns (λ s. d (p ++ s)) v)
  branch_limb ns p v =
      ap (λ (l : List Row). (p ++ (v ∷ [])) ∷ l)
      ((simp append_snoc at (below_tree d ns (p ++ (v ∷ [])))) ∙ sym (map-map (λ s. p ++ s) (λ s. v ∷ s) (tree ns (λ s. d (p ++ (v ∷ s))))))

  past_beyond : (ns : Sizes) (p c : Row) → past_of d ns p c ≡ map (λ s. p ++ s) (beyond ns (λ s. d (p ++ s)) c)
  past_beyond ns p [] = below_tree d ns p
  past_beyond [] p (v ∷ c) = refl
  past_beyond (n ∷ ns) p (v ∷ c) = rw (append-nil p) (go (d p) (simp append_snoc at (past_beyond ns (p ++ (v ∷ [])) c)))
    where
      go : (b : Bool) → past_of d ns (p ++ (v ∷ [])) c ≡ map (λ s. p ++ (v ∷ s)) (beyond ns (λ s. d (p ++ (v ∷ s))) c)
          → cond b [] (past_of d ns (p ++ (v ∷ [])) c ++ each (branch_of d ns p) (suc v) (n - suc v))
          ≡ map (λ s. p ++ s) (cond b [] (map (λ s. v ∷ s) (beyond ns (λ s. d (p ++ (v ∷ s))) c) ++ each (limb ns (λ s. d (p ++ s))) (suc v) (n - suc v)))
      go true ih = refl
      go false ih =
          ap (λ (l : List Row). l ++ each (branch_of d ns p) (suc v) (n - suc v))
          (ih ∙ sym (map-map (λ s. p ++ s) (λ s. v ∷ s) (beyond ns (λ s. d (p ++ (v ∷ s))) c)))
          ∙ ap (λ (g : ℕ → List Row). map (λ s. p ++ s) (map (λ s. v ∷ s) (beyond ns (λ s. d (p ++ (v ∷ s))) c)) ++ each g (suc v) (n - suc v)) (fun_ext (branch_limb ns p))
          ∙ ap (λ (l : List Row). map (λ s. p ++ s) (map (λ s. v ∷ s) (beyond ns (λ s. d (p ++ (v ∷ s))) c)) ++ l) (sym (map_each (λ s. p ++ s) (limb ns (λ s. d (p ++ s))) (suc v) (n - suc v)))
          ∙ sym (map-append (λ s. p ++ s) (map (λ s. v ∷ s) (beyond ns (λ s. d (p ++ (v ∷ s))) c)) (each (limb ns (λ s. d (p ++ s))) (suc v) (n - suc v)))

  pub past_after : (ns : Sizes) (c : Row) → T (begins ns c) → past_of d ns [] c ≡ after ns d c
  past_after ns c w = past_beyond ns [] c ∙ map-id (beyond ns d c) ∙ sym (after_beyond ns d c w)

-- ---- parts of the sizes

pub part_cons : (ns : Sizes) (i k : ℕ) → (k ≡ 0 → ⊥) → part ns i k ≡ get_or ns i 0 ∷ part ns (i + 1) (k - 1)
part_cons ns i zero h = absurd (h refl)
part_cons ns i (suc k) h = let e : suc k - 1 ≡ k = omega arith in rw e

part_next : (n : ℕ) (ns : Sizes) (i k : ℕ) → part (n ∷ ns) (i + 1) k ≡ part ns i k
part_next n ns i zero = refl
part_next n ns i (suc k) = rw (part_next n ns (i + 1) k, add-one i)

pub part_all : (ns : Sizes) → part ns 0 (length ns) ≡ ns
part_all [] = refl
part_all (n ∷ ns) = ap (λ (t : Sizes). n ∷ t) (part_next n ns 0 (length ns) ∙ part_all ns)
