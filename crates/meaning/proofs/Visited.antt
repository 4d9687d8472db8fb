-- The visited prefixes are strictly ascending, and they are exactly the nonempty prefixes whose prefix one shorter is live.
use Prim.Native.Nat.{ℕ, ◌<◌}
use native.Mathlib.Omega.{arith}
use mathlib.Core.Path.{◌≡◌, refl, sym, ◌∙◌, subst}
use mathlib.Core.Bool.{Bool, true, false, cond, true≢false}
use mathlib.Core.Logic.{◌↔◌}
use mathlib.Core.List.Memᴰ
use mathlib.Core.List.{[], ◌∷◌, ◌++◌, append-nil, Memᴰ}
use lib.Dec.{T, ltb, ltb→lt}
use lib.Seq.{append_snoc}
use borrow.Author.Tests.{lt-ltb}
use Rattle.meaning.specs.Lists.{each, last_or, All, Ascends}
use Rattle.meaning.specs.Rows.{Row, Sizes, begins, before}
use Rattle.meaning.specs.Listing.{visits, Visited}
use Rattle.meaning.proofs.Tests.{and_l, and_r, and_i, yes_of, is_yes, case, is, isnt}
use Rattle.meaning.proofs.ListLaws.{last_split}
use Rattle.meaning.proofs.All.{All-mono, All-map, All-each, All-mem, mem_each}
use Rattle.meaning.proofs.Tree.{under, tree, limb, visits_tree, tree_ascends}

-- dead stays dead below
abbrev pub StaysDead : (Row → Bool) → Type 0
StaysDead d = (p : Row) (v : ℕ) → T (d p) → T (d (p ++ (v ∷ [])))

-- ---- prefixes within the sizes

pub begins_nil : (ns : Sizes) → T (begins ns [])
unfolding begins
begins_nil ns = tt

pub begins_none : (v : ℕ) (x : Row) → ¬ T (begins [] (v ∷ x))
unfolding begins
begins_none v x t = t

pub begins_cons : (n : ℕ) (ns : Sizes) (v : ℕ) (x : Row) → T (begins (n ∷ ns) (v ∷ x)) ↔ ((v < n) × T (begins ns x))
unfolding begins
begins_cons n ns v x = (
  λ t. (ltb→lt v n (and_l (ltb v n) (begins ns x) t), and_r (ltb v n) (begins ns x) t),
  λ h. and_i (ltb v n) (begins ns x) (yes_of (ltb v n) (lt-ltb v n h.0)) h.1,
)

-- ---- every proper prefix is live

abbrev pub LiveTo : (Row → Bool) → Row → Type 0
LiveTo d [] = Unit {0}
LiveTo d (v ∷ x) = (d [] ≡ false) × LiveTo (under d v) x

pub under_stays : (d : Row → Bool) → StaysDead d → (v : ℕ) → StaysDead (under d v)
under_stays d m v p u h = m (v ∷ p) u h

pub stays_dead : (d : Row → Bool) → StaysDead d → (t s : Row) → T (d s) → T (d (s ++ t))
stays_dead d m [] s h = rw append-nil h
stays_dead d m (v ∷ t) s h = rw append_snoc at (stays_dead d m t (s ++ (v ∷ [])) (m s v h))

pub root_live : (d : Row → Bool) → StaysDead d → (x : Row) → d x ≡ false → d [] ≡ false
root_live d m x e = elim (case (d [])) [
  | is q ↦ absurd (true≢false (sym (is_yes (d x) (stays_dead d m x [] (yes_of (d []) q))) ∙ e))
  | isnt q ↦ q
]

pub live_to : (d : Row → Bool) → StaysDead d → (x : Row) → d x ≡ false → LiveTo d x
live_to d m [] e = tt
live_to d m (v ∷ x) e = (root_live d m (v ∷ x) e, live_to (under d v) (under_stays d m v) x e)

-- as soon as the prefix one shorter is
pub live_longer : (d : Row → Bool) → StaysDead d → (x : Row) (v : ℕ) → d x ≡ false → LiveTo d (x ++ (v ∷ []))
live_longer d m [] v e = (e, tt)
live_longer d m (u ∷ x) v e = (root_live d m (u ∷ x) e, live_longer (under d u) (under_stays d m u) x v e)

live_shorter : (d : Row → Bool) (x : Row) (v : ℕ) → LiveTo d (x ++ (v ∷ [])) → d x ≡ false
live_shorter d [] v h = h.0
live_shorter d (u ∷ x) v h = live_shorter (under d u) x v h.1

-- ---- the members of the tree

abbrev pub Some : Row → Type 0
Some [] = ⊥
Some (v ∷ x) = Unit {0}

-- the same, from the head
abbrev pub Reached : Sizes → (Row → Bool) → Row → Type 0
Reached ns d x = Some x × T (begins ns x) × LiveTo d x

pub tree_sound : (ns : Sizes) (d : Row → Bool) → All (Reached ns d) (tree ns d)
tree_sound [] d = tt
tree_sound (n ∷ ns) d = go (d []) refl (λ v. tree_sound ns (under d v))
  where
    go : (b : Bool) → d [] ≡ b → ((v : ℕ) → All (Reached ns (under d v)) (tree ns (under d v))) → All (Reached (n ∷ ns) d) (cond b [] (each (limb ns d) 0 n))
    go true e ih = tt
    go false e ih = All-each (Reached (n ∷ ns) d) (limb ns d) 0 n (λ v a b. (
      (tt, (begins_cons n ns v []).1 (omega arith, begins_nil ns), (e, tt)),
      All-map (Reached (n ∷ ns) d) (λ s. v ∷ s) (tree ns (under d v))
          (All-mono (Reached ns (under d v)) (λ s. Reached (n ∷ ns) d (v ∷ s)) (λ s h. (tt, (begins_cons n ns v s).1 (omega arith, h.1), (e, h.2))) (tree ns (under d v)) (ih v)),
    ))

tree_complete : (ns : Sizes) (d : Row → Bool) (x : Row) → Reached ns d x → Memᴰ x (tree ns d)
tree_complete ns d [] h = absurd h.0
tree_complete [] d (v ∷ x) h = absurd (begins_none v x h.1)
tree_complete (n ∷ ns) d (v ∷ []) h =
    let i = (begins_cons n ns v []).0 h.1 in
    rw h.2.0 (mem_each (v ∷ []) (limb ns d) 0 n v (omega arith) (omega arith) (Memᴰ.head refl))
tree_complete (n ∷ ns) d (v ∷ (u ∷ x)) h =
    let i = (begins_cons n ns v (u ∷ x)).0 h.1 in
    rw h.2.0 (mem_each (v ∷ (u ∷ x)) (limb ns d) 0 n v (omega arith) (omega arith)
    (Memᴰ.tail (Memᴰ.map (λ s. v ∷ s) (tree_complete ns (under d v) (u ∷ x) (tt, i.1, h.2.1)))))

pub visited_reached : (ns : Sizes) (d : Row → Bool) (x : Row) → StaysDead d → Visited ns d x → Reached ns d x
visited_reached ns d x m h = (
  some h.shorter h.value x h.longer,
  h.inside,
  rw h.longer (live_longer d m h.shorter h.value h.live),
)
  where
    some : (p : Row) (v : ℕ) (x : Row) → x ≡ p ++ (v ∷ []) → Some x
    some [] v x e = rw e tt
    some (u ∷ p) v x e = rw e tt

reached_visited : (ns : Sizes) (d : Row → Bool) (x : Row) → Reached ns d x → Visited ns d x
reached_visited ns d [] h = absurd h.0
reached_visited ns d (v ∷ x) h =
    let s = last_split v x in
    record { shorter = s.0; value = last_or v x; longer = s.1; inside = h.1; live = live_shorter d s.0 (last_or v x) (subst (LiveTo d) s.1 h.2) }

-- ---- the theorems

-- each visited prefix comes before ALL that follow it: so none is visited twice
pub visits_ascending : (ns : Sizes) (d : Row → Bool) → Ascends before (visits ns d)
visits_ascending ns d = rw (visits_tree ns d) (tree_ascends ns d)

pub visits_exact : (ns : Sizes) (d : Row → Bool) → StaysDead d → (x : Row) → Memᴰ x (visits ns d) ↔ Visited ns d x
visits_exact ns d m x = rw (visits_tree ns d) (
  λ h. reached_visited ns d x (All-mem (Reached ns d) x (tree ns d) (tree_sound ns d) h),
  λ h. tree_complete ns d x (visited_reached ns d x m h),
)
