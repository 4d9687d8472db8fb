-- The visited prefixes that are shown are the permitted combinations, each once, ascending.
use Prim.Native.Nat.{ℕ, ◌≤◌, ◌<◌}
use native.Mathlib.Omega.{arith}
use mathlib.Core.Path.{◌≡◌, refl, sym, ap, ◌∙◌, fun_ext}
use mathlib.Core.Bool.{Bool, true, false, cond, not, not-not}
use mathlib.Core.Logic.{◌↔◌}
use mathlib.Core.List.Memᴰ
use mathlib.Core.List.{List, [], ◌∷◌, map, Memᴰ}
use lib.Dec.{T, ltb, ltb→lt, eqb-zero-suc, eqb-suc-suc}
use lib.ListN.{length}
use borrow.Author.Tests.{lt-ltb}
use Rattle.meaning.proofs.Tests.{and_l, and_r, and_i, yes_of, is_yes}
use Rattle.meaning.specs.Lists.{each, keep, All, Ascends}
use Rattle.meaning.proofs.ListLaws.{keep_each, keep_map, each_ext}
use Rattle.meaning.proofs.All.{All-of, All-mono, All-map, All-each, All-keep, All-mem, keep_none, keep_holds, mem_each, mem_keep}
use Rattle.meaning.proofs.Ascending.{ascends_keep}
use Rattle.meaning.specs.Rows.{Row, Sizes, within, before}
use Rattle.meaning.proofs.Members.{within_length}
use Rattle.meaning.specs.Rules.{Rule, all_met}
use Rattle.meaning.specs.Listing.{dead, combinations, visits, shown}
use Rattle.meaning.proofs.Tree.{under, tree, limb, visits_tree, HeadIs, each_ascends, map_ascends}
use Rattle.meaning.proofs.Visited.{StaysDead, under_stays, stays_dead}
use Rattle.meaning.proofs.Dead.{AllDecided, dead_below, dead_not_met}

-- ---- the combinations

pub within_cons : (n : ℕ) (ns : Sizes) (v : ℕ) (x : Row) → T (within (n ∷ ns) (v ∷ x)) ↔ ((v < n) × T (within ns x))
unfolding within
within_cons n ns v x = (
  λ t. (ltb→lt v n (and_l (ltb v n) (within ns x) t), and_r (ltb v n) (within ns x) t),
  λ h. and_i (ltb v n) (within ns x) (yes_of (ltb v n) (lt-ltb v n h.0)) h.1,
)

abbrev leaf : Sizes → ℕ → List Row
leaf ns v = map (λ s. v ∷ s) (combinations ns)

combinations_sound : (ns : Sizes) → All (λ x. T (within ns x)) (combinations ns)
unfolding within
combinations_sound [] = (tt, tt)
combinations_sound (n ∷ ns) = All-each (λ x. T (within (n ∷ ns) x)) (leaf ns) 0 n
    (λ v a b. All-map (λ x. T (within (n ∷ ns) x)) (λ s. v ∷ s) (combinations ns)
    (All-mono (λ x. T (within ns x)) (λ x. T (within (n ∷ ns) (v ∷ x))) (λ x h. (within_cons n ns v x).1 (omega arith, h)) (combinations ns) (combinations_sound ns)))

combinations_complete : (ns : Sizes) (x : Row) → T (within ns x) → Memᴰ x (combinations ns)
unfolding within
combinations_complete [] [] h = Memᴰ.head refl
combinations_complete [] (v ∷ x) h = absurd h
combinations_complete (n ∷ ns) [] h = absurd h
combinations_complete (n ∷ ns) (v ∷ x) h =
    let i = (within_cons n ns v x).0 h in
    mem_each (v ∷ x) (leaf ns) 0 n v (omega arith) (omega arith) (Memᴰ.map (λ s. v ∷ s) (combinations_complete ns x i.1))

-- THEOREM: `combinations` holds exactly the combinations within the sizes, strictly ascending
pub combinations_exact : (ns : Sizes) (x : Row) → Memᴰ x (combinations ns) ↔ T (within ns x)
combinations_exact ns x = (All-mem (λ y. T (within ns y)) x (combinations ns) (combinations_sound ns), combinations_complete ns x)

pub combinations_ascending : (ns : Sizes) → Ascends before (combinations ns)
combinations_ascending [] = (tt, tt)
combinations_ascending (n ∷ ns) = each_ascends (leaf ns) heads (λ v. map_ascends v (combinations ns) (combinations_ascending ns)) 0 n
  where
    heads : (v : ℕ) → All (HeadIs v) (leaf ns v)
    heads v = All-map (HeadIs v) (λ s. v ∷ s) (combinations ns) (All-of (λ s. v ≡ v) (λ s. refl) (combinations ns))

-- ---- what is shown

abbrev pub live : (Row → Bool) → Row → Bool
live d s = not (d s)

shown_under : (n : ℕ) (ns : Sizes) (d : Row → Bool) (v : ℕ) (s : Row) → shown (n ∷ ns) d (v ∷ s) ≡ shown ns (under d v) s
shown_under n ns d v s = rw (eqb-suc-suc (length s) (length ns))

-- the root counted in: one shape of branch
shown_root : (ns : Sizes) (d : Row → Bool) → StaysDead d → keep (shown ns d) ([] ∷ tree ns d) ≡ keep (live d) (combinations ns)
shown_root [] d m = refl
shown_root (n ∷ ns) d m = rw (eqb-zero-suc (length ns)) (go (d []) refl (λ v. shown_root ns (under d v) (under_stays d m v)))
  where
    go : (b : Bool) → d [] ≡ b → ((v : ℕ) → keep (shown ns (under d v)) ([] ∷ tree ns (under d v)) ≡ keep (live (under d v)) (combinations ns))
        → keep (shown (n ∷ ns) d) (cond b [] (each (limb ns d) 0 n)) ≡ keep (live d) (combinations (n ∷ ns))
    go true e ih = sym (keep_none (live d) (combinations (n ∷ ns))
        (All-of (λ s. live d s ≡ false) (λ s. rw (is_yes (d s) (stays_dead d m s [] (yes_of (d []) e)))) (combinations (n ∷ ns))))
    go false e ih =
        keep_each (shown (n ∷ ns) d) (limb ns d) 0 n
        ∙ each_ext (λ v. keep (shown (n ∷ ns) d) (limb ns d v)) (λ v. keep (live d) (leaf ns v))
        (λ v. keep_map (shown (n ∷ ns) d) (λ s. v ∷ s) ([] ∷ tree ns (under d v))
        ∙ ap (λ (p : Row → Bool). map (λ s. v ∷ s) (keep p ([] ∷ tree ns (under d v)))) (fun_ext (shown_under n ns d v))
        ∙ ap (λ (l : List Row). map (λ s. v ∷ s) l) (ih v)
        ∙ sym (keep_map (live d) (λ s. v ∷ s) (combinations ns))) 0 n
        ∙ sym (keep_each (live d) (leaf ns) 0 n)

pub shown_live : (ns : Sizes) (d : Row → Bool) → 1 ≤ length ns → StaysDead d → keep (shown ns d) (visits ns d) ≡ keep (live d) (combinations ns)
shown_live [] d h m = absurd (omega arith)
shown_live (n ∷ ns) d h m = rw (visits_tree (n ∷ ns) d) (rw (eqb-zero-suc (length ns)) at (shown_root (n ∷ ns) d m))

keep_alike : (p q : Row → Bool) (xs : List Row) → All (λ x. p x ≡ q x) xs → keep p xs ≡ keep q xs
keep_alike p q [] h = refl
keep_alike p q (x ∷ xs) h = rw (h.0, keep_alike p q xs h.1)

-- ---- the theorems

-- of a book whose literals are on the settings, what is shown is what is permitted, in the same order
pub shown_permitted : (ns : Sizes) (rules : List Rule) → 1 ≤ length ns → AllDecided (length ns) rules
    → keep (shown ns (dead rules)) (visits ns (dead rules)) ≡ keep (λ x. all_met rules x) (combinations ns)
shown_permitted ns rules h k =
    shown_live ns (dead rules) h (dead_below rules)
    ∙ keep_alike (live (dead rules)) (all_met rules) (combinations ns)
    (All-mono (λ x. T (within ns x)) (λ x. live (dead rules) x ≡ all_met rules x) same (combinations ns) (combinations_sound ns))
  where
    same : (x : Row) → T (within ns x) → live (dead rules) x ≡ all_met rules x
    same x w = let e = within_length ns x w in ap not (dead_not_met rules x (rw e k)) ∙ not-not (all_met rules x)

-- and so each permitted combination is shown exactly once, ascending
pub permitted_ascending : (ns : Sizes) (rules : List Rule) → Ascends before (keep (λ x. all_met rules x) (combinations ns))
permitted_ascending ns rules = ascends_keep before (all_met rules) (combinations ns) (combinations_ascending ns)

pub permitted_exact : (ns : Sizes) (rules : List Rule) (x : Row)
    → Memᴰ x (keep (λ x. all_met rules x) (combinations ns)) ↔ (T (within ns x) × T (all_met rules x))
permitted_exact ns rules x = (
  λ h. (
    All-mem (λ y. T (within ns y)) x (keep (all_met rules) (combinations ns)) (All-keep (λ y. T (within ns y)) (all_met rules) (combinations ns) (combinations_sound ns)) h,
    yes_of (all_met rules x) (All-mem (λ y. all_met rules y ≡ true) x (keep (all_met rules) (combinations ns)) (keep_holds (all_met rules) (combinations ns)) h),
  ),
  λ h. mem_keep (all_met rules) x (combinations ns) (is_yes (all_met rules x) h.1) (combinations_complete ns x h.0),
)
