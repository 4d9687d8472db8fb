-- The visited prefixes after a cursor, by the levels: below its own path, then the values behind it; and when none is left.
use Prim.Native.Nat.{ℕ, suc, ◌+◌, ◌-◌, ◌≤◌, ◌<◌}
use native.Mathlib.Nat.{zero-add, sub-zero}
use native.Mathlib.Omega.{arith}
use mathlib.Core.Path.{◌≡◌, refl, sym, ap, ◌∙◌}
use mathlib.Core.Bool.{Bool, true, false, cond, ◌&&◌, ◌||◌, or-true}
use mathlib.Core.Logic.{inl, inr}
use mathlib.Core.List.{List, [], ◌∷◌, ◌++◌, map}
use lib.Dec.{T, leb, eqb, eqb-zero-suc, eqb-suc-suc}
use lib.ListN.{length}
use borrow.Author.Tests.{le-leb, lt-leb}
use Rattle.meaning.specs.Lists.{each, keep, is_nil, All}
use Rattle.meaning.specs.Rows.{Row, Sizes, begins, before}
use Rattle.meaning.specs.Listing.{visits, after, Visited}
use Rattle.meaning.specs.Inner.{all_last}
use Rattle.meaning.proofs.Tests.{lt_or_le}
use Rattle.meaning.proofs.ListLaws.{keep_append, keep_map, each_split, is_nil_append, is_nil_map}
use Rattle.meaning.proofs.All.{All-mono, All-each, keep_all, keep_none}
use Rattle.meaning.proofs.Order.{before_none, before_some, before_same, before_more}
use Rattle.meaning.proofs.Tree.{under, tree, limb, visits_tree, HeadIs, HeadFrom, limb_heads, heads_before, each_heads, tree_heads}
use Rattle.meaning.proofs.Visited.{StaysDead, begins_nil, begins_none, begins_cons, LiveTo, Reached, visited_reached}

-- relative, as the tree is
abbrev pub beyond : Sizes → (Row → Bool) → Row → List Row
beyond ns d [] = tree ns d
beyond [] d (v ∷ c) = []
beyond (n ∷ ns) d (v ∷ c) = let r = map (λ s. v ∷ s) (beyond ns (under d v) c) ++ each (limb ns d) (suc v) (n - suc v) in cond (d []) [] r

-- ---- what comes after v ∷ c among the branches: the rest of v's own, and the branches behind it

module _ (ns : Sizes) (d : Row → Bool) (n v : ℕ) (c : Row) (fits : v < n) where
  limbs_split : each (limb ns d) 0 n ≡ each (limb ns d) 0 v ++ (limb ns d v ++ each (limb ns d) (suc v) (n - suc v))
  limbs_split =
      let e : n ≡ v + suc (n - suc v) = omega arith in
      ap (λ k. each (limb ns d) 0 k) e ∙ each_split (limb ns d) 0 v (suc (n - suc v)) ∙ simp zero-add

  -- the test on v's own branch is the test on what follows v
  own_limb : keep (before (v ∷ c)) (limb ns d v) ≡ map (λ s. v ∷ s) (keep (before c) (tree ns (under d v)))
  own_limb =
      rw (before_same v c [], before_none c) (keep_map (before (v ∷ c)) (λ s. v ∷ s) (tree ns (under d v)) ∙ simp (before_same v c))

  earlier : (w : ℕ) → w < v → (x : Row) → HeadIs w x → before (v ∷ c) x ≡ false
  earlier w h [] k = absurd k
  earlier w h (u ∷ x) k = before_more v u c x (omega arith)

  after_limbs : keep (before (v ∷ c)) (each (limb ns d) 0 n)
      ≡ map (λ s. v ∷ s) (keep (before c) (tree ns (under d v))) ++ each (limb ns d) (suc v) (n - suc v)
  after_limbs =
      let low = keep_none (before (v ∷ c)) (each (limb ns d) 0 v)
      (All-each (λ x. before (v ∷ c) x ≡ false) (limb ns d) 0 v
      (λ w a b. All-mono (HeadIs w) (λ x. before (v ∷ c) x ≡ false) (earlier w (omega arith)) (limb ns d w) (limb_heads ns d w))) in
      let high = keep_all (before (v ∷ c)) (each (limb ns d) (suc v) (n - suc v))
      (All-mono (HeadFrom (suc v)) (λ y. before (v ∷ c) y ≡ true) (λ y g. heads_before v (v ∷ c) y refl g) (each (limb ns d) (suc v) (n - suc v))
      (each_heads (limb ns d) (limb_heads ns d) (suc v) (n - suc v))) in
      rw (limbs_split, keep_append (before (v ∷ c)) (each (limb ns d) 0 v), low, keep_append (before (v ∷ c)) (limb ns d v), own_limb, high)

from_nil : (s : Row) → HeadFrom 0 s → before [] s ≡ true
from_nil [] h = absurd h
from_nil (u ∷ s) h = before_some u s

tree_after : (ns : Sizes) (d : Row → Bool) (c : Row) → T (begins ns c) → keep (before c) (tree ns d) ≡ beyond ns d c
tree_after ns d [] h =
    keep_all (before []) (tree ns d) (All-mono (HeadFrom 0) (λ s. before [] s ≡ true) from_nil (tree ns d) (tree_heads ns d))
tree_after [] d (v ∷ c) h = absurd (begins_none v c h)
tree_after (n ∷ ns) d (v ∷ c) h = let i = (begins_cons n ns v c).0 h in go (d []) i.0 (tree_after ns (under d v) c i.1)
  where
    go : (b : Bool) → v < n → keep (before c) (tree ns (under d v)) ≡ beyond ns (under d v) c
        → keep (before (v ∷ c)) (cond b [] (each (limb ns d) 0 n))
        ≡ cond b [] (map (λ s. v ∷ s) (beyond ns (under d v) c) ++ each (limb ns d) (suc v) (n - suc v))
    go true k ih = refl
    go false k ih = rw (← ih) (after_limbs ns d n v c k)

-- ---- the theorems

-- from the beginning, all of them
pub after_beginning : (ns : Sizes) (d : Row → Bool) → after ns d [] ≡ visits ns d
after_beginning ns d = rw (visits_tree ns d) (tree_after ns d [] (begins_nil ns))

pub after_beyond : (ns : Sizes) (d : Row → Bool) (c : Row) → T (begins ns c) → after ns d c ≡ beyond ns d c
after_beyond ns d c h = rw (visits_tree ns d) (tree_after ns d c h)

-- every setting has a value
abbrev pub SomeValues : Sizes → Type 0
SomeValues ns = All (λ n. 1 ≤ n) ns

limbs_none : (ns : Sizes) (d : Row → Bool) (v n : ℕ) → is_nil (each (limb ns d) v (n - v)) ≡ leb n v
limbs_none ns d v n = elim (lt_or_le v n) [
  | inl h ↦ let e : n - v ≡ suc (n - suc v) = omega arith in rw (e, lt-leb n v h)
  | inr h ↦ let e : n - v ≡ 0 = omega arith in rw (e, le-leb n v h)
]

and_turn : (a b c : Bool) → (b && c) && a ≡ (a && b) && c
and_turn true true true = refl
and_turn true true false = refl
and_turn true false c = refl
and_turn false true true = refl
and_turn false true false = refl
and_turn false false c = refl

beyond_none : (ns : Sizes) (d : Row → Bool) (q : Row) → SomeValues ns → T (begins ns q) → LiveTo d q
    → is_nil (beyond ns d q) ≡ all_last ns q && (d q || eqb (length q) (length ns))
beyond_none [] d [] s w l = sym (or-true (d []))
beyond_none (n ∷ ns) d [] s w l = rw (eqb-zero-suc (length ns)) (go (d []))
  where
    go : (b : Bool) → is_nil (cond b [] (each (limb ns d) 0 n)) ≡ b || false
    go true = refl
    go false = rw (sub-zero n) at (limbs_none ns d 0 n) ∙ lt-leb n 0 s.0
beyond_none [] d (v ∷ q) s w l = absurd (begins_none v q w)
beyond_none (n ∷ ns) d (v ∷ q) s w l =
    rw (l.0, is_nil_append, limbs_none ns d (suc v) n, is_nil_map, eqb-suc-suc (length q) (length ns), beyond_none ns (under d v) q s.1 ((begins_cons n ns v q).0 w).1 l.1)
    (and_turn (leb n (suc v)) (all_last ns q) (d (v ∷ q) || eqb (length q) (length ns)))

pub reached_last : (ns : Sizes) (d : Row → Bool) (q : Row) → SomeValues ns → Reached ns d q
    → is_nil (after ns d q) ≡ all_last ns q && (d q || eqb (length q) (length ns))
reached_last ns d q s r = rw (after_beyond ns d q r.1) (beyond_none ns d q s r.1 r.2)

-- THEOREM: whether none is left is decided at the last prefix visited alone: nothing is below it, and each of its values is the last
pub finished_local : (ns : Sizes) (d : Row → Bool) (q : Row) → SomeValues ns → StaysDead d → Visited ns d q
    → is_nil (after ns d q) ≡ all_last ns q && (d q || eqb (length q) (length ns))
finished_local ns d q s m h = reached_last ns d q s (visited_reached ns d q m h)
