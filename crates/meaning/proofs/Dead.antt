-- A dead prefix stays dead below, and a dead prefix of full length is a combination that is not permitted.
use Prim.Native.Nat.{ℕ, ◌≤◌, ◌<◌}
use native.Mathlib.Omega.{arith}
use mathlib.Core.Path.{◌≡◌, refl, sym}
use mathlib.Core.Bool.{Bool, true, false, not, ◌&&◌, ◌||◌, or_assoc}
use mathlib.Core.Logic.{◌↔◌, inl, inr}
use mathlib.Core.List.{List, [], ◌∷◌, ◌++◌}
use lib.Dec.{T, ltb, ltb→lt}
use lib.ListN.{length, length-append, get_or-append}
use borrow.Author.Tests.{lt-ltb}
use Rattle.meaning.proofs.Tests.{and_l, and_r, and_i, or_l, or_r, or_e, yes_of, is_yes}
use Rattle.meaning.specs.Lists.{All}
use Rattle.meaning.specs.Rows.{Row, Sizes, at}
use Rattle.meaning.specs.Rules.{Literal, at_most, at_least, Rule, setting, holds, met, all_met, AllFit, AllGood}
use Rattle.meaning.specs.Listing.{decided, dead}

-- ---- a rule that is decided at p is met below p iff it is met at p

pub holds_alike : (c : Literal) (x y : Row) → at x (setting c) ≡ at y (setting c) → holds c x ≡ holds c y
unfolding holds
holds_alike (at_most i d) x y e = rw e
holds_alike (at_least i d) x y e = rw e

pub holds_prefix : (c : Literal) (p q : Row) → setting c < length p → holds c (p ++ q) ≡ holds c p
holds_prefix c p q h = holds_alike c (p ++ q) p (get_or-append p q 0 (setting c) h)

pub met_prefix : (r : Rule) (p q : Row) → T (decided (length p) r) → met r (p ++ q) ≡ met r p
unfolding met decided
met_prefix [] p q h = refl
met_prefix (c ∷ r) p q h =
    let i = ltb→lt (setting c) (length p) (and_l (ltb (setting c) (length p)) (decided (length p) r) h) in
    rw (holds_prefix c p q i, met_prefix r p q (and_r (ltb (setting c) (length p)) (decided (length p) r) h))

pub decided_more : (k m : ℕ) → k ≤ m → (r : Rule) → T (decided k r) → T (decided m r)
unfolding decided
decided_more k m h [] t = tt
decided_more k m h (c ∷ r) t =
    let i = ltb→lt (setting c) k (and_l (ltb (setting c) k) (decided k r) t) in
    and_i (ltb (setting c) m) (decided m r) (yes_of (ltb (setting c) m) (lt-ltb (setting c) m (omega arith)))
    (decided_more k m h r (and_r (ltb (setting c) k) (decided k r) t))

-- ---- dead

pub dead_cons : (r : Rule) (rules : List Rule) (p : Row) → dead (r ∷ rules) p ≡ (decided (length p) r && not (met r p)) || dead rules p
unfolding dead
dead_cons r rules p = refl

pub dead_append : (rules more : List Rule) (p : Row) → dead (rules ++ more) p ≡ dead rules p || dead more p
unfolding dead
dead_append [] more p = refl
dead_append (r ∷ rules) more p = rw (dead_append rules more p) (sym (or_assoc (decided (length p) r && not (met r p)) (dead rules p) (dead more p)))

pub dead_prefix : (rules : List Rule) (p q : Row) → T (dead rules p) → T (dead rules (p ++ q))
unfolding dead
dead_prefix [] p q h = h
dead_prefix (r ∷ rules) p q h = elim (or_e (decided (length p) r && not (met r p)) (dead rules p) h) [
  | inl t ↦
      let k = and_l (decided (length p) r) (not (met r p)) t in
      let longer : length p ≤ length (p ++ q) = omega (arith, length-append p q) in
      or_l (decided (length (p ++ q)) r && not (met r (p ++ q))) (dead rules (p ++ q))
      (and_i (decided (length (p ++ q)) r) (not (met r (p ++ q))) (decided_more (length p) (length (p ++ q)) longer r k)
      (rw (met_prefix r p q k) (and_r (decided (length p) r) (not (met r p)) t)))
  | inr t ↦ or_r (decided (length (p ++ q)) r && not (met r (p ++ q))) (dead rules (p ++ q)) (dead_prefix rules p q t)
]

-- THEOREM: dead stays dead below
pub dead_below : (rules : List Rule) (p : Row) (v : ℕ) → T (dead rules p) → T (dead rules (p ++ (v ∷ [])))
dead_below rules p v h = dead_prefix rules p (v ∷ []) h

-- ---- of full length

-- every literal of every rule is on one of the first l settings
abbrev pub AllDecided : ℕ → List Rule → Type 0
AllDecided l rules = All (λ r. T (decided l r)) rules

fit_decided : (ns : Sizes) (r : Rule) → AllFit ns r → T (decided (length ns) r)
unfolding decided
fit_decided ns [] h = tt
fit_decided ns (c ∷ r) h =
    and_i (ltb (setting c) (length ns)) (decided (length ns) r) (yes_of (ltb (setting c) (length ns)) (lt-ltb (setting c) (length ns) h.0.known)) (fit_decided ns r h.1)

pub good_decided : (ns : Sizes) (family : ℕ) (rules : List Rule) → AllGood ns family rules → AllDecided (length ns) rules
good_decided ns family [] h = tt
good_decided ns family (r ∷ rules) h = (fit_decided ns r h.0.fit, good_decided ns family rules h.1)

-- a combination is dead iff it is not permitted
pub dead_not_met : (rules : List Rule) (x : Row) → AllDecided (length x) rules → dead rules x ≡ not (all_met rules x)
unfolding dead all_met
dead_not_met [] x h = refl
dead_not_met (r ∷ rules) x h = rw (is_yes (decided (length x) r) h.0, dead_not_met rules x h.1) (go (met r x))
  where
    go : (b : Bool) → not b || not (all_met rules x) ≡ not (b && all_met rules x)
    go true = refl
    go false = refl

-- THEOREM
pub dead_full : (rules : List Rule) (x : Row) → AllDecided (length x) rules → T (dead rules x) ↔ (¬ T (all_met rules x))
dead_full rules x h = rw (dead_not_met rules x h) (go (all_met rules x))
  where
    go : (b : Bool) → T (not b) ↔ (¬ T b)
    go true = (λ t. absurd t, λ n. n tt)
    go false = (λ t n. n, λ n. tt)
