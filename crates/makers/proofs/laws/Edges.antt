-- Edges: the left and the right rules of a row, setting by setting.
use Prim.Native.Nat.{ℕ, zero, suc, ◌+◌, ◌*◌, ◌-◌, ◌≤◌, ◌<◌}
use native.Mathlib.Numerals.{add-one}
use native.Mathlib.Omega.{arith}
use mathlib.Core.Path.{◌≡◌, refl, sym, ◌∙◌}
use mathlib.Core.Bool.{Bool, true, false}
use mathlib.Core.List.{List, [], ◌∷◌, ◌++◌}
use lib.Dec.{ltb}
use lib.ListN.{length}
use Rattle.meaning.specs.Lists.{opt, each}
use Rattle.meaning.specs.Rows.{Row, Sizes, at}
use Rattle.meaning.specs.Rules.{Literal, at_most, at_least, Rule, setting}
use Rattle.meaning.specs.General.{differs, earlier, left_at, right_at}
use Rattle.meaning.specs.Bytes.{literal}
use Rattle.literals.specs.Inner.{Known}
use Rattle.meaning.proofs.All.{All-append}
use Rattle.makers.specs.declared.rows.Source.{Source}
use Rattle.makers.specs.declared.sending.Draft.{Draft}
use Rattle.makers.specs.Inner.{source_family, source_rows, state_of, sends, sends_for, Countable, Sent, ruled_of, edge_at, Sides, SentEdges}
use Rattle.makers.proofs.laws.Sending.{sends_for_append, slot_some, slot_none}
use Rattle.makers.proofs.laws.Earlier.{earlier_few, earlier_on}

-- ---- both sides as one

pub edge_left : (ns : Sizes) (m : Row) (i : ℕ) → edge_at 1 ns m i ≡ left_at ns m i
unfolding edge_at ruled_of left_at
edge_left ns m i = refl

pub edge_right : (ns : Sizes) (m : Row) (i : ℕ) → edge_at 0 ns m i ≡ right_at ns m i
unfolding edge_at ruled_of right_at
edge_right ns m i = refl

-- ---- settings

differs_known : (i n v l : ℕ) → i < l → Known l (differs i n v)
unfolding differs
differs_known i n v l h =
    All-append (λ c. setting c < l) (opt (ltb 0 v) (at_most i (v - 1))) (opt (ltb (v + 1) n) (at_least i (v + 1)))
    (go (ltb 0 v) (at_most i (v - 1)) h) (go (ltb (v + 1) n) (at_least i (v + 1)) h)
  where
    go : (b : Bool) (c : Literal) → setting c < l → Known l (opt b c)
    go true c k = (k, tt)
    go false c k = tt

pub earlier_known : (ns : Sizes) (m : Row) (i l : ℕ) → i ≤ l → Known l (earlier ns m i)
unfolding earlier
earlier_known ns m zero l h = tt
earlier_known ns m (suc i) l h =
    All-append (λ c. setting c < l) (earlier ns m i) (differs i (at ns i) (at m i)) (earlier_known ns m i l (omega arith)) (differs_known i (at ns i) (at m i) l h)

literal_known : (g i d l : ℕ) → i < l → setting (literal g i d) < l
literal_known zero i d l h = h
literal_known (suc g) i d l h = h

-- ---- one setting after the other

pub each_on : {A : Type 0} (f : ℕ → List A) (i l : ℕ) → i < l → each f i (l - i) ≡ f i ++ each f (i + 1) (l - (i + 1))
each_on f i l h =
    let e : l - i ≡ suc (l - (i + 1)) = omega arith in
    rw (e, add-one)

pub each_end : {A : Type 0} (f : ℕ → List A) (i l : ℕ) → l ≤ i → each f i (l - i) ≡ []
each_end f i l h =
    let e : l - i ≡ 0 = omega arith in
    rw e

module _ (s : Source) (m : Row) (g from : ℕ) (d₀ : Draft) where
  abbrev ns : Sizes
  ns = s.sizes.now

  abbrev rest : ℕ → List Rule
  rest i = each (edge_at g ns m) i (length ns - i)

  -- setting i is next, and the rule is what differs before it: what is left from here gives the whole
  pub record EdgesAt (i : ℕ) (before : Rule) (d : Draft) : Type 0 where
    pub sides : Sides s m from
    pub countable : Countable d₀.made 16
    pub begun : from ≤ i
    pub small : i ≤ length ns
    pub differing : before ≡ earlier ns m i
    pub same_room : d.room.ghost_name ≡ d₀.room.ghost_name
    pub whole : sends_for (source_family s) (source_rows s) (rest from) (state_of d₀) ≡ sends_for (source_family s) (source_rows s) (rest i) (state_of d)
    pub longer : d.made.length + 99 * from ≤ d₀.made.length + 99 * i
    pub more : d.made.rules + from ≤ d₀.made.rules + i

  pub edges_start : {before : Rule} → Sides s m from → Countable d₀.made 16 → before ≡ earlier ns m from → EdgesAt from before d₀
  edges_start sides few e = record {
    sides = sides;
    countable = few;
    begun = omega arith;
    small = sides.begun;
    differing = e;
    same_room = refl;
    whole = refl;
    longer = omega arith;
    more = omega arith;
  }

  module _ (i : ℕ) (before : Rule) (d : Draft) (now : EdgesAt i before d) (inside : i < length ns) where
    pub edges_few : length before + 2 ≤ 32
    edges_few = earlier_few ns m i (omega (arith, s.given.few)) now.differing

    pub edges_countable : Countable d.made 1
    edges_countable = record {
      bytes = omega (arith, now.longer, now.countable.bytes, s.given.few);
      number = omega (arith, now.more, now.countable.number, s.given.few);
    }

    module _ (next : Rule) (more : next ≡ before ++ differs i (at ns i) (at m i)) where
      -- setting i is done, with its rule, if it has one, sent
      on : (r : Rule) (d' : Draft) → r ≡ earlier ns m i ++ (literal g i (at m i) ∷ []) → Sent 1 s (opt (ruled_of g (at ns i) (at m i)) r) d d' → EdgesAt (i + 1) next d'
      unfolding edge_at
      on r d' e sent = record {
        sides = now.sides;
        countable = now.countable;
        begun = omega (arith, now.begun);
        small = omega arith;
        differing = earlier_on ns m i now.differing more;
        same_room = sent.same_room ∙ now.same_room;
        whole = now.whole ∙ rw (each_on (edge_at g ns m) i (length ns) inside, sends_for_append (source_family s) (source_rows s) (edge_at g ns m i) (rest (i + 1)) (state_of d), ← e, ← sent.state);
        longer = omega (arith, now.longer, sent.longer);
        more = omega (arith, now.more, sent.more);
      }

      pub edges_closed : (ruled : Bool) → ruled ≡ ruled_of g (at ns i) (at m i) → ruled ≡ false → EdgesAt (i + 1) next d
      edges_closed ruled o e = on _ d refl (slot_none s _ _ d (sym o ∙ e))

      pub edges_open : (ruled : Bool) (r : Rule) (d' : Draft) → ruled ≡ ruled_of g (at ns i) (at m i) → ruled ≡ true
          → r ≡ before ++ (literal g i (at m i) ∷ []) → Sent 1 s (r ∷ []) d d' → EdgesAt (i + 1) next d'
      edges_open ruled r d' o e one sent = on r d' (one ∙ rw now.differing) (slot_some s _ _ d d' (sym o ∙ e) sent)

    pub edges_known : (r : Rule) → r ≡ before ++ (literal g i (at m i) ∷ []) → Known (length ns) r
    edges_known r one = rw (one, now.differing) (All-append (λ c. setting c < length ns) (earlier ns m i) (literal g i (at m i) ∷ [])
        (earlier_known ns m i (length ns) now.small) (literal_known g i (at m i) (length ns) inside, tt))

  pub edges_end : (i : ℕ) (before : Rule) (d : Draft) → EdgesAt i before d → length ns ≤ i → SentEdges s m g from d₀ d
  unfolding sends_for sends
  edges_end i before d now out = record {
    same_room = now.same_room;
    state = sym (now.whole ∙ rw (each_end (edge_at g ns m) i (length ns) out));
    longer = omega (arith, now.longer, now.small, s.given.few);
    more = omega (arith, now.more, now.small, s.given.few);
  }
