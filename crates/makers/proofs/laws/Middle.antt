-- Middle: the rule between two rows that part at a setting.
use Prim.Native.Nat.{ℕ, ◌+◌, ◌≤◌, ◌<◌}
use native.Mathlib.Omega.{arith}
use mathlib.Core.Path.{◌≡◌, sym, ◌∙◌}
use mathlib.Core.Bool.{Bool, true, false}
use mathlib.Core.List.{[], ◌∷◌, ◌++◌, append_assoc}
use lib.Dec.{ltb}
use lib.ListN.{length, length-append}
use Rattle.meaning.specs.Rows.{Row, Sizes, at}
use Rattle.meaning.specs.Rules.{Literal, Rule, at_most, at_least, setting}
use Rattle.meaning.specs.General.{earlier, mid_at}
use Rattle.literals.specs.Inner.{Known}
use Rattle.meaning.proofs.All.{All-append}
use Rattle.makers.specs.declared.rows.Source.{Source}
use Rattle.makers.specs.declared.sending.Draft.{Draft}
use Rattle.makers.specs.Inner.{Sent, Apart, SentBetween}
use Rattle.makers.proofs.laws.Sending.{slot_some, slot_none}
use Rattle.makers.proofs.laws.Earlier.{earlier_few}
use Rattle.makers.proofs.laws.Edges.{earlier_known}

module _ (s : Source) (m m' : Row) (i : ℕ) (asked : Apart s m m' i) where
  abbrev ns : Sizes
  ns = s.sizes.now

  module _ (before : Rule) (e : before ≡ earlier ns m i) where
    few : length before + 2 ≤ 32
    few = earlier_few ns m i (omega (arith, s.given.few, asked.inside)) e

    pub apart_few : length before < 32
    apart_few = omega (arith, few)

    pub apart_more : (one : Rule) (c : Literal) → one ≡ before ++ (c ∷ []) → length one < 32
    apart_more one c q = rw q (omega (arith, few, length-append before (c ∷ [])))

  module _ (before one two : Rule) (e : before ≡ earlier ns m i) (low : one ≡ before ++ (at_most i (at m i) ∷ [])) (high : two ≡ one ++ (at_least i (at m' i) ∷ [])) where
    rule_is : two ≡ earlier ns m i ++ (at_most i (at m i) ∷ at_least i (at m' i) ∷ [])
    rule_is = high ∙ rw (low, e) (append_assoc (earlier ns m i) (at_most i (at m i) ∷ []) (at_least i (at m' i) ∷ []))

    pub apart_known : Known (length ns) two
    apart_known = rw rule_is (All-append (λ c. setting c < length ns) (earlier ns m i) (at_most i (at m i) ∷ at_least i (at m' i) ∷ [])
        (earlier_known ns m i (length ns) (omega (arith, asked.inside))) (asked.inside, (asked.inside, tt)))

    pub apart_sent : (ruled : Bool) (d d' : Draft) → ruled ≡ ltb (at m i + 1) (at m' i) → ruled ≡ true → Sent 1 s (two ∷ []) d d' → SentBetween s m m' i d d'
    unfolding mid_at
    apart_sent ruled d d' o e sent = rw (← rule_is) (slot_some s _ _ d d' (sym o ∙ e) sent)

pub apart_none : (s : Source) (m m' : Row) (i : ℕ) (ruled : Bool) (d : Draft) → ruled ≡ ltb (at m i + 1) (at m' i) → ruled ≡ false → SentBetween s m m' i d d
unfolding mid_at
apart_none s m m' i ruled d o e = slot_none s _ _ d (sym o ∙ e)
