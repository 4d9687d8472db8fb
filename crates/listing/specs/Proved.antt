-- Proved: what is known of a book that was read has one proof at most, as a ghost field asks.
use Rattle.std.specs.Prelude.{ℕ, zero, suc, List, [], ◌∷◌, ◌+◌, ◌<◌}
use Rattle.std.specs.Coded.{×_prop, Unit-prop, le_prop}
use native.Mathlib.Nat.{ℕ_set}
use Rattle.meaning.specs.Rows.{Sizes}
use Rattle.meaning.specs.Lists.{All}
use Rattle.meaning.specs.Rules.{Rule, Literal, key, bound, Ordered}
use Rattle.meaning.specs.Bytes.{rule_at, end_at}
use Rattle.listing.specs.Inner.{Stands, AllStand, Standard}

Ordered-prop : (low : ℕ) (r : Rule) → IsProp (Ordered low r)
Ordered-prop low [] = Unit-prop
Ordered-prop low (c ∷ r) = ×_prop le_prop (Ordered-prop (key c + 1) r)

small-prop : (r : Rule) → IsProp (All (λ (c : Literal). bound c < 64) r)
small-prop [] = Unit-prop
small-prop (c ∷ r) = ×_prop le_prop (small-prop r)

Stands-prop : (b : List ℕ) (at : ℕ) → IsProp (Stands b at)
Stands-prop b at = hlevel (le_prop, Ordered-prop 0 (rule_at b at), small-prop (rule_at b at))

AllStand-prop : (b : List ℕ) (at k : ℕ) → IsProp (AllStand b at k)
AllStand-prop b at zero = Unit-prop
AllStand-prop b at (suc k) = ×_prop (Stands-prop b at) (AllStand-prop b (end_at b at) k)

pub Standard-prop : (b : List ℕ) (rules : ℕ) (ns : Sizes) → IsProp (Standard b rules ns)
Standard-prop b rules ns = hlevel (le_prop, ℕ_set, AllStand-prop b 7 rules)
