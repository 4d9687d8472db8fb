-- Kinds: what the enums of the code stand for: a family by its number, a side, a sign by its byte.
use Rattle.std.specs.Prelude.{ℕ}
use Rattle.meaning.specs.Rules.{Side, low, high, by_family}
use Rattle.literals.specs.declared.kinds.Family.{Family}
use Rattle.literals.specs.declared.kinds.Family.TheVariants.{General, Horn, Dual, Bijunctive}
use Rattle.literals.specs.declared.kinds.Side as code
use Rattle.literals.specs.declared.kinds.Side.TheVariants.{Low, High}
use Rattle.literals.specs.declared.kinds.Sign.{Sign}
use Rattle.literals.specs.declared.kinds.Sign.TheVariants.{AtMost, AtLeast}

abbrev pub number_of : Family → ℕ
number_of General = 0
number_of Horn = 1
number_of Dual = 2
number_of Bijunctive = 3

abbrev pub family_of : ℕ → Family
family_of number = by_family number General Horn Dual Bijunctive

abbrev pub side_of : code.Side → Side
side_of Low = low
side_of High = high

abbrev pub sign_of : Sign → ℕ
sign_of AtMost = 0
sign_of AtLeast = 1
