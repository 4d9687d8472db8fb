-- `literals::kinds::Side::pick` meets its contract: `pick` is min on one side and max on the other.
use Rattle.std.proofs.Common.{rules}
use Rattle.meaning.specs.Families.{pick}
use Rattle.literals.proofs.kinds.Side.pick.Goals as goal

pub returns-in-Low : goal.returns-in-Low
unfolding pick
returns-in-Low c = search rules

pub returns-in-High : goal.returns-in-High
unfolding pick
returns-in-High c = search rules
