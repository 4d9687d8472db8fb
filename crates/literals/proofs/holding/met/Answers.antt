-- `literals::holding::met` meets its contract: a rule is met where one of its literals is the first that holds (Holding).
use Rattle.std.proofs.Common.{◌∙◌}
use Rattle.literals.proofs.laws.Holding.{met_first}
use Rattle.literals.proofs.holding.met.Goals as goal

pub returns : goal.returns
returns c = c.is_some.ensures ∙ met_first _ _ _ c.first_held.ensures
