-- `literals::holding::holds` meets its contract: by cases on the sign.
use Rattle.literals.proofs.laws.Holding.{holds_by_most, holds_by_least}
use Rattle.literals.proofs.holding.holds.Goals as goal

pub returns-then-sign-eq0 : goal.returns-then-sign-eq0
returns-then-sign-eq0 c = search holds_by_most

pub returns-else-sign-eq0 : goal.returns-else-sign-eq0
returns-else-sign-eq0 c = search holds_by_least
