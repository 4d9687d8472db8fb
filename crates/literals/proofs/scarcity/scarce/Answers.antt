-- `literals::scarcity::scarce` meets its contract: by cases on the side (Scarce).
use Rattle.literals.proofs.laws.Scarce.{scarce_high, scarce_low}
use Rattle.literals.proofs.scarcity.scarce.Goals as goal

pub returns-in-Low : goal.returns-in-Low
returns-in-Low c = rw c.in-Low.is (scarce_low c.args.literal.now 0)

pub returns-in-High : goal.returns-in-High
returns-in-High c = rw c.in-High.is (scarce_high c.args.literal.now 0)
