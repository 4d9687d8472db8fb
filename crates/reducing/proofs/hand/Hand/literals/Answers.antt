-- `reducing::hand::Hand::literals` meets its contract: as many literals as fit (Hand).
use Rattle.reducing.proofs.laws.Hand.{kept_few}
use Rattle.reducing.proofs.hand.Hand.literals.Goals as goal

pub returns-clause-few : goal.returns-clause-few
returns-clause-few c = rw (← c.self.view_is) (kept_few c.self.invariant)
