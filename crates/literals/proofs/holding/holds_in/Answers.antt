-- `literals::holding::holds_in` meets its contract: the literal is the one of its three bytes (Holding).
use Rattle.literals.proofs.laws.Holding.{holds_at}
use Rattle.literals.proofs.holding.holds_in.Goals as goal

pub returns : goal.returns
returns c = search holds_at
