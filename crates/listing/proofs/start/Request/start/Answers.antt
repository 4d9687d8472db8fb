use Rattle.listing.proofs.laws.Starting.{start_dead}
use Rattle.listing.proofs.start.Request.start.Goals as goal

pub returns-then-hopeless : goal.returns-then-hopeless
returns-then-hopeless c = start_dead _ _ _ _ _ _ _ c.args.self.now.standard c.requires.0 c.requires.1 _ c.hopeless.ensures c.if-hopeless.true
