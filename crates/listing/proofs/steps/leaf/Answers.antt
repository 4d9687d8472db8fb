use Rattle.listing.proofs.laws.Leaves.{leaf_dead, leaf_live}
use Rattle.listing.proofs.steps.leaf.Goals as goal

pub returns-then-dead : goal.returns-then-dead
returns-then-dead c = leaf_dead _ _ _ _ _ _ c.if-dead.true

pub returns : goal.returns
returns c = leaf_live _ _ _ _ _ _ c.if-dead.false _ c.put_row.ensures
