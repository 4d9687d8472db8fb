-- `makers::earlier::differs_before` meets its contract. The invariant: the rule is what differs before setting i.
use Rattle.std.proofs.Common.{arith, ◌∙◌}
use Rattle.makers.proofs.laws.Earlier.{earlier_start, earlier_few, earlier_on}
use Rattle.makers.proofs.earlier.differs_before.Goals as goal

pub loop-i-init : goal.loop-i-init
loop-i-init c = c.empty-rule.ensures ∙ earlier_start _ _

pub differ-requires : goal.differ-requires
differ-requires c = earlier_few _ _ _ (omega arith) c.loop-i.invariant

pub loop-i-preserved : goal.loop-i-preserved
loop-i-preserved c = earlier_on _ _ _ c.loop-i.invariant c.differ.ensures
