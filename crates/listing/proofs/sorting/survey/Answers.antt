-- `survey`: behind a rule the others stand.
use native.Mathlib.Omega.{arith}
use Rattle.listing.proofs.laws.Trimming.{stand_on}
use Rattle.listing.proofs.sorting.survey.Goals as goal

pub loop-i-preserved : goal.loop-i-preserved
loop-i-preserved c = stand_on _ _ _ _ _ c.loop-i.invariant (omega (arith, c.min-most.ensures)) c.rule_end-at.ensures
