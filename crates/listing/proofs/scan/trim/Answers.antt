-- `trim`: a rule goes where every value from v on meets it.
use Rattle.listing.proofs.laws.Trimming.{trims_on}
use Rattle.listing.proofs.scan.trim.Goals as goal

pub loop-k-preserved : goal.loop-k-preserved
loop-k-preserved c = trims_on _ _ _ _ _ _ _ c.loop-k.invariant c.loop-k-test.true _ c.met_from.ensures c.if-not-met_from.false _ c.rule_end-p.ensures
