use native.Mathlib.Omega.{arith}
use Rattle.listing.proofs.laws.Turns.{skipping_on}
use Rattle.listing.proofs.steps.Task.skip.Goals as goal

pub loop-v-preserved : goal.loop-v-preserved
loop-v-preserved c =
    let p = c.requires in
    skipping_on _ _ _ _ _ c.loop-v.invariant c.args.cur.plain (omega (arith, p.0, c.args.self.now.sized.short)) (omega (arith, c.max-n.ensures, c.loop-v.invariant.skips.ahead, c.loop-v-test.true)) (c.args.self.now.sized.few _ p.0) c.if-self-on.false c.if-self-walk.false _ p.1 _ c.from.ensures _ c.lacks.ensures c.if-not-lacks.false
