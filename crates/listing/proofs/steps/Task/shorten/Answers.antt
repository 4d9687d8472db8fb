-- `shorten`: one front after another; the invariant is `Narrowing` of laws/Sifting.
use native.Mathlib.Omega.{arith}
use Rattle.listing.proofs.laws.Sifting.{narrowing_next, narrowing_on}
use Rattle.listing.proofs.steps.Task.shorten.Goals as goal

pub sift-k-requires : goal.sift-k-requires
sift-k-requires c =
    let y = c.loop-g.invariant in
    narrowing_next _ _ _ _ _ _ _ _ _ _ y (omega (arith, c.args.self.now.sized.short, c.loop-g-test.true)) _ _ c.from-from.ensures c.from-end.ensures

pub loop-g-preserved : goal.loop-g-preserved
loop-g-preserved c = narrowing_on _ _ _ _ _ _ _ _ _ _ c.loop-g.invariant (omega (arith, c.args.self.now.sized.short, c.loop-g-test.true)) _ _ c.from-from.ensures c.from-end.ensures _ _ c.sift-k.ensures _ c.sift-k.auto.hints
