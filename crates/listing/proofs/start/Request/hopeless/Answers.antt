-- `hopeless`: what is left from here gives the whole; each way out is a lemma of laws/Starting.
use native.Mathlib.Omega.{arith}
use mathlib.Core.Path.{refl}
use Rattle.listing.proofs.laws.Starting.{seeking_start, seeking_end, seeking_inside, seeking_yes, seeking_on}
use Rattle.listing.proofs.start.Request.hopeless.Goals as goal

pub loop-init : goal.loop-init
loop-init c = seeking_start _ _ c.args.self.now.standard.stand

pub overflow_add-at : goal.overflow_add-at
overflow_add-at c = omega (arith, seeking_inside _ _ _ _ c.loop.invariant c.loop-test.true)

pub bounds-self-at : goal.bounds-self-at
bounds-self-at c = omega (arith, seeking_inside _ _ _ _ c.loop.invariant c.loop-test.true)

pub returns-then-self-at-eq0 : goal.returns-then-self-at-eq0
returns-then-self-at-eq0 c = seeking_yes _ _ _ _ c.loop.invariant c.loop-test.true _ refl c.if-self-at-eq0.true

pub loop-preserved : goal.loop-preserved
loop-preserved c = seeking_on _ _ _ _ c.loop.invariant c.loop-test.true _ refl c.if-self-at-eq0.false _ c.rule_end-at.ensures

pub returns : goal.returns
returns c = search (seeking_end, arith)
