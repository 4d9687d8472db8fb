-- `scan`: the loop judges one rule after another; its invariant is `Scanning` of laws/Windows.
use Rattle.listing.proofs.laws.Windows.{scanning_start, scanning_on, scanning_next, scanning_end}
use Rattle.listing.proofs.scan.scan.Goals as goal

pub loop-i-init : goal.loop-i-init
loop-i-init c = scanning_start _ _ _ _ _

pub judge-j-requires : goal.judge-j-requires
judge-j-requires c =
    let s = c in
    let n = scanning_next _ _ _ _ _ _ s.requires.0 s.requires.1 _ _ _ _ c.loop-i.invariant c.loop-i-test.true in
    (n.0, n.1)

pub rule_end-at-requires : goal.rule_end-at-requires
rule_end-at-requires c =
    let s = c in
    (scanning_next _ _ _ _ _ _ s.requires.0 s.requires.1 _ _ _ _ c.loop-i.invariant c.loop-i-test.true).0.inside

pub loop-i-preserved : goal.loop-i-preserved
loop-i-preserved c =
    scanning_on _ _ _ _ _ _ _ _ _ c.loop-i.invariant c.loop-i-test.true _ c.judge-j.ensures _ c.without-allowed.ensures _ c.widen-span.ensures _ c.rule_end-at.ensures

pub returns-in-Some : goal.returns-in-Some
returns-in-Some c = rw c.in-Some.is at (scanning_end _ _ _ _ _ _ c.requires.0 _ _ _ _ c.loop-i.invariant c.loop-i-test.false)
