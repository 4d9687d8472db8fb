-- `fill`: a rule is entered, or an equal one is there; the invariant is `Filling` of laws/Sorting.
use Prim.Native.Nat.{◌+◌}
use native.Mathlib.Omega.{arith}
use Rattle.listing.proofs.laws.Sorting.{filling_start, filling_inside, filling_twice, filling_on}
use Rattle.listing.proofs.sorting.fill.Goals as goal

pub loop-i-init : goal.loop-i-init
loop-i-init c = filling_start _ _ _ _ _ c.requires.2 c.requires.3

pub group_with_space-requires : goal.group_with_space-requires
group_with_space-requires c =
    let y = c.loop-i.invariant in
    (filling_inside _ _ _ _ _ _ _ _ y c.requires.0 c.loop-i-test.true, y.grouped.laid.starts, y.grouped.laid.ends)

pub trace-t-requires : goal.trace-t-requires
trace-t-requires c = (c.in-Some.ensures.some, filling_inside _ _ _ _ _ _ _ _ c.loop-i.invariant c.requires.0 c.loop-i-test.true)

pub twice-equal-requires : goal.twice-equal-requires
twice-equal-requires c = filling_twice _ _ _ _ _ _ _ _ c.loop-i.invariant c.requires.0 c.loop-i-test.true _ c.trace-t.ensures

pub rule_end-at-requires : goal.rule_end-at-requires
rule_end-at-requires c = filling_inside _ _ _ _ _ _ _ _ c.loop-i.invariant c.requires.0 c.loop-i-test.true

pub loop-i-preserved : goal.loop-i-preserved
loop-i-preserved c =
    rw c.from.ensures (filling_on _ _ _ _ _ _ _ _ c.loop-i.invariant c.loop-i-test.true (omega (arith, c.type_inv.book (c.loop-i.at + 2))) _ c.in-Some.ensures _ c.trace-t.ensures _ c.twice-equal.ensures _ c.rule_end-at.ensures _ c.with_one.ensures)
