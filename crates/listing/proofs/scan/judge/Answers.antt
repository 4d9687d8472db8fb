-- `judge`: each way out is a lemma of laws/Judging.
use native.Mathlib.Omega.{arith}
use Rattle.listing.proofs.laws.Judging.{judges_empty, judges_past, judges_holds, judged_inside, judges_lasts, judges_interval}
use Rattle.listing.proofs.scan.judge.Goals as goal

pub returns-then-count-eq0 : goal.returns-then-count-eq0
returns-then-count-eq0 c = rw c.forbids-none.ensures (search (judges_empty, arith))

pub returns-then-last-cur : goal.returns-then-last-cur
returns-then-last-cur c = rw c.forbids-none.ensures (search (judges_past, arith))

pub interval-requires : goal.interval-requires
interval-requires c =
    let s = c in
    judged_inside _ _ _ s.args.cur.plain s.requires.0 s.requires.1 _ c.from-count.ensures c.if-count-eq0.false _ c.from-last.ensures _ c.early.ensures _ _ c.in-Left.is

pub returns-in-Holds : goal.returns-in-Holds
returns-in-Holds c = rw c.forbids-none.ensures (search (judges_holds, arith))

pub returns-in-Left : goal.returns-in-Left
returns-in-Left c = rw c.forbids-none.ensures (search (judges_lasts, arith))

pub returns-in-Left-2 : goal.returns-in-Left-2
returns-in-Left-2 c = search (judges_interval, arith)
