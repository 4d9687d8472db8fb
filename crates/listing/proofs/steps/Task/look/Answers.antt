-- `look`: the front of one group, then the run; what is asked and given holds where any level is gone into.
use native.Mathlib.Omega.{arith}
use Rattle.listing.proofs.laws.Looking.{look_askable, look_looks, open_run, open_window}
use Rattle.listing.proofs.steps.Task.look.Goals as goal

pub group-set-requires : goal.group-set-requires
group-set-requires c =
    let p = c.requires in
    let z = c.if-levels-eq0.false in
    look_askable _ _ _ c.args.cur.plain (omega (arith, p.0, z)) _ _ _ _ _ _ (p.1.opens z) _ _ c.from-from.ensures c.from-end.ensures

pub scan-requires : goal.scan-requires
scan-requires c =
    let o = c.requires.1.opens c.if-levels-eq0.false in
    (open_window _ _ _ _ _ _ _ _ _ o, open_run _ _ _ _ _ _ _ _ _ o)

pub returns : goal.returns
returns c =
    let p = c.requires in
    let z = c.if-levels-eq0.false in
    record { looks = λ y. look_looks _ _ _ c.args.cur.plain (omega (arith, p.0, z)) _ _ _ _ _ _ (p.1.opens z) _ _ c.from-from.ensures c.from-end.ensures _ c.group-set.ensures _ c.scan.ensures }
