-- `reducing::sides::extreme` meets its contract. The invariant: the rows passed are combined (ExtremeFrom).
use Rattle.std.proofs.Common.{arith, sym, ◌∙◌}
use Rattle.reducing.proofs.laws.Rows.{rows_on, rows_over}
use Rattle.reducing.proofs.laws.Joined.{extreme_met, extreme_on, extreme_end}
use Rattle.reducing.proofs.sides.extreme.Goals as goal

pub loop-row-preserved-then-not-met : goal.loop-row-preserved-then-not-met
loop-row-preserved-then-not-met c =
    let s = c.in-Some.ensures.steps in
    let long = s.1.1 ∙ c.loop-row.invariant.0 in
    (s.0 ∙ c.loop-row.invariant.0, extreme_on c.loop-row.invariant.1 _ (rows_on _ _ c.args.rows.now.some s.1.0 long) _ (sym c.if-not-met.true ∙ c.met.ensures) (rw long at c.join-combined.ensures))

pub loop-row-preserved : goal.loop-row-preserved
loop-row-preserved c =
    let s = c.in-Some.ensures.steps in
    (s.0 ∙ c.loop-row.invariant.0, extreme_met c.loop-row.invariant.1 _ (rows_on _ _ c.args.rows.now.some s.1.0 (s.1.1 ∙ c.loop-row.invariant.0)) (sym c.if-not-met.false ∙ c.met.ensures))

pub returns : goal.returns
returns c = let s = c.in-None.ensures.steps in extreme_end c.loop-row.invariant.1 (rows_over _ (omega (arith, s.1.0, c.loop-row.invariant.0)))
