-- `reducing::counts::lower` meets its contract. The invariant: the numbers of the rows passed are lowered (ChangeFrom).
use Rattle.std.proofs.Common.{arith, ap, ◌∙◌}
use Rattle.reducing.proofs.laws.Rows.{rows_on, rows_over}
use Rattle.reducing.proofs.laws.Counted.{change_room, change_turn, change_end}
use Rattle.reducing.proofs.laws.Passed.{one_byte}
use Rattle.reducing.specs.Inner.{one}
use Rattle.reducing.proofs.counts.lower.Goals as goal

pub bounds-counts-k : goal.bounds-counts-k
bounds-counts-k c = let s = c.in-Some.ensures.steps in change_room c.loop-k.invariant.1 (rows_on _ _ c.args.rows.now.some s.1.0 (s.1.1 ∙ c.loop-k.invariant.0))

pub bounds-counts-k-in-loop-k : goal.bounds-counts-k-in-loop-k
bounds-counts-k-in-loop-k c = let s = c.in-Some.ensures.steps in change_room c.loop-k.invariant.1 (rows_on _ _ c.args.rows.now.some s.1.0 (s.1.1 ∙ c.loop-k.invariant.0))

pub overflow_step-k : goal.overflow_step-k
overflow_step-k c =
    let s = c.in-Some.ensures.steps in
    omega (arith, change_room c.loop-k.invariant.1 (rows_on _ _ c.args.rows.now.some s.1.0 (s.1.1 ∙ c.loop-k.invariant.0)), c.loop-k.invariant.1.long, c.requires.0)

pub loop-k-preserved : goal.loop-k-preserved
loop-k-preserved c =
    let s = c.in-Some.ensures.steps in
    (s.0 ∙ c.loop-k.invariant.0, change_turn c.loop-k.invariant.1 (rows_on _ _ c.args.rows.now.some s.1.0 (s.1.1 ∙ c.loop-k.invariant.0)) (omega (arith, c.saturating_sub.ensures, c.from.ensures, one_byte c.holds_in.result, ap one c.holds_in.ensures)))

pub returns : goal.returns
returns c = let s = c.in-None.ensures.steps in change_end c.loop-k.invariant.1 (rows_over _ (omega (arith, s.1.0, c.loop-k.invariant.0)))
