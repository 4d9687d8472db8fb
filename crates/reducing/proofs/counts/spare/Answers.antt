-- `reducing::counts::spare` meets its contract. The invariant: no row passed has the literal as its only one (SpareFrom).
use Rattle.std.proofs.Common.{rules, arith, inl, inr, ◌∙◌}
use Rattle.reducing.proofs.laws.Counted.{spare_no, spare_on, spare_yes, spare_out}
use Rattle.reducing.proofs.counts.spare.Goals as goal

pub returns-then-count-from : goal.returns-then-count-from
returns-then-count-from c =
    let s = c.in-Some.ensures.steps in
    spare_no c.loop-row.invariant.3 _ _ c.args.rows.now.some s.0.1.0 (s.0.1.1 ∙ c.loop-row.invariant.2) _ _ s.1 _ c.holds_in.ensures (c.if-count-from.true ∙ c.from.ensures)

pub loop-row-preserved : goal.loop-row-preserved
loop-row-preserved c =
    let s = c.in-Some.ensures.steps in
    (search rules, search rules, s.0.0 ∙ c.loop-row.invariant.2, spare_on c.loop-row.invariant.3 _ _ c.args.rows.now.some s.0.1.0 (s.0.1.1 ∙ c.loop-row.invariant.2) _ _ s.1 _ c.holds_in.ensures (rw c.from.ensures at c.if-count-from.false))

pub returns : goal.returns
returns c = elim c.in-None.ensures.steps [
  | inl s ↦ spare_yes c.loop-row.invariant.3 (omega (arith, s.1.1.0, c.loop-row.invariant.2))
  | inr s ↦ spare_out c.loop-row.invariant.3 s.1.0
]
