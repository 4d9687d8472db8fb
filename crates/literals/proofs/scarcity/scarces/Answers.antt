-- `literals::scarcity::scarces` meets its contract. The invariant counts the literals passed (ScarceFrom).
use Rattle.std.proofs.Common.{arith, ◌∙◌}
use Rattle.literals.proofs.laws.Scarce.{scarce_on, scarce_end}
use Rattle.literals.proofs.scarcity.scarces.Goals as goal

pub loop-literal-preserved : goal.loop-literal-preserved
loop-literal-preserved c =
    let s = c.in-Some.ensures.steps in
    (s.0 ∙ c.loop-literal.invariant.0, rw c.from-count.ensures (scarce_on _ _ c.loop-literal.invariant.1 _ _ s.1.0 (s.1.1 ∙ c.loop-literal.invariant.0) _ c.scarce.ensures))

pub returns : goal.returns
returns c = let s = c.in-None.ensures.steps in scarce_end _ _ c.loop-literal.invariant.1 (omega (arith, s.1.0, c.loop-literal.invariant.0))
