-- `reducing::counts::number` meets its contract. The invariant counts the literals passed (NumberFrom).
use Rattle.std.proofs.Common.{arith, ◌∙◌}
use Rattle.reducing.proofs.laws.Passed.{known_on, number_on, number_end}
use Rattle.reducing.proofs.counts.number.Goals as goal

pub holds_in-requires : goal.holds_in-requires
holds_in-requires c =
    let s = c.in-Some.ensures.steps in
    let three = s.1.1 ∙ c.loop-literal.invariant.0 in
    (omega (arith, three), (known_on _ _ s.1.0 three c.loop-literal.invariant.1.known).0)

pub loop-literal-preserved : goal.loop-literal-preserved
loop-literal-preserved c =
    let s = c.in-Some.ensures.steps in
    (s.0 ∙ c.loop-literal.invariant.0, rw c.from-k.ensures (number_on c.loop-literal.invariant.1 _ _ s.1.0 (s.1.1 ∙ c.loop-literal.invariant.0) _ c.holds_in.ensures))

pub returns : goal.returns
returns c = let s = c.in-None.ensures.steps in number_end c.loop-literal.invariant.1 (omega (arith, s.1.0, c.loop-literal.invariant.0))
