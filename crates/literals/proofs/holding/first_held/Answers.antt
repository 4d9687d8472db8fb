-- `literals::holding::first_held` meets its contract. The invariant: none of the literals passed holds (HeldFrom).
use Rattle.std.proofs.Common.{rules, arith, ◌∙◌}
use Rattle.literals.proofs.laws.Holding.{held_known, held_found, held_on, held_none}
use Rattle.literals.proofs.holding.first_held.Goals as goal

pub holds_in-requires : goal.holds_in-requires
holds_in-requires c =
    let s = c.in-Some.ensures.steps in
    (omega (arith, s.0.1.1, c.loop-i.invariant.2), held_known c.loop-i.invariant.3 _ _ s.0.1.0 (s.0.1.1 ∙ c.loop-i.invariant.2))

pub returns-then-holds_in : goal.returns-then-holds_in
returns-then-holds_in c =
    let s = c.in-Some.ensures.steps in
    rw s.1 (held_found c.loop-i.invariant.3 _ _ s.0.1.0 (s.0.1.1 ∙ c.loop-i.invariant.2) c.holds_in.ensures c.if-holds_in.true)

pub loop-i-preserved : goal.loop-i-preserved
loop-i-preserved c =
    let s = c.in-Some.ensures.steps in
    (search rules, search rules, s.0.0 ∙ c.loop-i.invariant.2, rw s.2 (held_on c.loop-i.invariant.3 _ _ s.0.1.0 (s.0.1.1 ∙ c.loop-i.invariant.2) c.holds_in.ensures c.if-holds_in.false))

pub returns : goal.returns
returns c = let s = c.in-None.ensures.steps in held_none _ _ _ _ c.loop-i.invariant.3 (omega (arith, s.0.1.0, c.loop-i.invariant.2))
