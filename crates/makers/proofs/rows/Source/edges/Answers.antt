-- `makers::rows::Source::edges` meets its contract. The invariant: the rule is what differs before setting i, and what is left from there gives the whole.
use Rattle.std.proofs.Common.{arith}
use Rattle.makers.proofs.laws.Edges.{edges_start, edges_few, edges_countable, edges_known, edges_closed, edges_open, edges_end}
use Rattle.makers.proofs.rows.Source.edges.Goals as goal
use Rattle.makers.proofs.rows.Source.edges.Goals.{then-ruled, else-ruled}

pub loop-i-init : goal.loop-i-init
loop-i-init c = search edges_start

pub with-requires : goal.with-requires
with-requires c = omega (arith, edges_few _ _ _ _ _ _ _ _ c.loop-i.invariant c.loop-i-test.true)

pub send-requires : goal.send-requires
send-requires c = (search edges_known, search edges_countable)

pub differ-requires : goal.differ-requires
differ-requires c = search edges_few

pub loop-i-preserved : goal.loop-i-preserved
loop-i-preserved c =
    elim c.if-ruled.branch [ then-ruled w ↦ rw w.draft-is (search edges_open) | else-ruled w ↦ rw w.draft-is (search edges_closed) ]

pub returns : goal.returns
returns c = search edges_end
