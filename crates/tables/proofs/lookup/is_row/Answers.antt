-- The invariant: the row is among those from `low` up to `high`, or none (Halving). Each way through the loop is a lemma of Lookup.
use native.Mathlib.Omega.{arith}
use Rattle.tables.proofs.laws.Lookup.{halving_start, halving_end, middle_is, halving_low, halving_high, halving_found}
use Rattle.tables.proofs.lookup.is_row.Goals as goal

pub loop-low-init : goal.loop-low-init
loop-low-init c = search halving_start

pub row-requires : goal.row-requires
row-requires c = middle_is _ _ _ _ c.loop-low.invariant c.loop-low-test.true

pub loop-low-preserved-in-Less : goal.loop-low-preserved-in-Less
loop-low-preserved-in-Less c =
    halving_low _ _ _ _ c.loop-low.invariant c.loop-low-test.true _ c.row.ensures.0 _ c.order.ensures c.in-Less.is

pub returns-in-Equal : goal.returns-in-Equal
returns-in-Equal c = halving_found _ _ _ _ c.loop-low.invariant c.loop-low-test.true _ c.row.ensures.0 _ c.order.ensures c.in-Equal.is

pub loop-low-preserved : goal.loop-low-preserved
loop-low-preserved c = halving_high _ _ _ _ c.loop-low.invariant c.loop-low-test.true _ c.row.ensures.0 _ c.order.ensures c.in-Greater.is

pub returns : goal.returns
returns c = search (halving_end, arith)
