-- The invariant: the row is among those from `low` up to `high`, or none (Halving). Each way through the loop is a lemma of Lookup.
use Prim.Native.Nat.{◌-◌}
use Rattle.tables.proofs.laws.Lookup.{Halving}
use Rattle.tables.proofs.lookup.is_row.Given as goal

abbrev pub invariant-loop-low : goal.invariant-loop-low
invariant-loop-low l = Halving l.x l.table l.low l.high

abbrev pub decreases-loop-low : goal.decreases-loop-low
decreases-loop-low l = l.high - l.low
