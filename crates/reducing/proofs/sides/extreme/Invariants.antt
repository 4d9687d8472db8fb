-- `reducing::sides::extreme` meets its contract. The invariant: the rows passed are combined (ExtremeFrom).
use Rattle.std.proofs.Common.{◌≡◌}
use Rattle.literals.specs.Inner.{literals_in}
use Rattle.literals.specs.Kinds.{side_of}
use Rattle.reducing.proofs.laws.Joined.{ExtremeFrom}
use Rattle.reducing.proofs.sides.extreme.Given as goal

abbrev pub invariant-loop-row : goal.invariant-loop-row
invariant-loop-row l = (l.row-iterator.size ≡ l.rows.l) × ExtremeFrom (side_of l.side) (literals_in l.literals) l.rows.l l.rows.table.now l.row-iterator.rest.now l.combined
