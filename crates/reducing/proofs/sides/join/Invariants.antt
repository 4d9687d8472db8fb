-- `reducing::sides::join` meets its contract. The invariant: the first i values are combined (ChangeFrom).
use Rattle.std.proofs.Common.{drop}
use Rattle.meaning.specs.Families.{pick}
use Rattle.literals.specs.Kinds.{side_of}
use Rattle.reducing.proofs.laws.Counted.{ChangeFrom}
use Rattle.reducing.proofs.sides.join.Given as goal

abbrev pub invariant-loop-i : goal.invariant-loop-i
invariant-loop-i l = ChangeFrom (pick (side_of l.side)) l.row (drop l.i l.row) l.initial.values l.values l.i
