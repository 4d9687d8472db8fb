-- `reducing::sides::keep_for` meets its contract. The invariant: what stays of the literals passed is kept (KeptFrom).
use Rattle.std.proofs.Common.{◌≡◌}
use Rattle.literals.specs.Kinds.{side_of}
use Rattle.reducing.specs.Inner.{row_in}
use Rattle.reducing.proofs.laws.Kept.{KeptFrom}
use Rattle.reducing.proofs.sides.keep_for.Given as goal

abbrev pub invariant-loop-literal : goal.invariant-loop-literal
invariant-loop-literal l = (l.literal-iterator.size ≡ 3) × KeptFrom (side_of l.side) l.l l.h (row_in l.l l.fn.combined) l.literal-iterator.rest.now l.kept (row_in l.l l.sought)
