-- `literals::scarcity::scarces` meets its contract. The invariant counts the literals passed (ScarceFrom).
use Rattle.std.proofs.Common.{◌≡◌}
use Rattle.literals.specs.Kinds.{side_of}
use Rattle.literals.proofs.laws.Scarce.{ScarceFrom}
use Rattle.literals.proofs.scarcity.scarces.Given as goal

abbrev pub invariant-loop-literal : goal.invariant-loop-literal
invariant-loop-literal l = (l.literal-iterator.size ≡ 3) × ScarceFrom (side_of l.side) l.literals l.literal-iterator.rest.now l.count
