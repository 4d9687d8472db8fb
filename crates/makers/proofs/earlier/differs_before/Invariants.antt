-- `makers::earlier::differs_before` meets its contract. The invariant: the rule is what differs before setting i.
use Rattle.std.proofs.Common.{◌≡◌}
use Rattle.meaning.specs.General.{earlier}
use Rattle.makers.proofs.earlier.differs_before.Given as goal

abbrev pub invariant-loop-i : goal.invariant-loop-i
invariant-loop-i l = l.rule ≡ earlier l.sizes l.row l.i
