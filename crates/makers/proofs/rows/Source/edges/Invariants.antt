-- `makers::rows::Source::edges` meets its contract. The invariant: the rule is what differs before setting i, and what is left from there gives the whole.
use Rattle.literals.specs.Kinds.{sign_of}
use Rattle.makers.proofs.laws.Edges.{EdgesAt}
use Rattle.makers.proofs.rows.Source.edges.Given as goal

abbrev pub invariant-loop-i : goal.invariant-loop-i
invariant-loop-i l = EdgesAt l.self l.row (sign_of l.sign) l.from l.initial.draft l.i l.before l.draft
