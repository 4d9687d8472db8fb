-- `makers::rows::Source::needed` meets its contract: rules are no longer than the general ones that they are parts of.
use Rattle.std.proofs.Common.{ap, tests, rules}
use Rattle.literals.specs.Kinds.{number_of}
use Rattle.makers.proofs.laws.Measuring.{needed_bound, needed_general}
use Rattle.makers.proofs.rows.Source.needed.Goals as goal
use Rattle.makers.proofs.rows.Source.needed.Goals.{then-general-space, else-general-space+in-General, else-general-space+in_default}

pub returns-then-matches : goal.returns-then-matches
returns-then-matches c =
    elim c.if-general-space.branch [
      | then-general-space w ↦ search needed_bound
      | else-general-space+in-General w ↦ needed_general _ _ _ _ _ c.measured-general.ensures (ap number_of w.in-General.is)
      | else-general-space+in_default w ↦ search (rules, tests)
    ]
