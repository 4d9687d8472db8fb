-- `makers::rows::Source::rules` meets its contract: no rows give the one rule without literals (`rows_none`).
use Rattle.makers.proofs.laws.AllRows.{rows_none}
use Rattle.makers.proofs.rows.Source.rules.Goals as goal

pub returns-then-none : goal.returns-then-none
returns-then-none c = search rows_none
