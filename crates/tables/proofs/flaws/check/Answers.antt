-- Each way out is a lemma of Refusals.
use Rattle.tables.proofs.laws.Refusals.{limits_broken}
use Rattle.meaning.proofs.Limits.{limits_known}
use Rattle.tables.proofs.flaws.check.Goals as goal

pub check_alike-requires : goal.check_alike-requires
check_alike-requires c = search limits_known

pub returns-else-limits : goal.returns-else-limits
returns-else-limits c = search limits_broken
