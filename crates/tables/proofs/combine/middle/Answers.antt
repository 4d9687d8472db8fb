-- The code says what the middle of three values is.
use Rattle.std.proofs.Common.{rules}
use Rattle.meaning.specs.Families.{mid}
use Rattle.tables.proofs.combine.middle.Goals as goal

pub returns : goal.returns
unfolding mid
returns c = search rules
