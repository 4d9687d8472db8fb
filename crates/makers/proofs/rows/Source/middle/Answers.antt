-- `makers::rows::Source::middle` meets its contract: rows in order part before their end.
use Rattle.makers.proofs.laws.Making.{middle_none, middle_same, middle_apart, middle_sent}
use borrow.Author.Rules.{rules}
use Rattle.makers.proofs.rows.Source.middle.Goals as goal

pub split-i-requires : goal.split-i-requires
split-i-requires c = search middle_same

pub between-requires : goal.between-requires
between-requires c = (search middle_apart, search rules)

pub returns-then-next-self : goal.returns-then-next-self
returns-then-next-self c = search middle_sent

pub returns-else-next-self : goal.returns-else-next-self
returns-else-next-self c = search middle_none
