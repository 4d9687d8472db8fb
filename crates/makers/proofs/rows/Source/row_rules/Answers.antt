-- `makers::rows::Source::row_rules` meets its contract: left, right and middle, one after the other.
use native.Mathlib.Omega.{arith}
use Rattle.makers.proofs.laws.Sending.{sent_countable}
use Rattle.makers.specs.Inner.{Countable}
use Rattle.makers.proofs.laws.Making.{row_sides, row_sent}
use borrow.Author.Rules.{rules}
use Rattle.makers.proofs.rows.Source.row_rules.Goals as goal

pub edges-requires : goal.edges-requires
edges-requires c = (row_sides _ _ _ _ _ c.requires.0 c.row-values.ensures c.fork-left.ensures, search rules)

pub edges-requires-2 : goal.edges-requires-2
edges-requires-2 c = (
  row_sides _ _ _ _ _ c.requires.0 c.row-values.ensures c.fork-right.ensures,
  sent_countable _ _ _ _ _ _ _ c.edges.ensures c.requires.1 (omega arith),
)

pub middle-requires : goal.middle-requires
middle-requires c =
    let one : Countable c.edges.new.draft.made 17 = sent_countable _ _ _ _ _ _ _ c.edges.ensures c.requires.1 (omega arith) in
    (c.requires.0, sent_countable _ _ _ _ _ _ _ c.edges-2.ensures one (omega arith))

pub returns : goal.returns
returns c = search row_sent
