-- `makers::rows::Source::write` meets its contract: head, rules and end, each written where the one before it ends.
use Rattle.makers.proofs.laws.Writing.{write_all}
use borrow.Author.Rules.{rules}
use Rattle.makers.proofs.rows.Source.write.Goals as goal

pub returns : goal.returns
returns c = write_all _ _ _ c.requires _ _ _ _ _ (rw c.number.ensures at c.put_head-at.ensures) c.rules.ensures c.put_end.ensures _ (search rules)
