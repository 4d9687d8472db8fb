-- `books::records::put_rule` meets its contract: the mark, the number of literals and the literals are a rule's record (puts_rule).
use native.Mathlib.Omega.{arith}
use Rattle.books.proofs.laws.Records.{puts_rule}
use Rattle.books.proofs.records.put_rule.Goals as goal

pub returns : goal.returns
returns c = puts_rule _ _ _ _ _ _ c.put.ensures (omega (arith, c.requires.1))
