-- What is first found from row a + 1 on (found_mapped).
use Rattle.std.proofs.Common.{rules, ◌∙◌}
use Rattle.tables.specs.Inner.{triple_after}
use Rattle.tables.specs.Rows.{rows_in}
use Rattle.tables.proofs.laws.Closures.{found_mapped, triples_is}
use Rattle.tables.proofs.closures.triples_after.Goals as goal

pub returns : goal.returns
returns c = found_mapped (triple_after (rows_in c.args.rows) c.args.a) (λ x o q k. search rules) _ c.find_map.result c.find_map.ensures.runs ∙ rw c.count-count.ensures (triples_is _ _)
