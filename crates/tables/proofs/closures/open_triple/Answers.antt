-- What is first found from row 0 on (found_mapped).
use Rattle.std.proofs.Common.{rules, ◌∙◌}
use Rattle.tables.specs.Inner.{triples_after}
use Rattle.tables.specs.Rows.{rows_in}
use Rattle.tables.proofs.laws.Closures.{found_mapped, triples_are}
use Rattle.tables.proofs.closures.open_triple.Goals as goal

pub returns : goal.returns
returns c = found_mapped (triples_after (rows_in c.args.rows)) (λ x o q k. search rules) _ c.find_map.result c.find_map.ensures.runs ∙ rw c.count.ensures (triples_are _)
