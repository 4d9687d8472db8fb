-- What is first found from row 0 on (found_mapped).
use Rattle.std.proofs.Common.{rules, ◌∙◌}
use Rattle.literals.specs.Kinds.{side_of}
use Rattle.tables.specs.Inner.{pair_after}
use Rattle.tables.specs.Rows.{rows_in}
use Rattle.tables.proofs.laws.Closures.{found_mapped, pairs_are}
use Rattle.tables.proofs.closures.open_pair.Goals as goal

pub returns : goal.returns
returns c = found_mapped (pair_after (side_of c.args.side) (rows_in c.args.rows)) (λ x o q k. search rules) _ c.find_map.result c.find_map.ensures.runs ∙ rw c.count.ensures (pairs_are _ _)
