-- What is first found from row i + 1 on (found_after).
use Rattle.std.proofs.Common.{rules, refl, ◌∙◌}
use Rattle.std.proofs.lemmas.Iterator.{first_from_Range}
use Rattle.meaning.specs.Rows.{is_row}
use Rattle.literals.specs.Kinds.{side_of}
use Rattle.tables.specs.Inner.{pair_of}
use Rattle.tables.specs.Rows.{rows_in}
use Rattle.tables.specs.declared.Open.TheVariants.{Pair}
use Rattle.tables.proofs.laws.Closures.{found_after, pair_is}
use Rattle.tables.proofs.closures.pair_after.Goals as goal

pub returns : goal.returns
returns c =
    let rows = rows_in c.args.rows in
    let i = c.args.i in
    found_after (λ j. is_row (pair_of (side_of c.args.side) rows i j) rows) _ (λ j. Pair i j) (λ j. refl) _ _ c.find.result
    (first_from_Range _ _ _ c.find.result _ _ c.find.ensures.ran (λ x q k. search rules) (λ x q k. search rules)) c.map.result (search rules) ∙ rw c.count-count.ensures (pair_is rows _ i)
