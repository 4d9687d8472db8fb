-- What is first found from row b + 1 on (found_after).
use Rattle.std.proofs.Common.{rules, refl, ◌∙◌}
use Rattle.std.proofs.lemmas.Iterator.{first_from_Range}
use Rattle.meaning.specs.Rows.{is_row}
use Rattle.tables.specs.Inner.{median_of}
use Rattle.tables.specs.Rows.{rows_in}
use Rattle.tables.specs.declared.Open.TheVariants.{Triple}
use Rattle.tables.proofs.laws.Closures.{found_after, triple_is}
use Rattle.tables.proofs.closures.triple_after.Goals as goal

pub returns : goal.returns
returns c =
    let rows = rows_in c.args.rows in
    let a = c.args.a in
    let b = c.args.b in
    found_after (λ j. is_row (median_of rows a b j) rows) _ (λ j. Triple a b j) (λ j. refl) _ _ c.find.result
    (first_from_Range _ _ _ c.find.result _ _ c.find.ensures.ran (λ x q k. search rules) (λ x q k. search rules)) c.map.result (search rules) ∙ rw c.count-count.ensures (triple_is rows a b)
