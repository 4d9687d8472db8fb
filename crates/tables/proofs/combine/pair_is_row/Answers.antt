-- The part of the array that is looked up is the combined row.
use Rattle.std.proofs.Common.{rules}
use Rattle.tables.proofs.laws.Combining.{pair_found}
use Rattle.tables.proofs.combine.pair_is_row.Goals as goal

pub returns : goal.returns
returns c =
    pair_found _ _ c.args.rows.ready c.filled-x.result (search rules) _ _ c.requires.0 c.requires.1 _
    (λ k h. rw (← c.row-a.ensures.0, ← c.row-b.ensures.0) (let f = c.filled-x.ensures k h in search rules)) _ c.has.ensures
