-- `makers::rows::Source::row_by_row` meets its contract. The invariant: what is left from row k on gives the whole.
use Rattle.makers.proofs.laws.AllRows.{RowsAt}
use Rattle.makers.proofs.rows.Source.row_by_row.Given as goal

abbrev pub invariant-loop-k : goal.invariant-loop-k
invariant-loop-k l = RowsAt l.self l.initial.draft l.k l.draft
