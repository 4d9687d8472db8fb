-- `makers::rows::Source::row_by_row` meets its contract. The invariant: what is left from row k on gives the whole.
use Rattle.makers.proofs.laws.AllRows.{rows_start, rows_on, rows_end}
use Rattle.makers.proofs.rows.Source.row_by_row.Goals as goal

pub loop-k-init : goal.loop-k-init
loop-k-init c = search rows_start

pub loop-k-preserved : goal.loop-k-preserved
loop-k-preserved c = search rows_on

pub returns : goal.returns
returns c = search rows_end
