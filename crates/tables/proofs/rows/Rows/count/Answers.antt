-- There are as many as fit (rows_count).
use Rattle.std.proofs.Common.{sym}
use Rattle.meaning.proofs.Flat.{rows_count}
use Rattle.tables.proofs.rows.Rows.count.Goals as goal

pub returns : goal.returns
returns c = sym (rows_count _ _)
