-- The row stands within the table (is_one).
use Rattle.tables.proofs.laws.Combining.{is_one}
use Rattle.tables.proofs.rows.Rows.row.Goals as goal

pub row-requires : goal.row-requires
row-requires c = is_one _ _ _ c.requires
