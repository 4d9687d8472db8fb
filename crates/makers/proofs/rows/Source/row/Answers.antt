-- `makers::rows::Source::row` meets its contract: the row stands within the table (row_known).
use Rattle.makers.proofs.laws.Parts.{row_known}
use Rattle.makers.proofs.rows.Source.row.Goals as goal

pub row-requires : goal.row-requires
row-requires c = row_known c.args.self.now _ c.requires
