-- Rows: the rows of a table that is ready for the searches.
use Rattle.std.specs.Prelude.{List}
use Rattle.meaning.specs.Rows.{Row, rows_of}
use Rattle.tables.specs.declared.rows.Rows.{Rows}

abbrev pub rows_in : Rows → List Row
rows_in r = rows_of r.l r.table.now
