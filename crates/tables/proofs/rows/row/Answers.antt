-- The bytes from i * l on, l of them, are row i (cut_out).
use Rattle.tables.proofs.laws.Combining.{cut_out, cut_wide}
use Rattle.tables.proofs.rows.row.Goals as goal

pub returns : goal.returns
returns c = (cut_out _ _ _ c.requires.known, cut_wide _ _ _ c.requires.ends)
