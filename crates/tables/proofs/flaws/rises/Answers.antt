-- Both rows stand within the table (is_known).
use native.Mathlib.Omega.{arith}
use Rattle.tables.proofs.laws.Combining.{is_known}
use Rattle.tables.proofs.flaws.rises.Goals as goal

pub row-requires : goal.row-requires
row-requires c = is_known _ _ _ (omega (arith, c.requires))

pub row-requires-2 : goal.row-requires-2
row-requires-2 c = is_known _ _ _ (omega (arith, c.requires))
