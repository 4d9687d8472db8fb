-- Each way out is a lemma of Refusals.
use native.Mathlib.Omega.{arith}
use Rattle.tables.proofs.laws.Refusals.{sizes_uneven, sizes_rows}
use Rattle.tables.proofs.flaws.check_sizes.Goals as goal

pub returns-then-table-l-gt0 : goal.returns-then-table-l-gt0
returns-then-table-l-gt0 c = search (sizes_uneven, arith)

pub returns : goal.returns
returns c = search (sizes_rows, arith)
