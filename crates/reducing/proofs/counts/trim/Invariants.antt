-- `reducing::counts::trim` meets its contract. The invariant: what stays of the literals passed is kept, and the numbers are those of what is left (TrimFrom).
use Rattle.std.proofs.Common.{◌≡◌}
use Rattle.reducing.specs.Inner.{rows_in}
use Rattle.reducing.proofs.laws.Trim.{TrimFrom}
use Rattle.reducing.proofs.counts.trim.Given as goal

abbrev pub invariant-loop-literal : goal.invariant-loop-literal
invariant-loop-literal l = (l.literal-iterator.size ≡ 3) × TrimFrom (rows_in l.rows) l.rows.l l.h l.literal-iterator.rest.now l.counts l.kept
