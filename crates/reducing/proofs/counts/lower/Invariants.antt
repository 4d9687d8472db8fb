-- `reducing::counts::lower` meets its contract. The invariant: the numbers of the rows passed are lowered (ChangeFrom).
use Rattle.std.proofs.Common.{◌≡◌}
use Rattle.meaning.specs.Bytes.{literal_at}
use Rattle.meaning.specs.Rows.{rows_of}
use Rattle.reducing.specs.Inner.{rows_in, lowering}
use Rattle.reducing.proofs.laws.Counted.{ChangeFrom}
use Rattle.reducing.proofs.counts.lower.Given as goal

abbrev pub invariant-loop-k : goal.invariant-loop-k
invariant-loop-k l =
    (l.row-iterator.size ≡ l.rows.l) × ChangeFrom (lowering (literal_at l.literal 0)) (rows_in l.rows) (rows_of l.rows.l l.row-iterator.rest.now) l.initial.counts l.counts l.k
