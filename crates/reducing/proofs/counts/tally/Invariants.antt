-- `reducing::counts::tally` meets its contract. The invariant: the numbers of the rows passed are written (ChangeFrom).
use Rattle.std.proofs.Common.{◌≡◌}
use Rattle.literals.specs.Inner.{literals_in}
use Rattle.meaning.specs.Rows.{rows_of}
use Rattle.reducing.specs.Inner.{rows_in, counting}
use Rattle.reducing.proofs.laws.Counted.{ChangeFrom}
use Rattle.reducing.proofs.counts.tally.Given as goal

abbrev pub invariant-loop-k : goal.invariant-loop-k
invariant-loop-k l =
    (l.row-iterator.size ≡ l.rows.l) × ChangeFrom (counting (literals_in l.literals)) (rows_in l.rows) (rows_of l.rows.l l.row-iterator.rest.now) l.initial.counts l.counts l.k
