-- `reducing::counts::spare` meets its contract. The invariant: no row passed has the literal as its only one (SpareFrom).
use Rattle.std.proofs.Common.{◌≡◌}
use Rattle.meaning.specs.Bytes.{literal_at}
use Rattle.reducing.proofs.laws.Counted.{SpareFrom}
use Rattle.reducing.proofs.counts.spare.Given as goal

abbrev pub invariant-loop-row : goal.invariant-loop-row
invariant-loop-row l =
    (goal.iterator-loop-row).can_next l.row-iterator × (goal.iterator-loop-row).is_finite l.row-iterator ×
    (l.row-iterator.a.size ≡ l.rows.l) × SpareFrom (literal_at l.literal 0) l.rows.l l.rows.table.now l.row-iterator.a.rest.now l.counts l.row-iterator.b.rest.now
