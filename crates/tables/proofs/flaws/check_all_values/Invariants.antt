-- The invariant: some rows are passed, and what is left of them decides (Checking). Each way through the loop is a lemma of Checking.
use Rattle.std.proofs.Common.{◌≡◌, length}
use Rattle.tables.proofs.laws.Checking.{Checking}
use Rattle.tables.proofs.flaws.check_all_values.Given as goal

abbrev pub invariant-loop-k : goal.invariant-loop-k
invariant-loop-k l =
    (goal.iterator-loop-k).can_next l.k-iterator × (goal.iterator-loop-k).is_finite l.k-iterator ×
    (l.k-iterator.iter.size ≡ length l.sizes) × Checking l.sizes l.table l.k-iterator.count l.k-iterator.iter.rest.now
