use Rattle.listing.proofs.laws.Sorting.{Building}
use Rattle.listing.proofs.sorting.ladder.Given as goal

abbrev pub invariant-loop-g : goal.invariant-loop-g
invariant-loop-g l = Building l.starts l.ends l.from l.g
