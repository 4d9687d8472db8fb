use Rattle.listing.proofs.laws.Sorting.{Filling}
use Rattle.listing.proofs.sorting.fill.Given as goal

abbrev pub invariant-loop-i : goal.invariant-loop-i
invariant-loop-i l = Filling l.book l.rules l.starts l.places l.ends l.seen l.at l.i
