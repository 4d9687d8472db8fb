use Rattle.listing.proofs.laws.Looking.{Asking}
use lib.ListN.{length}
use Rattle.listing.specs.Cursors.{prefix_of}
use Rattle.listing.proofs.groups.group.Given as goal

abbrev pub invariant-loop-i : goal.invariant-loop-i
invariant-loop-i l = Asking l.book (prefix_of l.cur.cursor) l.places l.from l.end (length l.initial.hints) (length l.hints) l.set l.i
