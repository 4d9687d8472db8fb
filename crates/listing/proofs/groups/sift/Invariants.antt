use lib.ListN.{length}
use Rattle.listing.specs.Cursors.{prefix_of}
use Rattle.listing.specs.Inner.{open_of}
use Rattle.listing.proofs.laws.Sifting.{Sifting}
use Rattle.listing.proofs.groups.sift.Given as goal

abbrev pub invariant-loop-i : goal.invariant-loop-i
invariant-loop-i l = Sifting (open_of l.book (prefix_of l.cur.cursor)) l.initial.places l.from l.end (length l.initial.hints) l.places (length l.hints) l.i l.k
