use lib.ListN.{length}
use Rattle.listing.specs.Cursors.{prefix_of}
use Rattle.listing.proofs.laws.Sifting.{Narrowing}
use Rattle.listing.proofs.steps.Task.shorten.Given as goal

abbrev pub invariant-loop-g : goal.invariant-loop-g
invariant-loop-g l = Narrowing l.self.book.now (prefix_of l.cur.cursor) l.initial.places l.self.starts.now l.initial.fronts l.places l.fronts (length l.initial.hints) (length l.hints) l.g
