-- `hopeless`: what is left from here gives the whole; each way out is a lemma of laws/Starting.
use Rattle.listing.proofs.laws.Starting.{Seeking}
use Rattle.listing.proofs.start.Request.hopeless.Given as goal

abbrev pub invariant-loop : goal.invariant-loop
invariant-loop l = Seeking l.self.book.now l.self.rules l.at l.counter
