use Rattle.meaning.specs.Bytes.{rules_in}
use Rattle.meaning.specs.Listing.{dead}
use Rattle.listing.proofs.laws.Turns.{Skipping}
use Rattle.listing.proofs.steps.Task.skip.Given as goal

abbrev pub invariant-loop-v : goal.invariant-loop-v
invariant-loop-v l = Skipping (dead (rules_in l.self.book.now)) l.self.sizes.now l.cur.cursor l.self.fit l.self.budget l.on.walk l.on.v l.walk l.v
