use Rattle.meaning.specs.Bytes.{rules_in}
use Rattle.meaning.specs.Listing.{dead}
use Rattle.listing.proofs.laws.Leaves.{Leafing}
use Rattle.listing.proofs.steps.Task.leaves.Given as goal

abbrev pub invariant-loop-v : goal.invariant-loop-v
invariant-loop-v l = Leafing (dead (rules_in l.self.book.now)) l.self.sizes.now l.cur.cursor l.self.fit l.self.budget l.on.walk l.on.v l.initial.room l.room l.done l.v
