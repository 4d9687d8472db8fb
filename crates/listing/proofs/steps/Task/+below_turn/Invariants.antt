-- `below` and `turn`: the loop over the values of one level and its turn (laws/Turns), where the look says which are dead
-- (laws/Resuming), and what stays true of the entries (laws/Holding).
use Prim.Native.Nat.{◌+◌, ◌*◌, ◌-◌}
use lib.ListN.{length}
use Rattle.meaning.specs.Bytes.{rules_in}
use Rattle.meaning.specs.Listing.{dead}
use Rattle.listing.specs.Cursors.{prefix_of}
use Rattle.listing.specs.Inner.{Going, Looks}
use Rattle.listing.proofs.laws.Holding.{Held}
use Rattle.listing.proofs.steps.Task.+below_turn.Given as goal

abbrev pub decreases-below : goal.decreases-below
decreases-below l = 2 * l.levels + 1

abbrev pub decreases-turn : goal.decreases-turn
decreases-turn l = 2 * l.levels

abbrev pub invariant-below-loop-point : goal.invariant-below-loop-point
invariant-below-loop-point l =
    Going (dead (rules_in l.self.book.now)) l.self.sizes.now l.cur.cursor l.levels l.self.fit l.self.budget l.fn.on.v l.fn.on.walk l.initial.room l.room l.point.walk l.point.v
    × Held l.self.book.now l.self.starts.now l.ends l.initial.places (length l.initial.hints) l.places (length l.hints)
    × Looks l.self.book.now (dead (rules_in l.self.book.now)) (prefix_of l.cur.cursor) l.places l.self.starts.now l.ends l.point.v l.point.scan

abbrev pub decreases-below-loop-point : goal.decreases-below-loop-point
decreases-below-loop-point l = l.n - l.point.v
