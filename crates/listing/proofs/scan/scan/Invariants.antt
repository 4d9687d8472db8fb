-- `scan`: the loop judges one rule after another; its invariant is `Scanning` of laws/Windows.
use Rattle.listing.specs.Cursors.{prefix_of}
use Rattle.listing.proofs.laws.Windows.{Scanning}
use Rattle.listing.proofs.scan.scan.Given as goal

abbrev pub invariant-loop-i : goal.invariant-loop-i
invariant-loop-i l = Scanning l.book l.from (prefix_of l.cur.cursor) l.set l.rules l.allowed l.span l.at l.i
