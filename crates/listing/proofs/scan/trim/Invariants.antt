-- `trim`: the rules that are left say what all of them say.
use Prim.Native.Nat.{◌-◌}
use Rattle.listing.specs.Inner.{Trims}
use Rattle.listing.proofs.scan.trim.Given as goal

abbrev pub invariant-loop-k : goal.invariant-loop-k
invariant-loop-k l = Trims l.book l.at l.rules l.i l.v l.p (l.rules - l.k)
