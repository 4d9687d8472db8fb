-- `survey`: the rules that are left stand in the bytes.
use Prim.Native.Nat.{◌-◌}
use Rattle.listing.specs.Inner.{AllStand}
use Rattle.listing.proofs.sorting.survey.Given as goal

abbrev pub invariant-loop-i : goal.invariant-loop-i
invariant-loop-i l = AllStand l.book l.at (l.rules - l._i)
