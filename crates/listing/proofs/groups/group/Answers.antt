-- `group`: at first no entry is asked; its invariant is `Asking` of laws/Looking.
use native.Mathlib.Omega.{arith}
use Rattle.listing.proofs.laws.Looking.{asking_start}
use Rattle.listing.proofs.groups.group.Goals as goal

pub loop-i-init : goal.loop-i-init
loop-i-init c = search (asking_start, arith)
