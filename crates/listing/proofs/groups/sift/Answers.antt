-- `sift`: an entry that is wanted goes to the front; the invariant is `Sifting` of laws/Sifting.
use native.Mathlib.Omega.{arith}
use Rattle.listing.proofs.laws.Sifting.{sifting_on}
use Rattle.listing.proofs.groups.sift.Goals as goal

pub loop-i-preserved : goal.loop-i-preserved
loop-i-preserved c = search (sifting_on, arith)
