-- `shows`: one literal that holds is enough.
use native.Mathlib.Omega.{arith}
use Rattle.listing.proofs.laws.Looking.{shows_by}
use Rattle.listing.proofs.groups.shows.Goals as goal

pub returns : goal.returns
returns c = search (shows_by, arith)
