-- `met_from`: the literal that says so is one of the rule's.
use native.Mathlib.Omega.{arith}
use Rattle.listing.proofs.laws.Trimming.{passes_by}
use Rattle.listing.proofs.scan.met_from.Goals as goal

pub returns-then-book-q-ne0 : goal.returns-then-book-q-ne0
returns-then-book-q-ne0 c = search (passes_by, arith)
