use mathlib.Core.List.{[], ◌∷◌, ◌++◌}
use Rattle.books.proofs.laws.Put.{Copied}
use Rattle.listing.specs.Cursors.{prefix_of}
use Rattle.listing.proofs.steps.put_row.Given as goal

abbrev pub invariant-loop-i : goal.invariant-loop-i
invariant-loop-i l = Copied l.initial.room l.at (prefix_of l.cur.cursor ++ (l.v ∷ [])) l.i l.room
