-- `moved`: a bad cursor does not move.
use Rattle.listing.proofs.laws.Moves.{moved_bad}
use Rattle.listing.proofs.cursor.moved.Goals as goal

pub returns-then-not-cursor_ok : goal.returns-then-not-cursor_ok
returns-then-not-cursor_ok c = moved_bad _ _ c.requires _ c.cursor_ok.ensures c.if-not-cursor_ok.true _
