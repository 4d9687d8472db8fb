-- `beginning`: sixteen zeros are the cursor of the empty prefix.
use mathlib.Core.Path.{refl}
use Rattle.listing.specs.Cursors.{cursor_of}
use Rattle.listing.proofs.cursor.Cursor.beginning.Goals as goal

pub returns : goal.returns
unfolding cursor_of
returns c = refl
