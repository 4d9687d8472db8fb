-- Copying: the loop that writes a prefix and one value behind it into the room.
use Prim.Native.Nat.{ℕ, ◌+◌}
use native.Mathlib.Omega.{arith}
use mathlib.Core.Path.{◌≡◌}
use mathlib.Core.List.{[], ◌∷◌, ◌++◌}
use lib.ListN.{length, length-append}
use Rattle.listing.specs.declared.cursor.Cursor.{Cursor}
use Rattle.listing.specs.Cursors.{prefix_of}
use Rattle.listing.specs.Inner.{Plain}
use Rattle.listing.proofs.laws.Prefixes.{plain_length}

module _ (cur : Cursor) (v : ℕ) (plain : Plain cur) where
  pub row_long : length (prefix_of cur ++ (v ∷ [])) ≡ cur.len + 1
  row_long = omega (arith, length-append (prefix_of cur) (v ∷ []), plain_length cur plain)
