-- Cursors: a prefix as the code holds it, which cursors are good, and the moves.
use Rattle.std.specs.Prelude.{ℕ, ◌+◌, ◌-◌, Bool, true, cond, ◌&&◌, List, [], ◌∷◌, ◌++◌, leb, eqb, length, take, drop, replicate}
use Rattle.meaning.specs.Rows.{Row, Sizes, alike, begins, limits}
use Rattle.listing.specs.declared.cursor.Cursor.{Cursor}
use Rattle.listing.specs.declared.cursor.Move.{Move}
use Rattle.listing.specs.declared.cursor.Move.TheVariants.{Down, Along, Up}

-- the prefix that a cursor is
abbrev pub prefix_of : Cursor → Row
prefix_of c = take c.len c.values

-- the one cursor that is the prefix p: its length and sixteen values, unused ones zero
unfoldable pub cursor_of : Row → Cursor
cursor_of p = record { len = length p; values = p ++ replicate (16 - length p) 0 }

unfoldable pub all_zero : List ℕ → Bool
all_zero [] = true
all_zero (v ∷ vs) = eqb v 0 && all_zero vs

-- each value is below its setting's size
unfoldable pub fits : Sizes → Cursor → Bool
fits ns c = begins ns (prefix_of c)

-- each unused value is zero
unfoldable pub clean : Cursor → Bool
clean c = all_zero (drop c.len c.values)

-- a good cursor: no more values than settings, each below its setting's size, and the unused ones zero; a bad one is refusal 18
unfoldable pub cursor_ok : Sizes → Cursor → Bool
cursor_ok ns c = leb c.len (length ns) && (fits ns c && clean c)

-- ---- the moves

-- the next value at the last place
abbrev pub next_value : Row → Row
next_value [] = []
next_value (v ∷ []) = (v + 1) ∷ []
next_value (v ∷ u ∷ p) = v ∷ next_value (u ∷ p)

abbrev pub one_shorter : Row → Row
one_shorter [] = []
one_shorter (v ∷ []) = []
one_shorter (v ∷ u ∷ p) = v ∷ one_shorter (u ∷ p)

-- to the prefix p, or the same cursor where there is no such prefix or the cursor is bad
unfoldable pub move_to : Sizes → Cursor → Row → Cursor
move_to ns c p = cond (cursor_ok ns c && begins ns p) (cursor_of p) c

abbrev pub down_in : Sizes → Cursor → Cursor
down_in ns c = move_to ns c (prefix_of c ++ (0 ∷ []))

abbrev pub along_in : Sizes → Cursor → Cursor
along_in ns c = move_to ns c (next_value (prefix_of c))

abbrev pub up_in : Sizes → Cursor → Cursor
up_in ns c = move_to ns c (one_shorter (prefix_of c))

-- any of the three
abbrev pub moved_in : Sizes → Cursor → Move → Cursor
moved_in ns c Down = down_in ns c
moved_in ns c Along = along_in ns c
moved_in ns c Up = up_in ns c

-- the moves of edition 1: the same cursor where n or l is outside its limits
unfoldable pub down_of : ℕ → ℕ → Cursor → Cursor
down_of n l c = cond (limits n l) (down_in (alike n l) c) c

unfoldable pub along_of : ℕ → ℕ → Cursor → Cursor
along_of n l c = cond (limits n l) (along_in (alike n l) c) c

unfoldable pub up_of : ℕ → ℕ → Cursor → Cursor
up_of n l c = cond (limits n l) (up_in (alike n l) c) c

unfoldable pub moved_of : ℕ → ℕ → Cursor → Move → Cursor
moved_of n l c m = cond (limits n l) (moved_in (alike n l) c m) c
