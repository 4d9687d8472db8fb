-- Listing: a run of pages, and what its pages come to together.
use Prim.Native.Nat.{ℕ, ◌+◌}
use mathlib.Core.Bool.{Bool, cond}
use mathlib.Core.List.{List, [], ◌∷◌, ◌++◌}
use Rattle.meaning.specs.Rows.{Row, Sizes}
use Rattle.meaning.specs.Listing.{Page, page}

module _ (ns : Sizes) (d : Row → Bool) where
  -- one page for each room and budget, each from where the last one stopped, until one is finished
  abbrev pub run : List (ℕ × ℕ) → Row → List Page
  run [] c = []
  run (k ∷ ks) c = let g = page ns d k.0 k.1 c in let r = run ks g.last in g ∷ cond g.finished [] r

abbrev pub all_rows : List Page → List Row
all_rows [] = []
all_rows (g ∷ gs) = g.rows ++ all_rows gs

abbrev pub all_steps : List Page → ℕ
all_steps [] = 0
all_steps (g ∷ gs) = g.steps + all_steps gs
