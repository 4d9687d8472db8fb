-- Ending: what `all` tells of the values of a prefix beside their sizes: whether each is the last.
use Prim.Native.Nat.{ℕ, suc, ◌+◌}
use native.Mathlib.Numerals.{add-one}
use mathlib.Core.Path.{◌≡◌, refl, ap}
use mathlib.Core.Bool.{Bool, ◌&&◌}
use mathlib.Core.List.{[], ◌∷◌}
use lib.Dec.{leb}
use Rattle.std.specs.List.{list_all, zip}
use Rattle.meaning.specs.Rows.{Row, Sizes}
use Rattle.meaning.specs.Inner.{all_last}

pub lasts_all : (ns : Sizes) (q : Row) → list_all (λ (x : ℕ × ℕ). leb x.1 (x.0 + 1)) (zip q ns) ≡ all_last ns q
lasts_all ns [] = refl
lasts_all [] (v ∷ q) = refl
lasts_all (n ∷ ns) (v ∷ q) = rw (add-one v) (ap (λ (b : Bool). leb n (suc v) && b) (lasts_all ns q))
