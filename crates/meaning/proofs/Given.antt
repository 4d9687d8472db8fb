-- Given: the search that a family makes finds nothing just where the table has the closure that the family asks for.
use Prim.Native.Nat.{ℕ, zero, suc}
use mathlib.Core.Path.{◌≡◌, refl}
use mathlib.Core.Logic.{◌↔◌}
use mathlib.Core.List.{List}
use mathlib.Core.Option.{none, some}
use lib.Dec.{T}
use Rattle.meaning.specs.Rows.{Row, Sizes, sound}
use Rattle.meaning.specs.Rules.{low, high}
use Rattle.meaning.specs.Closed.{ClosedFor, open_rows, FirstOpenFor}
use Rattle.meaning.proofs.Search.{none_some}
use Rattle.meaning.proofs.Open.{open_pair_none, open_pair_first}
use Rattle.meaning.proofs.OpenTriple.{open_triple_none, open_triple_first}

pub open_none : (family : ℕ) (ns : Sizes) (rows : List Row) → T (sound ns rows) → (open_rows family rows ≡ none) ↔ ClosedFor family rows
unfolding open_rows
open_none zero ns rows t = (λ e. tt, λ c. refl)
open_none (suc zero) ns rows t = open_pair_none low rows
open_none (suc (suc zero)) ns rows t = open_pair_none high rows
open_none (suc (suc (suc f))) ns rows t = open_triple_none rows ns t

pub open_first : (family : ℕ) (rows : List Row) (numbers : List ℕ) → open_rows family rows ≡ some numbers → FirstOpenFor family rows numbers
unfolding open_rows
open_first zero rows numbers e = none_some e
open_first (suc zero) rows numbers e = open_pair_first low rows numbers e
open_first (suc (suc zero)) rows numbers e = open_pair_first high rows numbers e
open_first (suc (suc (suc f))) rows numbers e = open_triple_first rows numbers e
