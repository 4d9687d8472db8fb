-- Made: the rules made from a table permit exactly its rows, in every family whose closure the table has.
use Prim.Native.Nat.{ℕ, zero, suc}
use mathlib.Core.Logic.{◌↔◌}
use mathlib.Core.List.{List, [], ◌∷◌, Memᴰ}
use lib.Dec.{T}
use Rattle.meaning.specs.Rows.{Row, Sizes, within, sound}
use Rattle.meaning.specs.Rules.{Rule, low, high, all_met, Part, Parts}
use Rattle.meaning.specs.General.{general}
use Rattle.meaning.specs.Families.{reduce_for, rules_for}
use Rattle.meaning.specs.Closed.{ClosedFor}
use Rattle.meaning.proofs.MetLaws.{met_nil, all_met_cons}
use Rattle.meaning.proofs.Members.{sound_mem}
use Rattle.meaning.proofs.Exact.{general_exact}
use Rattle.meaning.proofs.Reduced.{part_all, RowsMeet, RowsMeetAll, reduced_parts, reduced_met, reduced_stays}
use Rattle.meaning.proofs.Horn.{reduce_part}
use Rattle.meaning.proofs.Extreme.{reduce_stays}
use Rattle.meaning.proofs.Median.{trim_part, trim_stays}

-- ---- one rule

pub reduce_for_part : (family : ℕ) (rows : List Row) (r : Rule) → Part (reduce_for family rows r) r
unfolding reduce_for
reduce_for_part zero rows r = part_all r
reduce_for_part (suc zero) rows r = reduce_part low rows r
reduce_for_part (suc (suc zero)) rows r = reduce_part high rows r
reduce_for_part (suc (suc (suc f))) rows r = trim_part rows [] r

reduce_for_stays : (family : ℕ) (rows : List Row) → ClosedFor family rows → (r : Rule) → RowsMeet rows r → RowsMeet rows (reduce_for family rows r)
unfolding reduce_for
reduce_for_stays zero rows closed r g = g
reduce_for_stays (suc zero) rows closed r g = reduce_stays low rows closed r g
reduce_for_stays (suc (suc zero)) rows closed r g = reduce_stays high rows closed r g
reduce_for_stays (suc (suc (suc f))) rows closed r g = trim_stays rows r g

-- ---- all rules

-- each rule is the general rule at its place with some literals left out, in their order
pub rules_parts : (family : ℕ) (ns : Sizes) (rows : List Row) → Parts (rules_for family ns rows) (general ns rows)
unfolding rules_for
rules_parts family ns rows = reduced_parts (reduce_for family rows) (reduce_for_part family rows) (general ns rows)

pub general_rows : (ns : Sizes) (rows : List Row) → T (sound ns rows) → RowsMeetAll rows (general ns rows)
general_rows ns rows t m h = (general_exact ns rows m t (sound_mem ns rows t m h)).1 h

-- a combination within the sizes is permitted just where it is a row
pub exact : (family : ℕ) (ns : Sizes) (rows : List Row) (x : Row) → T (sound ns rows) → ClosedFor family rows → T (within ns x)
    → T (all_met (rules_for family ns rows) x) ↔ Memᴰ x rows
unfolding rules_for
exact family ns rows x t closed w = (
  λ a. (general_exact ns rows x t w).0 (reduced_met (reduce_for family rows) (reduce_for_part family rows) (general ns rows) x a),
  reduced_stays rows (reduce_for family rows) (reduce_for_stays family rows closed) (general ns rows) (general_rows ns rows t) x,
)

-- for no rows nothing at all is permitted
pub empty_none : (family : ℕ) (ns : Sizes) (x : Row) → ¬ T (all_met (rules_for family ns []) x)
unfolding rules_for general
empty_none family ns x t = met_nil x ((all_met_cons [] [] x).0 (reduced_met (reduce_for family []) (reduce_for_part family []) ([] ∷ []) x t)).0
