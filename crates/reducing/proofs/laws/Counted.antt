-- Counted: loops over the rows of a table beside their numbers: each number changed, and whether a literal can be spared.
use Prim.Native.Nat.{ℕ, suc, ◌+◌, ◌-◌, ◌≤◌, ◌<◌}
use native.Mathlib.Omega.{arith}
use mathlib.Core.Path.{◌≡◌, refl, sym, ap, ◌∙◌}
use mathlib.Core.Bool.{Bool, true, false, not, ◌&&◌}
use mathlib.Core.List.{List, [], ◌∷◌, ◌++◌}
use mir.Val.{bool_byte}
use lib.Dec.{eqb}
use lib.ListN.{length, get_or, take, drop, set, length-set}
use borrow.Author.Tests.{eq-eqb, ne_eqb}
use Rattle.meaning.specs.Rows.{Row, rows_of}
use Rattle.meaning.specs.Rules.{Literal, holds}
use Rattle.reducing.specs.Inner.{change, lowering, spare}
use Rattle.reducing.proofs.laws.Change.{change_on, change_none}
use Rattle.reducing.proofs.laws.Rows.{rows_on, rows_over}
use Rattle.reducing.proofs.laws.Passed.{one_byte}

-- the first k numbers are changed, and the elements of `rest` are left
pub record ChangeFrom {A : Type 0} (f : ℕ → A → ℕ) (all rest : List A) (old ns : List ℕ) (k : ℕ) : Type 0 where
  pub long : length ns ≡ length old
  pub room : k + length rest ≤ length old
  pub whole : change f all old ≡ take k ns ++ change f rest (drop k ns)

module _ {A : Type 0} {f : ℕ → A → ℕ} {all : List A} {old : List ℕ} where
  pub change_start : length all ≤ length old → ChangeFrom f all all old old 0
  change_start h = record { long = refl; room = omega arith; whole = refl }

  module _ {rest : List A} {ns : List ℕ} {k : ℕ} (m : ChangeFrom f all rest old ns k) where
    module _ {x : A} {t : List A} (e : rest ≡ x ∷ t) where
      more : length rest ≡ suc (length t)
      more = ap length e

      pub change_room : k < length ns
      change_room = omega (arith, m.long, m.room, more)

      pub change_turn : {v : ℕ} → v ≡ f (get_or ns k 0) x → ChangeFrom f all t old (set ns k v) (k + 1)
      change_turn {v} d = record {
        long = length-set ns k v ∙ m.long;
        room = omega (arith, m.room, more);
        whole = m.whole ∙ rw e (change_on f x t ns k v change_room d);
      }

    pub change_end : rest ≡ [] → ns ≡ change f all old
    change_end e = sym (m.whole ∙ rw e (change_none f ns k))

pub lowered : (c : Literal) (n : ℕ) (x : Row) (r : Bool) → r ≡ holds c x → n - bool_byte r ≡ lowering c n x
lowered c n x r d = rw (d, one_byte)

-- no row passed has the literal as its only one; the rows of `rest` are left, and the numbers of `ns`
pub record SpareFrom (c : Literal) (l : ℕ) (table rest all ns : List ℕ) : Type 0 where
  pub room : length (rows_of l rest) ≤ length ns
  pub whole : spare c (rows_of l table) all ≡ spare c (rows_of l rest) ns

module _ {c : Literal} {l : ℕ} {table rest all ns : List ℕ} (m : SpareFrom c l table rest all ns) where
  module _ (x t : List ℕ) (pos : 0 < l) (e : rest ≡ x ++ t) (n : length x ≡ l) (k : ℕ) (left : List ℕ) (f : ns ≡ k ∷ left) (r : Bool) (d : r ≡ holds c x) where
    spare_step : spare c (rows_of l table) all ≡ not (eqb k (bool_byte r)) && spare c (rows_of l t) left
    unfolding spare
    spare_step = m.whole ∙ rw (rows_on x t pos e n, f, d, one_byte)

    pub spare_no : k ≡ bool_byte r → false ≡ spare c (rows_of l table) all
    spare_no y = sym (spare_step ∙ rw (eq-eqb _ _ y))

    pub spare_on : (k ≡ bool_byte r → ⊥) → SpareFrom c l table t all left
    spare_on y =
        let a : length (rows_of l rest) ≡ suc (length (rows_of l t)) = ap length (rows_on x t pos e n) in
        let b : length ns ≡ suc (length left) = ap length f in
        record { room = omega (arith, m.room, a, b); whole = spare_step ∙ rw (ne_eqb _ _ y) }

  pub spare_yes : length rest < l → true ≡ spare c (rows_of l table) all
  unfolding spare
  spare_yes h = sym (m.whole ∙ rw (rows_over rest h))

  pub spare_out : length ns ≡ 0 → true ≡ spare c (rows_of l table) all
  unfolding spare
  spare_out h = sym (m.whole ∙ none (rows_of l rest) (omega (arith, m.room)))
    where
      none : (rows : List Row) → length rows ≡ 0 → spare c rows ns ≡ true
      none [] e = refl
      none (x ∷ rows) e = absurd (omega arith)
