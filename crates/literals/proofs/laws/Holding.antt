-- Holding: when a literal holds, by its bytes; and the loop to the first that does.
use Prim.Native.Nat.{ℕ, zero, suc, ◌+◌, ◌<◌}
use native.Mathlib.Omega.{arith}
use native.Mathlib.Nat.{add-zero}
use mathlib.Core.Path.{◌≡◌, refl, ◌∙◌}
use mathlib.Core.Bool.{Bool, true, false, cond}
use mathlib.Core.List.{List, [], ◌∷◌, ◌++◌}
use lib.Dec.{leb, ltb}
use Rattle.std.specs.Prelude.{Option, Some, None}
use Rattle.std.specs.Option.{is_some}
use Rattle.std.proofs.lemmas.Bool.{lt-ltb, le-ltb}
use lib.ListN.{length, get_or}
use borrow.Author.Tests.{eq-eqb, ne_eqb}
use Rattle.meaning.specs.Rows.{Row, at}
use Rattle.meaning.specs.Rules.{Rule, holds, met}
use Rattle.meaning.specs.Bytes.{literal, literal_at}
use Rattle.meaning.specs.Inner.{first_held}
use Rattle.meaning.proofs.Literals.{literal_setting_is}
use Rattle.meaning.proofs.MetLaws.{met_held}
use Rattle.literals.specs.Inner.{holds_by, literals_in, Known}
use Rattle.literals.specs.Found.{found}
use Rattle.literals.proofs.laws.Chunks.{literals_first, literals_over}

-- ---- one literal

module _ (g d v : ℕ) where
  pub holds_by_most : g ≡ 0 → leb v d ≡ holds_by g d v
  unfolding holds_by
  holds_by_most e = rw (eq-eqb g 0 e)

  pub holds_by_least : (g ≡ 0 → ⊥) → leb d v ≡ holds_by g d v
  unfolding holds_by
  holds_by_least e = rw (ne_eqb g 0 e)

pub holds_by_literal : (g i d : ℕ) (x : Row) → holds_by g d (at x i) ≡ holds (literal g i d) x
unfolding holds_by holds
holds_by_literal zero i d x = refl
holds_by_literal (suc g) i d x = rw (ne_eqb (suc g) 0 (λ e. omega arith))

-- the one at p
pub holds_at : (b : List ℕ) (p i : ℕ) (x : Row) (r : Bool) → i ≡ get_or b p 0 → r ≡ holds_by (get_or b (p + 1) 0) (get_or b (p + 2) 0) (get_or x i 0) → r ≡ holds (literal_at b p) x
holds_at b p i x r e f = f ∙ rw e (holds_by_literal (get_or b (p + 1) 0) (get_or b p 0) (get_or b (p + 2) 0) x)

-- ---- the loop: of the literals of b, k are passed, none of which holds, and `rest` is left
pub record HeldFrom (b rest : List ℕ) (x : Row) (k : ℕ) : Type 0 where
  pub known : Known (length x) (literals_in rest)
  pub whole : first_held (literals_in b) x ≡ k + first_held (literals_in rest) x
  pub count : length (literals_in b) ≡ k + length (literals_in rest)

pub held_start : (b : List ℕ) (x : Row) → Known (length x) (literals_in b) → HeldFrom b b x 0
held_start b x known = record { known = known; whole = omega arith; count = omega arith }

module _ {b rest : List ℕ} {x : Row} {k : ℕ} (m : HeldFrom b rest x k) (y t : List ℕ) (e : rest ≡ y ++ t) (three : length y ≡ 3) where
  first : literals_in rest ≡ literal_at y 0 ∷ literals_in t
  first = rw e (literals_first y t three)

  both : Known (length x) (literal_at y 0 ∷ literals_in t)
  both = rw first at m.known

  pub held_known : get_or y 0 0 < length x
  held_known = rw literal_setting_is at both.0

  counted : length (literals_in b) ≡ k + suc (length (literals_in t))
  counted = m.count ∙ rw first

  module _ {r : Bool} (d : r ≡ holds (literal_at y 0) x) where
    step : first_held (literals_in b) x ≡ k + cond r 0 (suc (first_held (literals_in t) x))
    unfolding first_held
    step = m.whole ∙ rw (first, ← d)

    pub held_found : r ≡ true → Some k ≡ found (length (literals_in b)) (first_held (literals_in b) x)
    held_found h =
        let same : first_held (literals_in b) x ≡ k = step ∙ rw (h, add-zero) in
        rw (same, lt-ltb k (length (literals_in b)) (omega (arith, counted)))

    pub held_on : r ≡ false → HeldFrom b t x (k + 1)
    held_on h = record { known = both.1; whole = omega (arith, rw h at step); count = omega (arith, counted) }

pub held_none : (b rest : List ℕ) (x : Row) (k : ℕ) → HeldFrom b rest x k → length rest < 3 → None ≡ found (length (literals_in b)) (first_held (literals_in b) x)
unfolding first_held
held_none b rest x k m short =
    let none : literals_in rest ≡ [] = literals_over rest short in
    let w : first_held (literals_in rest) x ≡ 0 = rw none in
    let c : length (literals_in rest) ≡ 0 = rw none in
    let same : first_held (literals_in b) x ≡ length (literals_in b) = omega (arith, m.whole, m.count) in
    rw (same, le-ltb (length (literals_in b)) (length (literals_in b)) (omega arith))

-- ---- the rule

-- one holds just where one is found
pub met_first : (r : Rule) (x : Row) (o : Option ℕ) → o ≡ found (length r) (first_held r x) → is_some o ≡ met r x
met_first r x o e = rw (e, met_held r x) (go (ltb (first_held r x) (length r)))
  where
    go : (t : Bool) → is_some (cond t (Some (first_held r x)) None) ≡ t
    go true = refl
    go false = refl
