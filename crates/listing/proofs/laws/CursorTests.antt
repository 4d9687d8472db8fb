-- The tests of a cursor: what `all` tells of the values past its length, and of those up to it.
use Prim.Native.Nat.{ℕ, zero, suc, ◌-◌, ◌≤◌, ◌<◌}
use native.Mathlib.Omega.{arith}
use mathlib.Core.Path.{◌≡◌, refl, sym, ap, ◌∙◌}
use mathlib.Core.Bool.{Bool, true, false, ◌&&◌, false≢true}
use mathlib.Core.List.{List, [], ◌∷◌}
use lib.Dec.{ltb, eqb}
use lib.ListN.{length, length-drop, take, drop}
use lib.Seq.{length-take-le}
use borrow.Author.Tests.{le-leb, lt-leb}
use Rattle.std.specs.List.{list_all, zip}
use Rattle.std.proofs.lemmas.List.{take_all}
use Rattle.meaning.specs.Rows.{Row, Sizes, begins}
use Rattle.listing.specs.declared.cursor.Cursor.{Cursor}
use Rattle.listing.specs.Cursors.{prefix_of, all_zero, fits, clean, cursor_ok}
use Rattle.listing.specs.Inner.{Cleaned, Tested}

zeros_all : (vs : List ℕ) → list_all (λ v. eqb v 0) vs ≡ all_zero vs
unfolding all_zero
zeros_all [] = refl
zeros_all (v ∷ vs) = ap (λ (b : Bool). eqb v 0 && b) (zeros_all vs)

pub cleaned_all : (c : Cursor) → length c.values ≡ 16 → (r : Bool) → r ≡ list_all (λ v. eqb v 0) (take (length c.values - c.len) (drop c.len c.values)) → Cleaned c r
unfolding clean
cleaned_all c h r e = record {
  is = e ∙ ap (list_all (λ v. eqb v 0)) (take_all (length c.values - c.len) (drop c.len c.values) (omega (arith, length-drop c.len c.values))) ∙ zeros_all (drop c.len c.values);
  sixteen = h;
}

begins_all : (ns : Sizes) (p : Row) → length p ≤ length ns → list_all (λ (x : ℕ × ℕ). ltb x.0 x.1) (zip p ns) ≡ begins ns p
unfolding begins
begins_all ns [] h = refl
begins_all [] (v ∷ p) h = absurd (omega arith)
begins_all (n ∷ ns) (v ∷ p) h = ap (λ (b : Bool). ltb v n && b) (begins_all ns p (omega arith))

pub fits_all : (ns : Sizes) (c : Cursor) → c.len ≤ length ns → length ns ≤ 16 → length c.values ≡ 16 → (r : Bool) → r ≡ list_all (λ (x : ℕ × ℕ). ltb x.0 x.1) (zip (prefix_of c) ns) → r ≡ fits ns c
unfolding fits
fits_all ns c h k l r e = e ∙ begins_all ns (prefix_of c) (omega (arith, length-take-le c.len c.values (omega arith)))

zip_take : (m : ℕ) (p : Row) (ns : Sizes) → length p ≤ m → zip p (take m ns) ≡ zip p ns
zip_take m [] ns h = refl
zip_take zero (v ∷ p) ns h = absurd (omega arith)
zip_take (suc m) (v ∷ p) [] h = refl
zip_take (suc m) (v ∷ p) (n ∷ ns) h = ap (λ (z : List (ℕ × ℕ)). (v, n) ∷ z) (zip_take m p ns (omega arith))

-- the same of the sizes cut to the prefix's length
pub fits_cut : (ns : Sizes) (c : Cursor) → c.len ≤ length ns → length ns ≤ 16 → length c.values ≡ 16 → (r : Bool) → r ≡ list_all (λ (x : ℕ × ℕ). ltb x.0 x.1) (zip (prefix_of c) (take c.len ns)) → r ≡ fits ns c
fits_cut ns c h k l r e =
    fits_all ns c h k l r (e ∙ ap (list_all (λ (x : ℕ × ℕ). ltb x.0 x.1)) (zip_take c.len (prefix_of c) ns (omega (arith, length-take-le c.len c.values (omega arith)))))

-- ---- the three tests of a cursor: how long it is, what is up to its length, what is past it

module _ (ns : Sizes) (c : Cursor) where
  pub tested_long : length ns < c.len → Tested ns c false
  unfolding cursor_ok
  tested_long h = record { is = rw (lt-leb c.len (length ns) h); sixteen = λ e. absurd (false≢true e) }

  pub tested_unfit : c.len ≤ length ns → (b : Bool) → b ≡ fits ns c → b ≡ false → Tested ns c false
  unfolding cursor_ok
  tested_unfit h b f n = record { is = rw (le-leb c.len (length ns) h, sym f ∙ n); sixteen = λ e. absurd (false≢true e) }

  pub tested_clean : c.len ≤ length ns → (b : Bool) → b ≡ fits ns c → b ≡ true → (r : Bool) → Cleaned c r → Tested ns c r
  unfolding cursor_ok
  tested_clean h b f n r z = record { is = z.is ∙ sym (rw (le-leb c.len (length ns) h, sym f ∙ n)); sixteen = λ e. z.sixteen }
