-- Early: the literals of a rule that are on the settings of a prefix, in one pass that stops at the first that holds.
use Prim.Native.Nat.{ℕ, suc, ◌+◌, ◌*◌, ◌-◌, ◌≤◌, ◌<◌}
use native.Mathlib.Omega.{arith}
use mathlib.Core.Path.{◌≡◌, sym, ap, ◌∙◌}
use mathlib.Core.Bool.{Bool, true, false, cond}
use mathlib.Core.List.{List}
use lib.Dec.{leb}
use lib.ListN.{get_or}
use lib.Seq.{get_or-take}
use borrow.Author.Tests.{le-leb, lt-leb}
use Rattle.literals.specs.Inner.{holds_by}
use Rattle.meaning.specs.Rows.{Row, at}
use Rattle.meaning.specs.Rules.{holds}
use Rattle.meaning.specs.Bytes.{literal_at}
use Rattle.literals.proofs.laws.Holding.{holds_by_literal}
use Rattle.listing.specs.declared.cursor.Cursor.{Cursor}
use Rattle.listing.specs.declared.scan.Passed.TheVariants.{Holds, Left}
use Rattle.listing.specs.Cursors.{prefix_of}
use Rattle.listing.specs.Inner.{Plain, early_of}
use Rattle.listing.proofs.laws.Prefixes.{plain_length}

-- the loop: what is left behind the first k literals gives the whole
abbrev pub Passing : List ℕ → Row → ℕ → ℕ → ℕ → Type 0
Passing b x p n k = early_of b x (p + 3 * k) (n - k) ≡ early_of b x p n

module _ (b : List ℕ) (c : Cursor) (plain : Plain c) (p n k : ℕ) (y : Passing b (prefix_of c) p n k) where
  pub passing_end : n ≡ k → Left (p + 3 * n) 0 ≡ early_of b (prefix_of c) p n
  unfolding early_of
  passing_end h = let e : n - k ≡ 0 = omega arith in ap (λ (m : ℕ). Left (p + 3 * m) 0) h ∙ (rw e at y)

  module _ (some : k < n) (i : ℕ) (e : i ≡ get_or b (p + 3 * k) 0) where
    turn : early_of b (prefix_of c) (p + 3 * k) (n - k)
        ≡ cond (leb c.len i) (Left (p + 3 * k) (n - k)) (cond (holds (literal_at b (p + 3 * k)) (prefix_of c)) (Holds (p + 3 * k)) (early_of b (prefix_of c) (p + 3 * (k + 1)) (n - (k + 1))))
    unfolding early_of
    turn =
        let s : n - k ≡ suc (n - (k + 1)) = omega arith in
        let t : p + 3 * (k + 1) ≡ p + 3 * k + 3 = omega arith in
        ap (early_of b (prefix_of c) (p + 3 * k)) s ∙ rw (plain_length c plain, ← e, ← s, t)

    pub passing_later : c.len ≤ i → Left (p + 3 * k) (n - k) ≡ early_of b (prefix_of c) p n
    passing_later h = sym (rw (le-leb c.len i h) at turn) ∙ y

    module _ (h : i < c.len) (r : Bool) (f : r ≡ holds_by (get_or b (p + 3 * k + 1) 0) (get_or b (p + 3 * k + 2) 0) (get_or c.values i 0)) where
      told : r ≡ holds (literal_at b (p + 3 * k)) (prefix_of c)
      told =
          f ∙ ap (holds_by (get_or b (p + 3 * k + 1) 0) (get_or b (p + 3 * k + 2) 0)) (sym (get_or-take c.len c.values i 0 h) ∙ ap (at (prefix_of c)) e)
          ∙ holds_by_literal (get_or b (p + 3 * k + 1) 0) (get_or b (p + 3 * k) 0) (get_or b (p + 3 * k + 2) 0) (prefix_of c)

      pub passing_holds : r ≡ true → Holds (p + 3 * k) ≡ early_of b (prefix_of c) p n
      passing_holds t = sym (rw (lt-leb c.len i h, sym told ∙ t) at turn) ∙ y

      pub passing_on : r ≡ false → Passing b (prefix_of c) p n (k + 1)
      passing_on t = sym (rw (lt-leb c.len i h, sym told ∙ t) at turn) ∙ y
