-- Holding: what a walk keeps true of the entries while it goes down and comes back.
use Prim.Native.Nat.{ℕ, ◌≤◌, ◌<◌}
use native.Mathlib.Omega.{arith}
use mathlib.Core.Path.{◌≡◌, refl, sym, ◌∙◌}
use mathlib.Core.Bool.{Bool}
use mathlib.Core.List.{List, [], ◌∷◌, ◌++◌}
use lib.ListN.{length}
use Rattle.meaning.specs.Rows.{Row}
use Rattle.listing.specs.declared.scan.Scanned.{Scanned}
use Rattle.listing.specs.Inner.{Laid, Kept, Looks, Narrowable, Narrowed, LooksIf}
use Rattle.listing.proofs.laws.Ruled.{kept_same, kept_on, kept_wider, ruled_kept}

laid_same : (s e : List ℕ) (n m : ℕ) → m ≡ n → Laid s e n → Laid s e m
laid_same s e n m h l = record { starts = l.starts; ends = l.ends; low = l.low; front = l.front; apart = l.apart; inside = λ g k. omega (arith, l.inside g k) }

pub able_kept : (b p s e q : List ℕ) (n m : ℕ) → Narrowable b p s e n → Kept s e p q → m ≡ n → Narrowable b q s e m
able_kept b p s e q n m a k h = record {
  laid = laid_same s e (length p) (length q) k.long a.laid;
  hints = omega (arith, a.hints, k.long);
  ends = λ g i l o t. let z = k.back g i l o t in rw (sym z.is) (a.ends g z.at l z.above z.under);
}

pub able_narrowed : (b : List ℕ) (x : Row) (p s e q f : List ℕ) (n m : ℕ) → Narrowable b p s e n → Narrowed b x p s e q f → m ≡ n → Narrowable b q s f m
able_narrowed b x p s e q f n m a w h = record {
  laid = w.laid;
  hints = omega (arith, a.hints, w.kept.long);
  ends = λ g i l o t. let z = w.kept.back g i l o (omega (arith, w.within.under g l)) in rw (sym z.is) (a.ends g z.at l z.above z.under);
}

-- what is true of the entries when a loop's turn begins
pub record Held (b s e p₀ : List ℕ) (n₀ : ℕ) (p : List ℕ) (n : ℕ) : Type 0 where
  pub kept : Kept s e p₀ p
  pub able : Narrowable b p s e n
  pub long : n ≡ n₀

pub held_start : (b s e p : List ℕ) (n : ℕ) → Narrowable b p s e n → Held b s e p n p n
held_start b s e p n a = record { kept = kept_same s e p; able = a; long = refl }

-- fronts made shorter, and a walk below
pub kept_below : (b : List ℕ) (x : Row) (s e p q f r : List ℕ) (n : ℕ) → Narrowable b p s e n → Narrowed b x p s e q f → Kept s f q r → Kept s e p r
kept_below b x s e p q f r n a w k = kept_on s e p q r w.kept (kept_wider s f e q r (length p) a.laid w.within k)

pub held_on : (b s e p₀ : List ℕ) (n₀ : ℕ) (p : List ℕ) (n : ℕ) → Held b s e p₀ n₀ p n → (q : List ℕ) → Kept s e p q → (m : ℕ) → m ≡ n → Held b s e p₀ n₀ q m
held_on b s e p₀ n₀ p n y q k m h = record { kept = kept_on s e p₀ p q y.kept k; able = able_kept b p s e q n m y.able k h; long = h ∙ y.long }

-- ---- a look that is made only where a level is gone into

-- of fewer values, and with the entries stirred
pub looks_kept : (b : List ℕ) (d : Row → Bool) (x : Row) (p s e q : List ℕ) (from to : ℕ) (r : Scanned) → Kept s e p q → from ≤ to → Looks b d x p s e from r → Looks b d x q s e to r
looks_kept b d x p s e q from to r k h a = record {
  values = a.values;
  stand = a.stand;
  next = λ v i l. ruled_kept b d (x ++ (v ∷ [])) s e r.at r.rules p q k (a.next v (omega arith) l);
}

pub looks_later : {b : List ℕ} {d : Row → Bool} {x : Row} {p s e q : List ℕ} {to levels : ℕ} {r : Scanned} → Kept s e p q → LooksIf b d x p s e 0 levels r → LooksIf b d x q s e to levels r
looks_later {b} {d} {x} {p} {s} {e} {q} {to} {levels} {r} k a = record { looks = λ z. looks_kept b d x p s e q 0 to r k (omega arith) (a.looks z) }

-- where a level is gone into, from any value on
pub looks_at : {b : List ℕ} {d : Row → Bool} {x : Row} {p s e : List ℕ} {to levels : ℕ} {r : Scanned} → 0 < levels → LooksIf b d x p s e 0 levels r → Looks b d x p s e to r
looks_at {b} {d} {x} {p} {s} {e} {to} {levels} {r} h a = looks_kept b d x p s e p 0 to r (kept_same s e p) (omega arith) (a.looks (λ z. omega arith))
