-- Sifting: the entries that a prefix leaves open go to the front; and the fronts of the groups made shorter below a prefix.
use Prim.Native.Nat.{ℕ, ◌+◌, ◌≤◌, ◌<◌}
use native.Mathlib.Omega.{arith}
use mathlib.Core.Path.{◌≡◌, refl, sym, ◌∙◌}
use mathlib.Core.Bool.{Bool, false, true≢false}
use mathlib.Core.Logic.{inl, inr}
use mathlib.Core.List.{List, [], ◌∷◌, ◌++◌, append_assoc}
use lib.ListN.{length, length-set, get_or, set}
use lib.Seq.{get_or-set_same, get_or-set_other}
use Rattle.meaning.specs.Rows.{Row}
use Rattle.meaning.specs.Bytes.{rule_at}
use Rattle.meaning.specs.Listing.{dead}
use Rattle.meaning.proofs.Tests.{lt_or_le}
use Rattle.listing.specs.declared.scan.Passed.{Passed}
use Rattle.listing.specs.declared.scan.Passed.TheVariants.{Holds, Left}
use Rattle.listing.specs.Inner.{early_of, settle_list, settle_count, Parted, Laid, Kept, Hit, Ruled, is_open, open_of, Siftable, Narrowable, Narrowed}
use Rattle.listing.proofs.laws.Literals.{early_holds}
use Rattle.listing.proofs.laws.Parting.{eq_or, Parting, parting_on}
use Rattle.listing.proofs.laws.Ruled.{kept_on, kept_wider, kept_stirred, ruled_kept}
use Rattle.listing.proofs.laws.Looking.{never_dead}

-- what the prefix does not leave open is met below it
not_open : (b : List ℕ) (x : Row) (p : ℕ) → open_of b x p ≡ false → (y : Row) → dead (rule_at b p ∷ []) (x ++ y) ≡ false
unfolding open_of is_open
not_open b x p h y = go (early_of b x (p + 3) (get_or b (p + 2) 0)) refl h
  where
    go : (w : Passed) → early_of b x (p + 3) (get_or b (p + 2) 0) ≡ w → is_open w ≡ false → dead (rule_at b p ∷ []) (x ++ y) ≡ false
    go (Holds q) e u = never_dead b p (x ++ y) (early_holds b x (p + 3) (get_or b (p + 2) 0) q e y)
    go (Left q m) e u = absurd (true≢false u)

-- ---- the loop that sifts

pub record Sifting (w : ℕ → Bool) (p : List ℕ) (lo hi n : ℕ) (q : List ℕ) (m i k : ℕ) : Type 0 where
  pub parting : Parting w p lo hi q i k
  pub long : m ≡ n

module _ (b : List ℕ) (w : ℕ → Bool) (p : List ℕ) (lo hi n : ℕ) (a : Siftable b p lo hi n) where
  module _ (q : List ℕ) (m i k : ℕ) (y : Sifting w p lo hi n q m i k) where
    pub sifting_on : i < hi → (e : ℕ) → e ≡ get_or q i 0 → (u : Bool) → u ≡ w e
        → (r : List ℕ) (o : ℕ) → (r ≡ settle_list u q i k) × (o ≡ settle_count u k) → (m' : ℕ) → m' ≡ m → Sifting w p lo hi n r m' (i + 1) o
    sifting_on h e f u g r o s m' l = record { parting = parting_on w p lo hi q i k y.parting a.inside h e f u g r o s; long = l ∙ y.long }

-- ---- the fronts below a prefix

pub record Narrowing (b : List ℕ) (x : Row) (p s e q f : List ℕ) (n m g : ℕ) : Type 0 where
  pub long : m ≡ n
  pub first : Laid s e (length p)
  pub able : Narrowable b q s f m
  pub done : Narrowed b x p s e q f

module _ (b : List ℕ) (x : Row) (p s e q f : List ℕ) (n m g : ℕ) (y : Narrowing b x p s e q f n m g) (h : g < 16)
    (lo hi : ℕ) (from : lo ≡ get_or s g 0) (end : hi ≡ get_or f g 0) where
  pub narrowing_next : Siftable b q lo hi m
  narrowing_next = record {
    low = omega (arith, y.able.laid.low g h);
    inside = omega (arith, y.able.laid.front g h, y.able.laid.inside g h);
    hints = y.able.hints;
    ends = λ i l a. y.able.ends g i h (omega arith) (omega arith);
  }

  module _ (r : List ℕ) (k : ℕ) (parted : Parted (open_of b x) q lo hi r k) (m' : ℕ) (same : m' ≡ m) where
    t : Parted (open_of b x) q (get_or s g 0) (get_or f g 0) r k
    t = rw (from, end) at parted

    here : get_or (set f g k) g 0 ≡ k
    here = get_or-set_same f g k 0 (omega (arith, y.able.laid.ends))

    other : (j : ℕ) → (j ≡ g → ⊥) → get_or (set f g k) j 0 ≡ get_or f j 0
    other j n = get_or-set_other f g j k 0 n

    under : (j : ℕ) → j < 16 → get_or (set f g k) j 0 ≤ get_or f j 0
    under j l = elim (eq_or j g) [
      | inl z ↦ rw (z, here) t.upto
      | inr z ↦ rw (other j z) (omega arith)
    ]

    moved : Kept s f q r
    moved = kept_stirred s f q r (length q) g h y.able.laid t.stirred

    laid_on : Laid s (set f g k) (length r)
    laid_on = record {
      starts = y.able.laid.starts;
      ends = length-set f g k ∙ y.able.laid.ends;
      low = λ j l. low j l;
      front = λ j l. omega (arith, under j l, y.able.laid.front j l);
      apart = y.able.laid.apart;
      inside = λ j l. omega (arith, y.able.laid.inside j l, t.stirred.long);
    }
      where
        low : (j : ℕ) → j < 16 → get_or s j 0 ≤ get_or (set f g k) j 0
        low j l = elim (eq_or j g) [
          | inl z ↦ rw (z, here) t.from
          | inr z ↦ rw (other j z) (y.able.laid.low j l)
        ]

    -- behind the front of group g nothing is left that decides below x
    cut : (d : Row → Bool) (at n : ℕ) → Ruled b d x r s f at n → Ruled b d x r s (set f g k) at n
    cut d at n u = record {
      few = u.few;
      stand = u.stand;
      tells = u.tells;
      entries = λ j i l a c. u.entries j i l a (omega (arith, under j l));
      covers = λ z v l a c. elim (u.covers z v l a c) [
        | inl w ↦ inl (record { at = w.at; above = w.above; under = stays z v w; kills = w.kills })
        | inr w ↦ inr w
      ];
    }
      where
        stays : (z : Row) (v : ℕ) (w : Hit b r s f (length (x ++ z)) ((x ++ z) ++ (v ∷ []))) → w.at < get_or (set f g k) (length (x ++ z)) 0
        stays z v w = elim (eq_or (length (x ++ z)) g) [
          | inl q ↦ rw (q, here) (elim (lt_or_le w.at k) [
            | inl i ↦ i
            | inr i ↦
                let w-under : w.at < get_or f g 0 = rw q at w.under in
                absurd (true≢false (sym w.kills ∙ rw (append_assoc x z (v ∷ [])) (not_open b x (get_or r w.at 0) (t.left w.at i w-under) (z ++ (v ∷ [])))))
          ])
          | inr q ↦ rw (other (length (x ++ z)) q) w.under
        ]

    pub narrowing_on : Narrowing b x p s e r (set f g k) n m' (g + 1)
    narrowing_on = record {
      long = same ∙ y.long;
      first = y.first;
      able = record {
        laid = laid_on;
        hints = omega (arith, y.able.hints, t.stirred.long);
        ends = λ j i l a c. let z = moved.back j i l a (omega (arith, under j l)) in rw (sym z.is) (y.able.ends j z.at l z.above z.under);
      };
      done = record {
        kept = kept_on s e p q r y.done.kept (kept_wider s f e q r (length p) y.first y.done.within moved);
        within = record { under = λ j l. omega (arith, under j l, y.done.within.under j l) };
        laid = laid_on;
        ruled = λ d at n u. cut d at n (ruled_kept b d x s f at n q r moved (y.done.ruled d at n u));
      };
    }
