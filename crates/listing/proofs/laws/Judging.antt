-- Judging: what one rule asks of the value after a prefix that it does not make dead: which values it forbids, and whether it can
-- still make a prefix below dead.
use Prim.Native.Nat.{ℕ, zero, suc, ◌+◌, ◌*◌, ◌≤◌, ◌<◌}
use native.Mathlib.Omega.{arith}
use mathlib.Core.Path.{◌≡◌, refl, sym, ap, ◌∙◌}
use mathlib.Core.Bool.{Bool, true, false, not, ◌&&◌, or-false, and-false, not-not, true≢false}
use mathlib.Core.List.{List, [], ◌∷◌, ◌++◌}
use lib.Dec.{T}
use lib.ListN.{length, length-append, get_or}
use lib.Seq.{append_snoc}
use borrow.Author.Tests.{le-leb, le-ltb, not-false}
use Rattle.std.specs.Prelude.{Option, None}
use Rattle.meaning.specs.Rows.{Row}
use Rattle.meaning.specs.Rules.{Rule, met}
use Rattle.meaning.specs.Bytes.{literals_at, rule_at}
use Rattle.meaning.specs.Listing.{decided, dead}
use Rattle.meaning.proofs.Tests.{is_yes, is_no}
use Rattle.meaning.proofs.Dead.{met_prefix}
use Rattle.listing.specs.declared.scan.Passed.{Passed}
use Rattle.listing.specs.declared.scan.Passed.TheVariants.{Holds, Left}
use Rattle.listing.specs.declared.scan.Judged.{Judged}
use Rattle.listing.specs.declared.cursor.Cursor.{Cursor}
use Rattle.listing.specs.Cursors.{prefix_of}
use Rattle.listing.specs.Inner.{Plain, Stands, early_of, forbids, between, interval_of, Judges}
use Rattle.listing.proofs.laws.Prefixes.{plain_length}
use Rattle.listing.proofs.laws.Literals.{last_decides, last_open, early_holds, early_inside, Rest, early_rest}
use Rattle.listing.proofs.laws.Interval.{met_interval, interval_small}

-- ---- the ways out of `judge`

pub dead_one : (r : Rule) (x : Row) → dead (r ∷ []) x ≡ decided (length x) r && not (met r x)
unfolding dead
dead_one r x = or-false (decided (length x) r && not (met r x))

module _ (b : List ℕ) (at : ℕ) (c : Cursor) (plain : Plain c) (s : Stands b at) (live : dead (rule_at b at ∷ []) (prefix_of c) ≡ false) where
  abbrev x : Row
  x = prefix_of c

  abbrev r : Rule
  r = rule_at b at

  longer : (v : ℕ) → length (x ++ (v ∷ [])) ≡ suc (length x)
  longer v = omega (arith, length-append x (v ∷ []))

  -- met by all that begin with the prefix
  judges_met : ((y : Row) → met r (x ++ y) ≡ true) → (hint : Option ℕ) → Judges b at x (record { lasts = false; low = 0; high = 0; hint = hint })
  judges_met h hint = record { small = omega arith; values = λ v k. never (v ∷ []) ∙ sym (rw (le-leb 0 v (omega arith), le-ltb v 0 (omega arith))); closed = λ e v y k. never (v ∷ y) }
    where
      never : (y : Row) → dead (r ∷ []) (x ++ y) ≡ false
      never y = dead_one r (x ++ y) ∙ rw (h y) (and-false (decided (length (x ++ y)) r))

  module _ (count : ℕ) (e : count ≡ get_or b (at + 2) 0) where
    pub judges_empty : count ≡ 0 → Judges b at x (forbids 0 0)
    unfolding literals_at dead decided met
    judges_empty z =
        let n : r ≡ [] = nothing (get_or b (at + 2) 0) (sym e ∙ z) in
        absurd (true≢false (sym (always n) ∙ live))
      where
        nothing : (k : ℕ) → k ≡ 0 → literals_at b (at + 3) k ≡ []
        nothing zero z = refl
        nothing (suc k) z = absurd (omega arith)

        always : r ≡ [] → dead (r ∷ []) x ≡ true
        always n = ap (λ (t : Rule). dead (t ∷ []) x) n

    module _ (some : count ≡ 0 → ⊥) (last : ℕ) (f : last ≡ get_or b (at + 3 * count) 0) where
      last_is : (m : ℕ) → get_or b (at + 2) 0 ≡ suc m → get_or b (at + 3 + 3 * m) 0 ≡ last
      last_is m z = let q : at + 3 * count ≡ at + 3 + 3 * m = omega arith in rw (f, q)

      pub judges_past : last < c.len → Judges b at x (forbids 0 0)
      judges_past h = judges_met (λ y. met_prefix r x y (ends (get_or b (at + 2) 0) refl) ∙ met_here) None
        where
          ends : (k : ℕ) → get_or b (at + 2) 0 ≡ k → T (decided (length x) (literals_at b (at + 3) k))
          ends zero z = absurd (some (omega arith))
          ends (suc m) z = last_decides b 0 (at + 3) m (length x) (rw z at s.ordered) (omega (arith, last_is m z, plain_length c plain))

          met_here : met r x ≡ true
          met_here = go (met r x) refl
            where
              go : (t : Bool) → met r x ≡ t → t ≡ true
              go true q = refl
              go false q = absurd (true≢false (sym (dead_one r x ∙ rw (q, is_yes (decided (length x) r) (ends (get_or b (at + 2) 0) refl))) ∙ live))

      module _ (w : Passed) (g : w ≡ early_of b x (at + 3) count) where
        passed : w ≡ early_of b x (at + 3) (get_or b (at + 2) 0)
        passed = g ∙ ap (early_of b x (at + 3)) e

        pub judges_holds : (q : ℕ) → w ≡ Holds q → (hint : Option ℕ) → Judges b at x (record { lasts = false; low = 0; high = 0; hint = hint })
        judges_holds q t hint = judges_met (early_holds b x (at + 3) (get_or b (at + 2) 0) q (sym passed ∙ t)) hint

        module _ (q m : ℕ) (t : w ≡ Left q m) where
          pub judged_inside : q + 3 * m ≤ length b
          judged_inside = omega (arith, early_inside b x (at + 3) (get_or b (at + 2) 0) q m (sym passed ∙ t), s.inside)

          pub judges_lasts : c.len < last → Judges b at x (record { lasts = true; low = 0; high = 0; hint = None })
          judges_lasts h = record {
            small = omega arith;
            values = λ v k. dead_one r (x ++ (v ∷ [])) ∙ rw (longer v, is_no (decided (suc (length x)) r) (goes_on (get_or b (at + 2) 0) refl), le-leb 0 v (omega arith), le-ltb v 0 (omega arith));
            closed = λ z. absurd (true≢false z);
          }
            where
              goes_on : (k : ℕ) → get_or b (at + 2) 0 ≡ k → ¬ T (decided (suc (length x)) (literals_at b (at + 3) k))
              goes_on zero z = absurd (some (omega arith))
              goes_on (suc i) z = last_open b (at + 3) i (suc (length x)) (omega (arith, last_is i z, plain_length c plain))

          pub judges_interval : last ≤ c.len → (j : Judged) → j ≡ interval_of b q m → Judges b at x j
          judges_interval h j i = rw i (record { small = interval_small b q m rest.small; values = λ v k. here v k; closed = λ z v y k. shut v y k })
            where
              ends : (k : ℕ) → get_or b (at + 2) 0 ≡ k → T (decided (suc (length x)) (literals_at b (at + 3) k))
              ends zero z = absurd (some (omega arith))
              ends (suc i) z = last_decides b 0 (at + 3) i (suc (length x)) (rw z at s.ordered) (omega (arith, last_is i z, plain_length c plain))

              rest : Rest b x (at + 3) (get_or b (at + 2) 0) q m
              rest = early_rest b x 0 (at + 3) (get_or b (at + 2) 0) q m (sym passed ∙ t) s.ordered s.small (ends (get_or b (at + 2) 0) refl)

              here : (v : ℕ) → v < 64 → dead (r ∷ []) (x ++ (v ∷ [])) ≡ between (interval_of b q m).low (interval_of b q m).high v
              here v k =
                  dead_one r (x ++ (v ∷ []))
                  ∙ rw (
                    longer v,
                    is_yes (decided (suc (length x)) r) (ends (get_or b (at + 2) 0) refl),
                    rest.same (v ∷ []),
                    met_interval b x v k rest.low q m rest.ordered rest.decides rest.later,
                  )
                  (not-not (between (interval_of b q m).low (interval_of b q m).high v))

              shut : (v : ℕ) (y : Row) → dead (r ∷ []) (x ++ (v ∷ [])) ≡ false → dead (r ∷ []) (x ++ (v ∷ y)) ≡ false
              shut v y k =
                  let d : T (decided (length (x ++ (v ∷ []))) r) = rw (longer v) (ends (get_or b (at + 2) 0) refl) in
                  let n : not (met r (x ++ (v ∷ []))) ≡ false = sym (rw (is_yes (decided (length (x ++ (v ∷ []))) r) d) at (dead_one r (x ++ (v ∷ [])))) ∙ k in
                  let p : met r (x ++ (v ∷ y)) ≡ true = ap (met r) (sym (append_snoc x v y)) ∙ met_prefix r (x ++ (v ∷ [])) y d ∙ not-false (met r (x ++ (v ∷ []))) n in
                  dead_one r (x ++ (v ∷ y)) ∙ rw p (and-false (decided (length (x ++ (v ∷ y))) r))
