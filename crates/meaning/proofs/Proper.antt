-- Proper: the general rules have bounds that fit, literals in order, and something that breaks them; so has what is left of them.
use Prim.Native.Nat.{ℕ, zero, suc, ◌+◌, ◌*◌, ◌-◌, ◌≤◌, ◌<◌}
use native.Mathlib.Omega.{arith}
use mathlib.Core.Path.{◌≡◌}
use mathlib.Core.Logic.{inl, inr}
use mathlib.Core.Bool.{Bool, true, false}
use mathlib.Core.List.{List, [], ◌∷◌, ◌++◌, append_assoc}
use lib.Dec.{T, ltb}
use lib.ListN.{length, set}
use lib.Seq.{get_or-set_same, get_or-set_other}
use borrow.Author.Tests.{lt-ltb, le-ltb}
use Rattle.meaning.specs.Lists.{opt, each, All}
use Rattle.meaning.specs.Rows.{Row, Sizes, at, row, within, sound}
use Rattle.meaning.specs.Rules.{Literal, at_most, at_least, Rule, holds, met, top_of, Fits, AllFit, key, Ordered, Part, done, skip, hold}
use Rattle.meaning.specs.General.{differs, earlier, left_at, right_at, mid_at, fork, middle, row_rules, general}
use Rattle.meaning.proofs.All.{All-append, All-each}
use Rattle.meaning.proofs.Tests.{lt_or_le, tests}
use Rattle.meaning.proofs.MetLaws.{met_nil, met_one, met_two}
use Rattle.meaning.proofs.Asked.{Agree, rule_not}
use Rattle.meaning.proofs.Members.{within_length, within_at, sound_row, sound_length, sound_next}
use Rattle.meaning.proofs.Parting.{less_inside, before_less}
use Rattle.meaning.proofs.Reduced.{part_met}

pub record Proper (ns : Sizes) (r : Rule) : Type 0 where
  pub fit : AllFit ns r
  pub ordered : Ordered 0 r
  pub breaker : Row
  pub broken : ¬ T (met r breaker)

-- ---- what is left of a proper rule

ordered_weaken : (lo hi : ℕ) (r : Rule) → lo ≤ hi → Ordered hi r → Ordered lo r
ordered_weaken lo hi [] h o = tt
ordered_weaken lo hi (c ∷ r) h o = (omega (arith, o.0), o.1)

part_fit : (ns : Sizes) (r s : Rule) → Part r s → AllFit ns s → AllFit ns r
part_fit ns r s done f = tt
part_fit ns r s (skip {s = s'} p) f = part_fit ns r s' p f.1
part_fit ns r s (hold {r = r'} {s = s'} p) f = (f.0, part_fit ns r' s' p f.1)

part_ordered : (lo : ℕ) (r s : Rule) → Part r s → Ordered lo s → Ordered lo r
part_ordered lo r s done o = tt
part_ordered lo r s (skip {l = c} {s = s'} p) o = ordered_weaken lo (key c + 1) r (omega (arith, o.0)) (part_ordered (key c + 1) r s' p o.1)
part_ordered lo r s (hold {l = c} {r = r'} {s = s'} p) o = (o.0, part_ordered (key c + 1) r' s' p o.1)

pub part_proper : (ns : Sizes) (r s : Rule) → Part r s → Proper ns s → Proper ns r
part_proper ns r s p c = record {
  fit = part_fit ns r s p c.fit;
  ordered = part_ordered 0 r s p c.ordered;
  breaker = c.breaker;
  broken = λ t. c.broken (part_met r s c.breaker p t);
}

-- ---- a rule that begins with the earlier settings

fits_most : (ns : Sizes) (i d : ℕ) → i < length ns → d + 1 < at ns i → Fits ns (at_most i d)
unfolding top_of
fits_most ns i d h k = record { known = h; low = omega arith; high = omega arith }

fits_least : (ns : Sizes) (i d : ℕ) → i < length ns → 0 < d → d < at ns i → Fits ns (at_least i d)
unfolding top_of
fits_least ns i d h l k = record { known = h; low = omega arith; high = k }

opt_fit : (ns : Sizes) (a b : ℕ) (c : Literal) (r : Rule) → (a < b → Fits ns c) → AllFit ns r → AllFit ns (opt (ltb a b) c ++ r)
opt_fit ns a b c r f g = elim (lt_or_le a b) [ inl h ↦ rw (lt-ltb a b h) (f h, g) | inr h ↦ rw (le-ltb a b h) g ]

opt_ordered : (lo : ℕ) (b : Bool) (c : Literal) (r : Rule) → lo ≤ key c → Ordered (key c + 1) r → Ordered lo (opt b c ++ r)
opt_ordered lo true c r h o = (h, o)
opt_ordered lo false c r h o = ordered_weaken lo (key c + 1) r (omega arith) o

differs_ordered : (i n v : ℕ) (r : Rule) → Ordered (2 * suc i) r → Ordered (2 * i) (differs i n v ++ r)
unfolding differs
differs_ordered i n v r o = rw append_assoc (opt_ordered (2 * i) (ltb 0 v) (at_most i (v - 1)) (opt (ltb (v + 1) n) (at_least i (v + 1)) ++ r) (omega arith)
    (opt_ordered (2 * i + 0 + 1) (ltb (v + 1) n) (at_least i (v + 1)) r (omega arith) (ordered_weaken (2 * i + 1 + 1) (2 * suc i) r (omega arith) o)))

earlier_ordered : (ns : Sizes) (m : Row) (i : ℕ) (r : Rule) → Ordered (2 * i) r → Ordered 0 (earlier ns m i ++ r)
unfolding earlier
earlier_ordered ns m zero r o = o
earlier_ordered ns m (suc i) r o = rw append_assoc
    (earlier_ordered ns m i (differs i (at ns i) (at m i) ++ r) (differs_ordered i (at ns i) (at m i) r o))

differs_fit : (ns : Sizes) (i v : ℕ) (r : Rule) → i < length ns → v < at ns i → AllFit ns r → AllFit ns (differs i (at ns i) v ++ r)
unfolding differs
differs_fit ns i v r h k f = rw append_assoc (opt_fit ns 0 v (at_most i (v - 1)) (opt (ltb (v + 1) (at ns i)) (at_least i (v + 1)) ++ r)
    (λ l. fits_most ns i (v - 1) h (omega arith))
    (opt_fit ns (v + 1) (at ns i) (at_least i (v + 1)) r (λ l. fits_least ns i (v + 1) h (omega arith) l) f))

module _ (ns : Sizes) (m : Row) (w : T (within ns m)) where
  earlier_fit : (i : ℕ) (r : Rule) → i ≤ length ns → AllFit ns r → AllFit ns (earlier ns m i ++ r)
  unfolding earlier
  earlier_fit zero r h f = f
  earlier_fit (suc i) r h f = rw append_assoc
      (earlier_fit i (differs i (at ns i) (at m i) ++ r) (omega arith) (differs_fit ns i (at m i) r h (within_at ns m w i h) f))

  -- v: a value at setting i at which the rest of the rule is not met
  starts_proper : (i v : ℕ) (r : Rule) → i < length ns → v < at ns i → AllFit ns r → Ordered (2 * i) r
      → ((y : Row) → at y i ≡ v → ¬ T (met r y)) → Proper ns (earlier ns m i ++ r)
  starts_proper i v r h k f o n = record {
    fit = earlier_fit i r (omega arith) f;
    ordered = earlier_ordered ns m i r o;
    breaker = set m i v;
    broken = (rule_not ns m (set m i v) i below r).1 (agree, n (set m i v) here);
  }
    where
      here : at (set m i v) i ≡ v
      here = get_or-set_same m i v 0 (omega (arith, within_length ns m w))

      agree : Agree i (set m i v) m
      agree j l = get_or-set_other m i j v 0 (omega arith)

      below : (j : ℕ) → j ≤ i → at (set m i v) j < at ns j
      below j l = elim (lt_or_le j i) [
        | inl z ↦ omega (arith, agree j z, within_at ns m w j (omega arith))
        | inr z ↦ let e : j ≡ i = omega arith in rw e (omega (arith, here))
      ]

  -- ---- the three kinds of rule

  opt_proper : (a b : ℕ) (r : Rule) → (a < b → Proper ns r) → All (Proper ns) (opt (ltb a b) r)
  opt_proper a b r f = elim (lt_or_le a b) [ inl h ↦ rw (lt-ltb a b h) (f h, tt) | inr h ↦ rw (le-ltb a b h) tt ]

  left_proper : (i : ℕ) → i < length ns → All (Proper ns) (left_at ns m i)
  unfolding left_at holds
  left_proper i h =
      let b : at m i < at ns i = within_at ns m w i h in
      opt_proper 0 (at m i) (earlier ns m i ++ (at_least i (at m i) ∷ [])) (λ k.
      starts_proper i (at m i - 1) (at_least i (at m i) ∷ []) h (omega arith) (fits_least ns i (at m i) h k b, tt) (omega arith, tt)
      (λ y e. simp (met_one, tests) (omega arith)))

  right_proper : (i : ℕ) → i < length ns → All (Proper ns) (right_at ns m i)
  unfolding right_at holds
  right_proper i h = opt_proper (at m i + 1) (at ns i) (earlier ns m i ++ (at_most i (at m i) ∷ [])) (λ k.
      starts_proper i (at m i + 1) (at_most i (at m i) ∷ []) h k (fits_most ns i (at m i) h k, tt) (omega arith, tt)
      (λ y e. simp (met_one, tests) (omega arith)))

  mid_proper : (m' : Row) (i : ℕ) → T (within ns m') → i < length ns → All (Proper ns) (mid_at ns m m' i)
  unfolding mid_at holds
  mid_proper m' i w' h =
      let b : at m' i < at ns i = within_at ns m' w' i h in
      opt_proper (at m i + 1) (at m' i) (earlier ns m i ++ (at_most i (at m i) ∷ at_least i (at m' i) ∷ [])) (λ k.
      starts_proper i (at m i + 1) (at_most i (at m i) ∷ at_least i (at m' i) ∷ []) h (omega arith)
      (fits_most ns i (at m i) h (omega arith), (fits_least ns i (at m' i) h (omega arith) b, tt)) (omega arith, (omega arith, tt))
      (λ y e. simp (met_two, tests) (λ f. omega (arith, f (omega arith)))))

-- ---- all general rules

module _ (ns : Sizes) (rows : List Row) (sane : T (sound ns rows)) where
  middle_proper : (k : ℕ) → k < length rows → All (Proper ns) (middle ns rows k)
  unfolding middle
  middle_proper k h = elim (lt_or_le (suc k) (length rows)) [
    | inl l ↦ rw (lt-ltb (suc k) (length rows) l) (mid_proper ns (row rows k) (sound_row ns rows sane k h) (row rows (suc k)) _ (sound_row ns rows sane (suc k) l)
        (omega (arith, less_inside _ _ (before_less (row rows k) (row rows (suc k)) (omega (arith, sound_length ns rows sane k h, sound_length ns rows sane (suc k) l)) (sound_next ns rows sane k l)), sound_length ns rows sane (suc k) l)))
    | inr l ↦ rw (le-ltb (suc k) (length rows) l) tt
  ]

  abbrev lefts : ℕ → List Rule
  lefts k = each (left_at ns (row rows k)) (fork rows k) (length ns - fork rows k)

  abbrev rights : ℕ → List Rule
  rights k = each (right_at ns (row rows k)) (fork rows (suc k)) (length ns - fork rows (suc k))

  row_proper : (k : ℕ) → k < length rows → All (Proper ns) (row_rules ns rows k)
  unfolding row_rules
  row_proper k h =
      let w : T (within ns (row rows k)) = sound_row ns rows sane k h in
      let a = All-each (Proper ns) (left_at ns (row rows k)) (fork rows k) (length ns - fork rows k) (λ i a b. left_proper ns (row rows k) w i (omega arith)) in
      let b = All-each (Proper ns) (right_at ns (row rows k)) (fork rows (suc k)) (length ns - fork rows (suc k)) (λ i a b. right_proper ns (row rows k) w i (omega arith)) in
      All-append (Proper ns) (lefts k ++ rights k) (middle ns rows k) (All-append (Proper ns) (lefts k) (rights k) a b) (middle_proper k h)

pub general_proper : (ns : Sizes) (rows : List Row) → T (sound ns rows) → All (Proper ns) (general ns rows)
unfolding general
general_proper ns [] t = (record { fit = tt; ordered = tt; breaker = []; broken = met_nil [] }, tt)
general_proper ns (m ∷ rows) t = All-each (Proper ns) (row_rules ns (m ∷ rows)) 0 (length (m ∷ rows)) (λ k a b. row_proper ns (m ∷ rows) t k (omega arith))
