-- Windows: of the rules of a book, some in a row that decide below a prefix; and the scan that narrows them to the next level.
use Prim.Native.Nat.{ℕ, ◌+◌, ◌-◌, ◌≤◌, ◌<◌}
use native.Mathlib.Nat.{sub-zero}
use native.Mathlib.Omega.{arith}
use mathlib.Core.Path.{◌≡◌, refl, sym, ap, ◌∙◌}
use mathlib.Core.Bool.{Bool, true, false, ◌||◌, or-false, true≢false}
use mathlib.Core.List.{List, [], ◌∷◌, ◌++◌, append-nil}
use lib.Seq.{append_snoc}
use Rattle.std.specs.Prelude.{Option, Some, None}
use Rattle.meaning.specs.Rows.{Row}
use Rattle.meaning.specs.Rules.{Rule}
use Rattle.meaning.specs.Bytes.{rule_at, end_at, rules_at, place_at}
use Rattle.meaning.specs.Listing.{dead}
use Rattle.meaning.proofs.Dead.{dead_append}
use Rattle.listing.specs.declared.scan.Judged.{Judged}
use Rattle.listing.specs.declared.scan.Span.{Span}
use Rattle.listing.specs.Inner.{AllStand, Stands, Judges, forbidden, Forbids, Window, Scans, widen_of}
use Rattle.listing.proofs.laws.Standing.{place_add, place_next, rules_add, rules_split, stand_at, stand_part}

-- ---- the ways out of `widen`

module _ (w : Option Span) (lasts : Bool) (at i : ℕ) where
  pub widen_not : lasts ≡ false → w ≡ widen_of w lasts at i
  unfolding widen_of
  widen_not h = rw h

  pub widen_first : lasts ≡ true → w ≡ None → ◌≡◌ {A = Option Span} (Some (record { at = at; first = i; end = i + 1 })) (widen_of w lasts at i)
  unfolding widen_of
  widen_first h e = rw (h, e)

  pub widen_more : lasts ≡ true → (s : Span) → w ≡ Some s → ◌≡◌ {A = Option Span} (Some (record { at = s.at; first = s.first; end = i + 1 })) (widen_of w lasts at i)
  unfolding widen_of
  widen_more h s e = rw (h, e)

-- ---- the loop of the scan: i rules from place `from` on are judged

module _ (b : List ℕ) (from : ℕ) (x : Row) (set : ℕ) where
  -- with the value v the first i rules leave x alive
  abbrev Lives : ℕ → ℕ → Type 0
  Lives i v = dead (rules_at b from i) (x ++ (v ∷ [])) ≡ false

  -- a span; none at all is the one before the first rule
  abbrev span_of : Option Span → Span
  span_of None = record { at = from; first = 0; end = 0 }
  span_of (Some w) = w

  -- the rules before the span and those behind it make no prefix dead below a live one
  pub record Spans (w : Span) (i : ℕ) : Type 0 where
    pub ordered : (w.first ≤ w.end) × (w.end ≤ i)
    pub place : w.at ≡ place_at b from w.first
    pub lead : (v : ℕ) (y : Row) → Lives i v → dead (rules_at b from w.first) (x ++ (v ∷ y)) ≡ false
    pub tail : (v : ℕ) (y : Row) → Lives i v → dead (rules_at b (place_at b from w.end) (i - w.end)) (x ++ (v ∷ y)) ≡ false

  pub record Scanning (rules allowed : ℕ) (w : Option Span) (at i : ℕ) : Type 0 where
    pub inside : i ≤ rules
    pub place : at ≡ place_at b from i
    pub values : (v : ℕ) → v < 64 → forbidden allowed v ≡ dead (rules_at b from i) (x ++ (v ∷ [])) || forbidden set v
    pub spans : Spans (span_of w) i

  pub scanning_start : (rules : ℕ) → Scanning rules set None from 0
  unfolding rules_at place_at dead
  scanning_start rules = record {
    inside = omega arith;
    place = refl;
    values = λ v h. refl;
    spans = record { ordered = (omega arith, omega arith); place = refl; lead = λ v y l. refl; tail = λ v y l. refl };
  }

  -- one rule more
  dead_next : (p i : ℕ) (z : Row) → dead (rules_at b p (i + 1)) z ≡ dead (rules_at b p i) z || dead (rule_at b (place_at b p i) ∷ []) z
  unfolding rules_at
  dead_next p i z = ap (λ (rs : List Rule). dead rs z) (rules_add b p i 1) ∙ dead_append (rules_at b p i) (rule_at b (place_at b p i) ∷ []) z

  or_none : (p q : Bool) → p || q ≡ false → (p ≡ false) × (q ≡ false)
  or_none true q h = absurd (true≢false h)
  or_none false q h = (refl, h)

  lives_back : (i v : ℕ) → Lives (i + 1) v → Lives i v
  lives_back i v l = (or_none (dead (rules_at b from i) (x ++ (v ∷ []))) _ (sym (dead_next from i (x ++ (v ∷ []))) ∙ l)).0

  lives_one : (i v : ℕ) → Lives (i + 1) v → dead (rule_at b (place_at b from i) ∷ []) (x ++ (v ∷ [])) ≡ false
  lives_one i v l = (or_none (dead (rules_at b from i) (x ++ (v ∷ []))) _ (sym (dead_next from i (x ++ (v ∷ []))) ∙ l)).1

  module _ (w : Span) (i : ℕ) (s : Spans w i) where
    -- a rule that does not last joins those behind the span
    spans_not : ((v : ℕ) (y : Row) → dead (rule_at b (place_at b from i) ∷ []) (x ++ (v ∷ [])) ≡ false → dead (rule_at b (place_at b from i) ∷ []) (x ++ (v ∷ y)) ≡ false)
        → Spans w (i + 1)
    spans_not c = record {
      ordered = (s.ordered.0, omega (arith, s.ordered.1));
      place = s.place;
      lead = λ v y l. s.lead v y (lives_back i v l);
      tail = λ v y l.
          let e : i + 1 - w.end ≡ i - w.end + 1 = omega (arith, s.ordered.1) in
          let f : place_at b (place_at b from w.end) (i - w.end) ≡ place_at b from i = sym (place_add b from w.end (i - w.end)) ∙ ap (place_at b from) (omega (arith, s.ordered.1)) in
          rw e (dead_next (place_at b from w.end) (i - w.end) (x ++ (v ∷ y)) ∙ rw (s.tail v y (lives_back i v l), f) (c v y (lives_one i v l)));
    }

    none_behind : (v : ℕ) (y : Row) → dead (rules_at b (place_at b from (i + 1)) (i + 1 - (i + 1))) (x ++ (v ∷ y)) ≡ false
    unfolding rules_at dead
    none_behind v y = let e : i + 1 - (i + 1) ≡ 0 = omega arith in rw e

    spans_first : (at : ℕ) → at ≡ place_at b from i → w.end ≡ 0 → Spans (record { at = at; first = i; end = i + 1 }) (i + 1)
    unfolding place_at
    spans_first at e z = record {
      ordered = (omega arith, omega arith);
      place = e;
      lead = λ v y l. rw (z, sub-zero i) at (s.tail v y (lives_back i v l));
      tail = λ v y l. none_behind v y;
    }

    spans_more : Spans (record { at = w.at; first = w.first; end = i + 1 }) (i + 1)
    spans_more = record {
      ordered = (omega (arith, s.ordered.0, s.ordered.1), omega arith);
      place = s.place;
      lead = λ v y l. s.lead v y (lives_back i v l);
      tail = λ v y l. none_behind v y;
    }

  pub scanning_on : (rules allowed : ℕ) (w : Option Span) (at i : ℕ) → Scanning rules allowed w at i → i < rules
      → (j : Judged) → Judges b at x j → (new : ℕ) → Forbids allowed j.low j.high new → (w' : Option Span) → w' ≡ widen_of w j.lasts at i
      → (at' : ℕ) → at' ≡ end_at b at → Scanning rules new w' at' (i + 1)
  unfolding widen_of
  scanning_on rules allowed w at i s h j g new f w' q at' r = record {
    inside = omega arith;
    place = r ∙ ap (end_at b) s.place ∙ sym (place_next b from i);
    values = λ v k.
        f.is v k ∙ rw (s.values v k, ← g.values v k, s.place, dead_next from i (x ++ (v ∷ [])))
        (turned (dead (rule_at b (place_at b from i) ∷ []) (x ++ (v ∷ []))) (dead (rules_at b from i) (x ++ (v ∷ []))) (forbidden set v));
    spans = rw q (go w s.spans j.lasts refl);
  }
    where
      turned : (p q r : Bool) → p || (q || r) ≡ (q || p) || r
      turned true true r = refl
      turned true false r = refl
      turned false true r = refl
      turned false false r = refl

      go : (w : Option Span) → Spans (span_of w) i → (t : Bool) → j.lasts ≡ t → Spans (span_of (widen_of w t at i)) (i + 1)
      go w k false e = spans_not (span_of w) i k (λ v y. rw s.place at (g.closed e v y))
      go None k true e = spans_first (span_of None) i k at s.place refl
      go (Some w) k true e = spans_more w i k

-- ---- what the scan asks for, and what it comes to

module _ (b : List ℕ) (d : Row → Bool) (x : Row) (from rules set : ℕ) (y : Window b d x from rules) where
  -- a rule of the window does not make the live prefix dead
  window_live : d x ≡ false → (i : ℕ) → i < rules → dead (rule_at b (place_at b from i) ∷ []) x ≡ false
  window_live l i h =
      let whole : dead (rules_at b from rules) x ≡ false = sym (rw (append-nil x) at (y.tells [])) ∙ l in
      let front = (or_none b from x set (dead (rules_at b from (i + 1)) x) (dead (rules_at b (place_at b from (i + 1)) (rules - (i + 1))) x)
      (sym (ap (λ (rs : List Rule). dead rs x) (rules_split b from (i + 1) rules (omega arith)) ∙ dead_append (rules_at b from (i + 1)) (rules_at b (place_at b from (i + 1)) (rules - (i + 1))) x) ∙ whole)).0 in
      (or_none b from x set (dead (rules_at b from i) x) (dead (rule_at b (place_at b from i) ∷ []) x) (sym (dead_next b from x set from i x) ∙ front)).1

  -- what is asked for the next rule
  pub scanning_next : d x ≡ false → (allowed : ℕ) (w : Option Span) (at i : ℕ) → Scanning b from x set rules allowed w at i → i < rules
      → Stands b at × (dead (rule_at b at ∷ []) x ≡ false)
  scanning_next l allowed w at i s h = rw s.place (stand_at b from rules i y.stand h, window_live l i h)

  pub scanning_end : (allowed : ℕ) (w : Option Span) (at i : ℕ) → Scanning b from x set rules allowed w at i → rules ≤ i
      → Scans b d x set (record { allowed = allowed; at = (span_of b from x set w).at; rules = (span_of b from x set w).end - (span_of b from x set w).first })
  scanning_end allowed w at i s h =
      let e : i ≡ rules = omega (arith, s.inside) in
      record { values = λ v k. let q : dead (rules_at b from i) (x ++ (v ∷ [])) ≡ d (x ++ (v ∷ [])) = rw e (sym (y.tells (v ∷ []))) in s.values v k ∙ ap (λ (t : Bool). t || forbidden set v) q; stand = standing (span_of b from x set w) (rw e at s.spans); window = λ v l. next v l (span_of b from x set w) (rw e at s.spans) }
    where
      standing : (w : Span) → Spans b from x set w rules → AllStand b w.at (w.end - w.first)
      standing w p = rw p.place (stand_part b from rules w.first (w.end - w.first) y.stand (omega (arith, p.ordered.0, p.ordered.1)))

      next : (v : ℕ) → d (x ++ (v ∷ [])) ≡ false → (w : Span) → Spans b from x set w rules → Window b d (x ++ (v ∷ [])) w.at (w.end - w.first)
      next v l w p = record {
        few = omega (arith, y.few, p.ordered.1);
        stand = standing w p;
        tells = λ z. rw (append_snoc x v z, p.place) (y.tells (v ∷ z) ∙ middle z);
      }
        where
          lives : dead (rules_at b from rules) (x ++ (v ∷ [])) ≡ false
          lives = sym (y.tells (v ∷ [])) ∙ l

          middle : (z : Row) → dead (rules_at b from rules) (x ++ (v ∷ z)) ≡ dead (rules_at b (place_at b from w.first) (w.end - w.first)) (x ++ (v ∷ z))
          middle z =
              rw (
                rules_split b from w.end rules p.ordered.1,
                dead_append (rules_at b from w.end) (rules_at b (place_at b from w.end) (rules - w.end)) (x ++ (v ∷ z)),
                p.tail v z lives,
                or-false (dead (rules_at b from w.end) (x ++ (v ∷ z))),
                rules_split b from w.first w.end p.ordered.0,
                dead_append (rules_at b from w.first) (rules_at b (place_at b from w.first) (w.end - w.first)) (x ++ (v ∷ z)),
                p.lead v z lives,
              )
