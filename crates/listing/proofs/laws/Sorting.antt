-- Sorting: the space for the groups, and the loop that enters the rules, equal ones once.
use Prim.Native.Nat.{ℕ, zero, suc, ◌+◌, ◌*◌, ◌-◌, ◌≤◌, ◌<◌}
use native.Mathlib.Omega.{arith}
use mathlib.Core.Path.{◌≡◌, refl, sym, ap, ◌∙◌}
use mathlib.Core.Bool.{Bool, true, false, cond}
use mathlib.Core.Logic.{inl, inr}
use mathlib.Core.List.{List}
use lib.ListN.{take, drop, length, length-set, length-replicate, get_or, set, replicate, get_or-replicate}
use Rattle.std.specs.Bool.{Decides}
use lib.Seq.{get_or-take, get_or-drop, get_or-set_same, get_or-set_other, set-get_or}
use Rattle.meaning.specs.Bytes.{literals_at, rule_at, end_at, place_at}
use Rattle.meaning.proofs.Tests.{lt_or_le}
use Rattle.listing.specs.Inner.{AllStand, Laid, Ladder, Same, Twice, Again, HasSpace, OneOf, EntryOf, Entered, Grouped, Sorted}
use Rattle.listing.proofs.laws.Parting.{eq_or}
use Rattle.listing.proofs.laws.Standing.{place_next, stand_at}

-- ---- the space

abbrev zero_list : ℕ → List ℕ
zero_list n = replicate n 0

zeros : (n g : ℕ) → g < n → get_or (zero_list n) g 0 ≡ 0
zeros n g h = get_or-replicate n g 0 0 h

long : (n : ℕ) → length (zero_list n) ≡ n
long n = length-replicate n 0

-- the bounds of the groups before g are known, and group g begins at `from`
pub record Building (s e : List ℕ) (from g : ℕ) : Type 0 where
  pub starts : length s ≡ 17
  pub ends : length e ≡ 16
  pub few : g ≤ 16
  pub here : get_or s g 0 ≡ from
  pub small : from ≤ 4096
  pub up : (f : ℕ) → f < g → get_or s f 0 ≤ get_or s (f + 1) 0
  pub top : (f : ℕ) → f < g → get_or s (f + 1) 0 ≤ 4096
  pub none : (f : ℕ) → f < g → get_or e f 0 ≡ get_or s f 0

climb : (s e : List ℕ) → Ladder s e → (g h : ℕ) → g < h → h < 16 → get_or s (g + 1) 0 ≤ get_or s h 0
climb s e y g zero a c = absurd (omega arith)
climb s e y g (suc h) a c = elim (eq_or g h) [
  | inl z ↦ let w : g + 1 ≡ suc h = omega arith in rw w (omega arith)
  | inr z ↦ let w : h + 1 ≡ suc h = omega arith in omega (arith, climb s e y g h (omega arith) (omega arith), (rw w at (y.up h (omega arith))))
]

pub ladder_laid : (s e : List ℕ) (n : ℕ) → Ladder s e → 4096 ≤ n → Laid s e n
ladder_laid s e n y h = record {
  starts = y.starts;
  ends = y.ends;
  low = λ g l. omega (arith, y.none g l);
  front = λ g l. omega (arith, y.none g l, y.up g l);
  apart = λ g f l m. climb s e y g f l m;
  inside = λ g l. omega (arith, y.top g l);
}

-- nothing is entered, and all rules are left
ladder_sorted : (b : List ℕ) (rules : ℕ) (p s e : List ℕ) → Laid s e (length p) → ((g : ℕ) → g < 16 → get_or e g 0 ≡ get_or s g 0) → Sorted b rules p s e 7 rules
unfolding place_at
ladder_sorted b rules p s e l y =
    let z : rules - rules ≡ 0 = omega arith in
    record {
      few = omega arith;
      next = rw z;
      grouped = rw z (record {
        laid = l;
        entries = λ g i h m o. absurd (omega (arith, y g h));
        found = λ k h. absurd (omega arith);
      });
    }

none_laid : (p : List ℕ) → Laid (zero_list 17) (zero_list 16) (length p)
none_laid p = record {
  starts = long 17;
  ends = long 16;
  low = λ g h. omega (arith, zeros 17 g (omega arith));
  front = λ g h. omega (arith, zeros 16 g h);
  apart = λ g h l m. omega (arith, zeros 17 (g + 1) (omega arith));
  inside = λ g h. omega (arith, zeros 17 (g + 1) (omega arith));
}

pub none_sorted : (b : List ℕ) (rules : ℕ) (p : List ℕ) → Sorted b rules p (zero_list 17) (zero_list 16) 7 rules
none_sorted b rules p = ladder_sorted b rules p (zero_list 17) (zero_list 16) (none_laid p) (λ g h. zeros 16 g h ∙ sym (zeros 17 g (omega arith)))

-- ---- equal rules

literals_alike : (b : List ℕ) (p q k : ℕ) → ((j : ℕ) → j < 3 * k → get_or b (p + j) 0 ≡ get_or b (q + j) 0) → literals_at b p k ≡ literals_at b q k
unfolding literals_at
literals_alike b p q zero h = refl
literals_alike b p q (suc k) h =
    let z : (m : ℕ) → m + 0 ≡ m = λ m. omega arith in
    let a : get_or b p 0 ≡ get_or b q 0 = rw (z p, z q) at (h 0 (omega arith)) in
    let rest : literals_at b (p + 3) k ≡ literals_at b (q + 3) k = literals_alike b (p + 3) (q + 3) k (λ j l.
    let m : p + 3 + j ≡ p + (3 + j) = omega arith in
    let n : q + 3 + j ≡ q + (3 + j) = omega arith in
    rw (m, n) (h (3 + j) (omega arith))) in
    rw (a, h 1 (omega arith), h 2 (omega arith), rest)

-- m literals stand behind each mark, in equal bytes
pub same_bytes : (b : List ℕ) (p q m : ℕ) → m ≡ get_or b (p + 2) 0 → get_or b (q + 2) 0 ≡ get_or b (p + 2) 0 → (r : Bool)
    → Decides r (take (p + 3 + 3 * m - (p + 3)) (drop (p + 3) b) ≡ take (q + 3 + 3 * m - (q + 3)) (drop (q + 3) b)) → Same b p q r
same_bytes b p q m e f r d = record {
  equal = λ t. rw (f, ← e) (literals_alike b (p + 3) (q + 3) m (λ j h. sym (at_byte (p + 3) j h) ∙ ap (λ (xs : List ℕ). get_or xs j 0) (d.0 t) ∙ at_byte (q + 3) j h));
}
  where
    at_byte : (a j : ℕ) → j < 3 * m → get_or (take (a + 3 * m - a) (drop a b)) j 0 ≡ get_or b (a + j) 0
    at_byte a j h = get_or-take (a + 3 * m - a) (drop a b) j 0 (omega arith) ∙ get_or-drop a b j 0

-- ---- the places of the rules, one after the other

pub record Placed (b : List ℕ) (n at i : ℕ) : Type 0 where
  pub inside : i ≤ n
  pub place : at ≡ place_at b 7 i

pub placed_start : (b : List ℕ) (n : ℕ) → Placed b n 7 0
unfolding place_at
placed_start b n = record { inside = omega arith; place = refl }

module _ (b : List ℕ) (n at i : ℕ) (y : Placed b n at i) where
  pub placed_inside : (rules : ℕ) → AllStand b 7 rules → n ≤ rules → i < n → end_at b at ≤ length b
  placed_inside rules a l h = rw y.place (stand_at b 7 rules i a (omega arith)).inside

  pub placed_on : i < n → (at' : ℕ) → at' ≡ end_at b at → Placed b n at' (i + 1)
  placed_on h at' e = record { inside = omega arith; place = e ∙ ap (end_at b) y.place ∙ sym (place_next b 7 i) }

-- ---- the loop that enters them

pub record Filling (b : List ℕ) (rules : ℕ) (s p e seen : List ℕ) (at i : ℕ) : Type 0 where
  pub placed : Placed b rules at i
  pub small : at ≤ 7 + 768 * i
  pub long : length p ≡ 4096
  pub traces : length seen ≡ 256
  pub grouped : Grouped b i p s e
  pub top : (g : ℕ) → g < 16 → get_or s (g + 1) 0 ≤ 4096
  pub known : (t : ℕ) → t < 256 → (get_or seen t 0 ≡ 0 → ⊥) → OneOf b i (get_or seen t 0)

pub filling_start : (b : List ℕ) (rules : ℕ) (s p e : List ℕ) → Ladder s e → length p ≡ 4096 → Filling b rules s p e (zero_list 256) 7 0
filling_start b rules s p e y l = record {
  placed = placed_start b rules;
  small = omega arith;
  long = l;
  traces = long 256;
  grouped = record {
    laid = ladder_laid s e (length p) y (omega arith);
    entries = λ g i h m o. absurd (omega (arith, y.none g h));
    found = λ k h. absurd (omega arith);
  };
  top = y.top;
  known = λ t h z. absurd (z (zeros 256 t h));
}

later : (b : List ℕ) (i e : ℕ) → OneOf b i e → OneOf b (i + 1) e
later b i e o = record { at = o.at; under = omega (arith, o.under); is = o.is }

module _ (b : List ℕ) (rules : ℕ) (s p e seen : List ℕ) (at i : ℕ) (y : Filling b rules s p e seen at i) where
  pub filling_inside : AllStand b 7 rules → i < rules → end_at b at ≤ length b
  filling_inside a h = placed_inside b rules at i y.placed rules a (omega arith) h

  -- what `twice` asks of the place that is kept for a trace
  pub filling_twice : AllStand b 7 rules → i < rules → (t : ℕ) → t < 256 → Twice b (get_or seen t 0) at
  filling_twice a h t k = record {
    old = λ n. let o = y.known t k n in rw o.is (stand_at b 7 rules o.at a (omega (arith, o.under, y.placed.inside))).inside;
    new = filling_inside a h;
  }

  module _ (h : i < rules) (small : get_or b (at + 2) 0 < 256) (g : ℕ) (goes : HasSpace b at s e g) where
    abbrev k : g < 16
    k = goes.known

    abbrev end : ℕ
    end = get_or e g 0

    pub filling_slot : end < 4096
    filling_slot = omega (arith, y.top g k, goes.space)

    module _ (t : ℕ) (l : t < 256) (equal : Bool) (q : Again b (get_or seen t 0) at equal) (at' : ℕ) (c : at' ≡ end_at b at) where
      abbrev p₁ : List ℕ
      p₁ = set p end at

      -- the slot behind the front is in no front
      apart : (f j : ℕ) → f < 16 → get_or s f 0 ≤ j → j < get_or e f 0 → get_or p₁ j 0 ≡ get_or p j 0
      apart f j m a d = get_or-set_other p end j at 0 (λ z. elim (eq_or f g) [
        | inl w ↦ let x : get_or e f 0 ≡ get_or e g 0 = ap (λ (n : ℕ). get_or e n 0) w in omega arith
        | inr w ↦ elim (lt_or_le f g) [
          | inl o ↦ omega (arith, y.grouped.laid.front f m, y.grouped.laid.apart f g o k, y.grouped.laid.low g k)
          | inr o ↦ omega (arith, y.grouped.laid.apart g f (omega arith) m)
        ]
      ])

      here : get_or p₁ end 0 ≡ at
      here = get_or-set_same p end at 0 (omega (arith, y.long, filling_slot))

      mine : OneOf b (i + 1) at
      mine = record { at = i; under = omega arith; is = y.placed.place }

      -- in the fronts f, which are those of e or longer
      module _ (f : List ℕ) (wider : (n : ℕ) → n < 16 → get_or e n 0 ≤ get_or f n 0) where
        kept : (r : ℕ) → Entered b p s e r → Entered b p₁ s f r
        kept r o = record {
          group = o.group;
          known = o.known;
          at = o.at;
          above = o.above;
          under = omega (arith, o.under, wider o.group o.known);
          is = ap (λ (n : ℕ). rule_at b n) (apart o.group o.at o.known o.above o.under) ∙ o.is;
        }

      known : (n : ℕ) → n < 256 → (get_or (set seen t at) n 0 ≡ 0 → ⊥) → OneOf b (i + 1) (get_or (set seen t at) n 0)
      known n m z = elim (eq_or n t) [
        | inl w ↦ rw (w, get_or-set_same seen t at 0 (omega (arith, y.traces))) mine
        | inr w ↦
            let o = get_or-set_other seen t n at 0 w in
            rw o (later b i (get_or seen n 0) (y.known n m (λ x. z (o ∙ x))))
      ]

      next : Placed b rules at' (i + 1)
      next = placed_on b rules at i y.placed h at' c

      found : (f : List ℕ) → ((n : ℕ) → n < 16 → get_or e n 0 ≤ get_or f n 0) → Entered b p₁ s f at → (n : ℕ) → n < i + 1 → Entered b p₁ s f (place_at b 7 n)
      found f w o n m = elim (eq_or n i) [
        | inl z ↦ rw (z, sym y.placed.place) o
        | inr z ↦ kept f w (place_at b 7 n) (y.grouped.found n (omega arith))
      ]

      filling_as : (f : List ℕ) → Grouped b (i + 1) p₁ s f → Filling b rules s p₁ f (set seen t at) at' (i + 1)
      filling_as f a = record {
        placed = next;
        small = omega (arith, y.small);
        long = length-set p end at ∙ y.long;
        traces = length-set seen t at ∙ y.traces;
        grouped = a;
        top = y.top;
        known = λ n m z. known n m z;
      }

      -- an equal rule is there: the fronts stay
      as_before : (get_or seen t 0 ≡ 0 → ⊥) → equal ≡ true → Grouped b (i + 1) p₁ s e
      as_before z w = record {
        laid = record {
          starts = y.grouped.laid.starts;
          ends = y.grouped.laid.ends;
          low = y.grouped.laid.low;
          front = y.grouped.laid.front;
          apart = y.grouped.laid.apart;
          inside = λ n m. omega (arith, y.grouped.laid.inside n m, length-set p end at);
        };
        entries = λ f j m a d. let o = y.grouped.entries f j m a d in rw (apart f j m a d) (record { one = later b i (get_or p j 0) o.one; last = o.last });
        found = λ n m. found e (λ n m. omega arith) twin n m;
      }
        where
          twin : Entered b p₁ s e at
          twin =
              let o = y.known t l z in
              let a = kept e (λ n m. omega arith) (place_at b 7 o.at) (y.grouped.found o.at o.under) in
              record { group = a.group; known = a.known; at = a.at; above = a.above; under = a.under; is = a.is ∙ ap (λ (n : ℕ). rule_at b n) (sym o.is) ∙ q.same.equal w }

      -- it is entered
      abbrev e₁ : List ℕ
      e₁ = set e g (end + 1)

      front_here : get_or e₁ g 0 ≡ end + 1
      front_here = get_or-set_same e g (end + 1) 0 (omega (arith, y.grouped.laid.ends))

      front_other : (n : ℕ) → (n ≡ g → ⊥) → get_or e₁ n 0 ≡ get_or e n 0
      front_other n z = get_or-set_other e g n (end + 1) 0 z

      wider : (n : ℕ) → n < 16 → get_or e n 0 ≤ get_or e₁ n 0
      wider n m = elim (eq_or n g) [
        | inl z ↦ rw (z, front_here) (omega arith)
        | inr z ↦ rw (front_other n z) (omega arith)
      ]

      with_it : Grouped b (i + 1) p₁ s e₁
      with_it = record {
        laid = record {
          starts = y.grouped.laid.starts;
          ends = length-set e g (end + 1) ∙ y.grouped.laid.ends;
          low = λ n m. omega (arith, y.grouped.laid.low n m, wider n m);
          front = λ n m. elim (eq_or n g) [
            | inl z ↦ rw (z, front_here) (omega arith)
            | inr z ↦ rw (front_other n z) (y.grouped.laid.front n m)
          ];
          apart = y.grouped.laid.apart;
          inside = λ n m. omega (arith, y.grouped.laid.inside n m, length-set p end at);
        };
        entries = λ f j m a d. entries f j m a d;
        found = λ n m. found e₁ wider new n m;
      }
        where
          old_one : (f j : ℕ) → f < 16 → get_or s f 0 ≤ j → j < get_or e f 0 → EntryOf b (i + 1) f (get_or p₁ j 0)
          old_one f j m a d = let o = y.grouped.entries f j m a d in rw (apart f j m a d) (record { one = later b i (get_or p j 0) o.one; last = o.last })

          entries : (f j : ℕ) → f < 16 → get_or s f 0 ≤ j → j < get_or e₁ f 0 → EntryOf b (i + 1) f (get_or p₁ j 0)
          entries f j m a d = elim (eq_or f g) [
            | inl z ↦ elim (lt_or_le j (get_or e f 0)) [
              | inl o ↦ old_one f j m a o
              | inr o ↦
                  let x : get_or e f 0 ≡ get_or e g 0 = ap (λ (n : ℕ). get_or e n 0) z in
                  let u : get_or e₁ f 0 ≡ end + 1 = ap (λ (n : ℕ). get_or e₁ n 0) z ∙ front_here in
                  let w : j ≡ end = omega arith in
                  rw (w, here, z) (record { one = mine; last = sym goes.last })
            ]
            | inr z ↦ old_one f j m a (omega (arith, front_other f z))
          ]

          new : Entered b p₁ s e₁ at
          new = record {
            group = g;
            known = k;
            at = end;
            above = omega (arith, y.grouped.laid.low g k);
            under = rw front_here (omega arith);
            is = ap (λ (n : ℕ). rule_at b n) here;
          }

      pub filling_on : (end₁ : ℕ) → end₁ ≡ cond equal end (end + 1) → Filling b rules s (set p end at) (set e g end₁) (set seen t at) at' (i + 1)
      filling_on end₁ z = go equal refl
        where
          go : (w : Bool) → equal ≡ w → Filling b rules s (set p end at) (set e g end₁) (set seen t at) at' (i + 1)
          go true w =
              let same : set e g end₁ ≡ e = ap (set e g) (z ∙ ap (λ (u : Bool). cond u end (end + 1)) w) ∙ set-get_or e g 0 in
              rw same (filling_as e (as_before (q.real w) w))
          go false w =
              let more : end₁ ≡ end + 1 = z ∙ ap (λ (u : Bool). cond u end (end + 1)) w in
              rw more (filling_as e₁ with_it)
