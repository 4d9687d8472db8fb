-- Starting: what a page's walk asks at its start, and the start itself: a rule without literals ends it, else it resumes from the root.
use Prim.Native.Nat.{ℕ, zero, suc, ◌+◌, ◌-◌, ◌*◌, ◌≤◌, ◌<◌}
use native.Mathlib.Nat.{sub-zero}
use native.Mathlib.Omega.{arith}
use mathlib.Core.Path.{◌≡◌, sym, ap, ◌∙◌}
use mathlib.Core.Bool.{Bool, true, false}
use mathlib.Core.List.{List, []}
use lib.ListN.{length, get_or, take}
use lib.Seq.{get_or-take}
use borrow.Author.Tests.{le-ltb}
use Rattle.meaning.specs.Rows.{Row, Sizes}
use Rattle.meaning.specs.Rules.{setting, met}
use Rattle.meaning.specs.Bytes.{literal_at, literals_at, end_at, rules_at, rules_in}
use Rattle.meaning.specs.Listing.{decided, dead}
use Rattle.listing.specs.declared.cursor.Cursor.{Cursor}
use Rattle.listing.specs.declared.steps.Walk.{Walk}
use Rattle.listing.specs.Inner.{Stands, AllStand, Ruled, Open, Narrowable, Sorted, past_of, S, runs, Ready, Along, Good, Standard}
use Rattle.listing.specs.Cursors.{prefix_of, cursor_of}
use Rattle.listing.proofs.laws.Prefixes.{plain_length, begins_at}
use Rattle.listing.proofs.laws.Grouping.{grouped_ruled}
use Rattle.listing.proofs.laws.Course.{part_all}
use Rattle.listing.proofs.laws.Steps.{runs_nil}
use Rattle.listing.proofs.laws.Resuming.{past_none, resume_of}

-- ---- a rule without literals makes the empty prefix dead, and no other rule does

dead_root : (b : List ℕ) (at k : ℕ) → 0 < k → (count : ℕ) → count ≡ get_or b (at + 2) 0 → count ≡ 0 → dead (rules_at b at k) [] ≡ true
unfolding rules_at literals_at dead decided met
dead_root b at zero h count e z = absurd (omega arith)
dead_root b at (suc k) h count e z = let n : get_or b (at + 2) 0 ≡ 0 = sym e ∙ z in rw n

live_root : (b : List ℕ) (at k : ℕ) → 0 < k → (count : ℕ) → count ≡ get_or b (at + 2) 0 → (count ≡ 0 → ⊥)
    → dead (rules_at b at k) [] ≡ dead (rules_at b (end_at b at) (k - 1)) []
unfolding rules_at literals_at dead decided
live_root b at zero h count e z = absurd (omega arith)
live_root b at (suc k) h count e z =
    let n : get_or b (at + 2) 0 ≡ suc (count - 1) = omega arith in
    let s : suc k - 1 ≡ k = omega arith in
    rw (n, s, le-ltb (setting (literal_at b (at + 3))) 0 (omega arith))

-- the loop: what is left from here gives the whole
pub record Seeking (b : List ℕ) (rules at i : ℕ) : Type 0 where
  pub inside : i ≤ rules
  pub stand : AllStand b at (rules - i)
  pub left : dead (rules_at b 7 rules) [] ≡ dead (rules_at b at (rules - i)) []

pub seeking_start : (b : List ℕ) (rules : ℕ) → AllStand b 7 rules → Seeking b rules 7 0
seeking_start b rules s = record { inside = omega arith; stand = rw (sub-zero rules) s; left = rw (sub-zero rules) }

module _ (b : List ℕ) (rules at i : ℕ) (y : Seeking b rules at i) where
  pub seeking_end : rules ≤ i → false ≡ dead (rules_at b 7 rules) []
  unfolding rules_at dead
  seeking_end h = let e : rules - i ≡ 0 = omega arith in sym (rw e at y.left)

  module _ (h : i < rules) where
    seeking_head : Stands b at × AllStand b (end_at b at) (rules - (i + 1))
    seeking_head = let e : rules - i ≡ suc (rules - (i + 1)) = omega arith in (rw e at y.stand)

    pub seeking_inside : end_at b at ≤ length b
    seeking_inside = seeking_head.0.inside

    module _ (count : ℕ) (e : count ≡ get_or b (at + 2) 0) where
      pub seeking_yes : count ≡ 0 → true ≡ dead (rules_at b 7 rules) []
      seeking_yes z = sym (y.left ∙ dead_root b at (rules - i) (omega arith) count e z)

      pub seeking_on : (count ≡ 0 → ⊥) → (next : ℕ) → next ≡ end_at b at → Seeking b rules next (i + 1)
      seeking_on z next p =
          let k : rules - i - 1 ≡ rules - (i + 1) = omega arith in
          rw p (record { inside = omega arith; stand = seeking_head.1; left = y.left ∙ live_root b at (rules - i) (omega arith) count e z ∙ rw k })

-- ---- the start

module _ (b : List ℕ) (rules : ℕ) (ns : Sizes) (room : List ℕ) (c : Cursor) (fit budget : ℕ) (y : Standard b rules ns) (good : Good ns c) (cells : fit * length ns ≤ length room) where
  abbrev d : Row → Bool
  d = dead (rules_in b)

  abbrev w₀ : Walk
  w₀ = record { last = c; dead = 0; rows = 0; steps = 0 }

  abbrev pub start_of : S
  start_of = runs d (length ns) fit budget (past_of d ns [] (prefix_of c)) (w₀, room)

  rules_here : (x : Row) → d x ≡ dead (rules_at b 7 rules) x
  rules_here x = ap (λ (k : ℕ). dead (rules_at b 7 k) x) y.count

  pub start_dead : (t : Bool) → t ≡ dead (rules_at b 7 rules) [] → t ≡ true → ◌≡◌ {A = S} (w₀, room) start_of
  start_dead t e h =
      sym (runs_nil d (length ns) fit budget (w₀, room))
      ∙ ap (λ (L : List Row). runs d (length ns) fit budget L (w₀, room)) (sym (past_none d ns [] (prefix_of c) (rules_here [] ∙ sym e ∙ h)))

  module _ (root : Cursor) (r : root ≡ cursor_of []) where
    root_len : root.len ≡ 0
    unfolding cursor_of
    root_len = ap (λ (x : Cursor). x.len) r

    root_prefix : prefix_of root ≡ []
    root_prefix = ap (λ (k : ℕ). take k root.values) root_len

    pub start_ready : Ready ns room root (length ns) fit × Along ns c root (length ns)
    start_ready = (
      record { cells = cells; deep = omega (arith, root_len); limited = y.limited },
      record {
        plain = good.plain;
        here = omega (arith, root_len);
        deep = omega (arith, good.deep, root_len);
        fits = λ k h. rw (get_or-take c.len c.values k 0 h) at (begins_at ns (prefix_of c) good.fits k (omega (arith, plain_length c good.plain)));
      },
    )

    pub start_open : dead (rules_at b 7 rules) [] ≡ false → (p t e : List ℕ) (at left : ℕ) → Sorted b rules p t e at left → (m : ℕ) → length p ≤ m
        → Narrowable b p t e m × Open b d (prefix_of root) p t e at left m
    start_open live p t e at left a m l =
        let g = a.grouped in
        let k : rules - (rules - left) ≡ left = omega (arith, a.few) in
        let r : Ruled b d [] p t e at left = rw k at (grouped_ruled b rules (rules - left) p t e d rules_here y.stand y.few (omega arith) g at a.next) in (
          record { laid = g.laid; hints = l; ends = λ f i o k q. (r.entries f i o k q).stands.inside },
          rw root_prefix (record { ruled = r; live = rules_here [] ∙ live; laid = g.laid; hints = l }),
        )

    pub start_on : (st w : Walk) (o : List ℕ) → ◌≡◌ {A = S} (w, o) (resume_of d ns c root (length ns) fit budget st room)
        → ◌≡◌ {A = S} (w, o) (runs d (length ns) fit budget (past_of d ns [] (prefix_of c)) (st, room))
    unfolding cursor_of
    start_on st w o h =
        h ∙ ap (λ (x : Cursor). resume_of d ns c x (length ns) fit budget st room) r
        ∙ ap (λ (t : Sizes). runs d (length ns) fit budget (past_of d t [] (prefix_of c)) (st, room)) (part_all ns)
