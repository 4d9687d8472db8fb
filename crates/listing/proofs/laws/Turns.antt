-- Turns: the loop over the values of one level: what is left to do from here gives the whole.
use Prim.Native.Nat.{ℕ, suc, ◌+◌, ◌-◌, ◌≤◌, ◌<◌}
use native.Mathlib.Numerals.{add-one}
use native.Mathlib.Omega.{arith}
use mathlib.Core.Path.{◌≡◌, refl, sym, ap, ◌∙◌}
use mathlib.Core.Bool.{Bool, true, false, cond}
use mathlib.Core.List.{List, [], ◌∷◌, ◌++◌}
use mathlib.Core.Logic.{◌⊎◌, inl, inr}
use lib.Dec.{eqb}
use lib.ListN.{length, get_or}
use borrow.Author.Tests.{ne_eqb}
use Rattle.meaning.specs.Rows.{Row, Sizes}
use Rattle.meaning.specs.Listing.{below}
use Rattle.listing.specs.declared.cursor.Cursor.{Cursor}
use Rattle.listing.specs.declared.steps.Walk.{Walk}
use Rattle.listing.specs.Cursors.{prefix_of}
use Rattle.listing.specs.Inner.{Plain, push_of, forbidden, part, branch_of, from_of, S, walk_of, move_of, inward_of, goes_on, visit_of, runs, Ready, left_at, whole_of, Going, Allows, behind_of, Skips, Turns}
use Rattle.listing.proofs.laws.Prefixes.{push_same, push_prefix}
use Rattle.listing.proofs.laws.Course.{part_cons, stop_at, below_from}
use Rattle.listing.proofs.laws.Steps.{runs_nil, runs_cons, runs_append, runs_shut, shut_rows, shut_steps, open_both, move_short, ready_same}

pub inward_less : (b : Bool) (k : ℕ) → (k ≡ 0 → ⊥) → inward_of b k < k
inward_less true k h = omega arith
inward_less false k h = omega arith

module _ (d : Row → Bool) (ns : Sizes) (cur : Cursor) (levels fit budget : ℕ) where
  pub going_start : (from : ℕ) (st : Walk) (o : List ℕ) → (levels ≡ 0 → ⊥) → Going d ns cur levels fit budget from st o o st from
  going_start from st o h = record { long = refl; left = rw (part_cons ns cur.len levels h) }

  pub below_none : (from : ℕ) (st : Walk) (o : List ℕ) → levels ≡ 0 → ◌≡◌ {A = S} (st, o) (whole_of d ns cur levels fit budget from (st, o))
  below_none from st o h = rw h (sym (runs_nil d (length ns) fit budget (st, o)))

  module _ (from : ℕ) (st : Walk) (o₀ o : List ℕ) (w : Walk) (v : ℕ) where
    going_shut : Going d ns cur levels fit budget from st o₀ o w v → goes_on fit budget w ≡ false → ◌≡◌ {A = S} (w, o) (whole_of d ns cur levels fit budget from (st, o₀))
    going_shut g h = sym (runs_shut d (length ns) fit budget (left_at d ns cur levels fit budget (get_or ns cur.len 0) v) (w, o) h) ∙ g.left

    -- the ways out of a loop: no room for a row, no step in the budget, or no value left
    pub going_out : Going d ns cur levels fit budget from st o₀ o w v → ((fit ≤ w.rows) ⊎ (budget ≤ w.steps)) ⊎ (get_or ns cur.len 0 ≤ v)
        → ◌≡◌ {A = S} (w, o) (whole_of d ns cur levels fit budget from (st, o₀))
    going_out g c = elim c [
      | inl t ↦ elim t [
        | inl h ↦ going_shut g (shut_rows fit budget w h)
        | inr h ↦ going_shut g (shut_steps fit budget w h)
      ]
      | inr h ↦ let e : get_or ns cur.len 0 - v ≡ 0 = omega arith in sym (runs_nil d (length ns) fit budget (w, o)) ∙ (rw e at g.left)
    ]

    -- one value: its visit, and what is below it
    pub turn : Plain cur → cur.len < 16 → v < get_or ns cur.len 0 → w.rows < fit → w.steps < budget
        → runs d (length ns) fit budget (left_at d ns cur levels fit budget (get_or ns cur.len 0) v) (w, o)
        ≡ runs d (length ns) fit budget (left_at d ns cur levels fit budget (get_or ns cur.len 0) (v + 1))
        (runs d (length ns) fit budget (from_of d (part ns (cur.len + 1) (inward_of (d (prefix_of cur ++ (v ∷ []))) levels)) (prefix_of cur ++ (v ∷ [])) 0)
        (move_of (length ns) (d (prefix_of cur ++ (v ∷ []))) (push_of cur v) (w, o)))
    turn p h k r m =
        let n : ℕ = get_or ns cur.len 0 in
        let below-it : Sizes = part ns (cur.len + 1) (levels - 1) in
        let x : Row = prefix_of cur ++ (v ∷ []) in
        let e : n - v ≡ suc (n - suc v) = omega arith in
        let split : left_at d ns cur levels fit budget n v ≡ branch_of d below-it (prefix_of cur) v ++ left_at d ns cur levels fit budget n (v + 1) = rw (e, add-one v) in
        let seen : visit_of d (length ns) fit budget x (w, o) ≡ move_of (length ns) (d x) (push_of cur v) (w, o) =
        rw (open_both fit budget w r m) (ap (λ (c : Cursor). move_of (length ns) (d x) c (w, o)) (sym (push_same cur v p h))) in
        let into : below d below-it x ≡ from_of d (part ns (cur.len + 1) (inward_of (d x) levels)) x 0 =
        below_from d below-it x ∙ ap (λ (u : Sizes). from_of d u x 0) (deep (d x)) in
        ap (λ (L : List Row). runs d (length ns) fit budget L (w, o)) split
        ∙ runs_append d (length ns) fit budget (branch_of d below-it (prefix_of cur) v) (left_at d ns cur levels fit budget n (v + 1)) (w, o)
        ∙ ap (λ (t : S). runs d (length ns) fit budget (left_at d ns cur levels fit budget n (v + 1)) t)
        (runs_cons d (length ns) fit budget x (below d below-it x) (w, o)
        ∙ ap (λ (t : S). runs d (length ns) fit budget (below d below-it x) t) seen
        ∙ ap (λ (L : List Row). runs d (length ns) fit budget L (move_of (length ns) (d x) (push_of cur v) (w, o))) into)
      where
        deep : (b : Bool) → stop_at d b (part ns (cur.len + 1) (levels - 1)) ≡ part ns (cur.len + 1) (inward_of b levels)
        deep true = refl
        deep false = refl

    module _ (plain : Plain cur) (y : Ready ns o₀ cur levels fit) (g : Going d ns cur levels fit budget from st o₀ o w v) (z : levels ≡ 0 → ⊥) (next : Cursor) (n : next ≡ push_of cur v) where
      next_prefix : prefix_of next ≡ prefix_of cur ++ (v ∷ [])
      next_prefix = ap (λ (u : Cursor). prefix_of u) n ∙ push_prefix cur v plain (omega (arith, y.deep, y.limited.short))

      next_len : next.len ≡ cur.len + 1
      next_len = ap (λ (u : Cursor). u.len) n

      pub going_on : v < get_or ns cur.len 0 → w.rows < fit → w.steps < budget → (b : Bool) → b ≡ d (prefix_of next)
          → (seen : Walk) (o₁ : List ℕ) → ◌≡◌ {A = S} (seen, o₁) (move_of (length ns) b next (w, o)) → length o₁ ≡ length o
          → (k : ℕ) → k ≡ inward_of b levels
          → (r : Walk) (o₂ : List ℕ) → ◌≡◌ {A = S} (r, o₂) (runs d (length ns) fit budget (from_of d (part ns next.len k) (prefix_of next) 0) (seen, o₁)) → length o₂ ≡ length o₁
          → Going d ns cur levels fit budget from st o₀ o₂ r (v + 1)
      going_on h i j b e seen o₁ m lo k f r o₂ q lo₂ =
          let c : cur.len < 16 = omega (arith, y.deep, y.limited.short) in
          let x : Row = prefix_of cur ++ (v ∷ []) in
          let e' : b ≡ d x = e ∙ ap d next_prefix in
          let m' : ◌≡◌ {A = S} (seen, o₁) (move_of (length ns) (d x) (push_of cur v) (w, o)) =
          m ∙ ap (λ (b : Bool). move_of (length ns) b next (w, o)) e' ∙ ap (λ (c : Cursor). move_of (length ns) (d x) c (w, o)) n in
          let q' : ◌≡◌ {A = S} (r, o₂) (runs d (length ns) fit budget (from_of d (part ns (cur.len + 1) (inward_of (d x) levels)) x 0) (move_of (length ns) (d x) (push_of cur v) (w, o))) =
          q
          ∙ ap (λ (k : ℕ). runs d (length ns) fit budget (from_of d (part ns next.len k) (prefix_of next) 0) (seen, o₁)) (f ∙ ap (λ (b : Bool). inward_of b levels) e')
          ∙ ap (λ (a : ℕ). runs d (length ns) fit budget (from_of d (part ns a (inward_of (d x) levels)) (prefix_of next) 0) (seen, o₁)) next_len
          ∙ ap (λ (u : Row). runs d (length ns) fit budget (from_of d (part ns (cur.len + 1) (inward_of (d x) levels)) u 0) (seen, o₁)) next_prefix
          ∙ ap (λ (t : S). runs d (length ns) fit budget (from_of d (part ns (cur.len + 1) (inward_of (d x) levels)) x 0) t) m' in
          record { long = lo₂ ∙ lo ∙ g.long; left = ap (λ (t : S). runs d (length ns) fit budget (left_at d ns cur levels fit budget (get_or ns cur.len 0) (v + 1)) t) q' ∙ sym (turn plain c h i j) ∙ g.left }

-- one turn of the loop: the visit of v, all below it, and the dead values behind it
pub turns_on : (d : Row → Bool) (ns : Sizes) (cur : Cursor) (levels fit budget : ℕ) (w : Walk) (o : List ℕ) (v : ℕ) → Plain cur → Ready ns o cur levels fit → 0 < levels → cur.len + 1 < length ns
    → v < get_or ns cur.len 0 → w.rows < fit → w.steps < budget → (next : Cursor) → next ≡ push_of cur v → (b : Bool) → b ≡ d (prefix_of next)
    → (seen : Walk) → seen ≡ walk_of next b w.rows (w.steps + 1) → (k : ℕ) → k ≡ inward_of b levels
    → (r : Walk) (o₁ : List ℕ) → ◌≡◌ {A = S} (r, o₁) (runs d (length ns) fit budget (from_of d (part ns next.len k) (prefix_of next) 0) (seen, o)) → length o₁ ≡ length o
    → (r₁ : Walk) (u : ℕ) → Skips d ns cur fit budget r (v + 1) r₁ u → Turns d ns cur levels fit budget w o v r₁ o₁ u
turns_on d ns cur levels fit budget w o v plain y z short h i j next n b e seen f k g r o₁ q lo r₁ u t = record {
  ahead = omega (arith, t.ahead);
  on = λ from st o₀ go. t.on levels from st o₀ o₁ (going_on d ns cur levels fit budget from st o₀ o w v plain (ready_same ns o o₀ cur levels fit y (sym go.long)) go (λ x. omega arith) next n h i j b e seen o moved refl k g r o₁ q lo);
}
  where
    len : next.len ≡ cur.len + 1
    len = ap (λ (c : Cursor). c.len) n

    moved : ◌≡◌ {A = S} (seen, o) (move_of (length ns) b next (w, o))
    moved = move_short (length ns) b next w o seen (λ x. omega (arith, len)) f

-- ---- the last level: nothing is below its values

module _ (d : Row → Bool) (ns : Sizes) (cur : Cursor) (fit budget : ℕ) (from : ℕ) (st : Walk) (o₀ o : List ℕ) (w : Walk) (v : ℕ)
    (plain : Plain cur) (y : Ready ns o₀ cur 1 fit) (g : Going d ns cur 1 fit budget from st o₀ o w v) (next : Cursor) (n : next ≡ push_of cur v) (h : v < get_or ns cur.len 0) where
  pub leaf_small : (i : ℕ) → i ≡ v → i < 64
  leaf_small i e = omega (arith, y.limited.few cur.len (omega (arith, y.deep)))

  pub leaf_on : (set : ℕ) → Allows d (prefix_of cur) set → w.rows < fit → w.steps < budget → (i : ℕ) → i ≡ v → (b : Bool) → b ≡ forbidden set i
      → (seen : Walk) (o₁ : List ℕ) → ◌≡◌ {A = S} (seen, o₁) (move_of (length ns) b next (w, o)) → length o₁ ≡ length o
      → Going d ns cur 1 fit budget from st o₀ o₁ seen (v + 1)
  leaf_on set a i j k e b f seen o₁ m lo =
      going_on d ns cur 1 fit budget from st o₀ o w v plain y g (λ z. omega arith) next n h i j b dead seen o₁ m lo 0 (none b) seen o₁
      (sym (runs_nil d (length ns) fit budget (seen, o₁))) refl
    where
      none : (c : Bool) → 0 ≡ inward_of c 1
      none true = refl
      none false = refl

      longer : prefix_of next ≡ prefix_of cur ++ (v ∷ [])
      longer = ap (λ (u : Cursor). prefix_of u) n ∙ push_prefix cur v plain (omega (arith, y.deep, y.limited.short))

      dead : b ≡ d (prefix_of next)
      dead = f ∙ ap (forbidden set) e ∙ a.is v (omega (arith, leaf_small v refl)) ∙ ap d (sym longer)

-- ---- the walk with its last prefix set

pub behind_rows : (t : Walk) (cur : Cursor) (v u : ℕ) → (behind_of t cur v u).rows ≡ t.rows
behind_rows t cur v u = go (eqb u v)
  where
    go : (b : Bool) → (cond b t (record { last = push_of cur (u - 1); dead = t.dead; rows = t.rows; steps = t.steps })).rows ≡ t.rows
    go true = refl
    go false = refl

pub behind_steps : (t : Walk) (cur : Cursor) (v u : ℕ) → (behind_of t cur v u).steps ≡ t.steps
behind_steps t cur v u = go (eqb u v)
  where
    go : (b : Bool) → (cond b t (record { last = push_of cur (u - 1); dead = t.dead; rows = t.rows; steps = t.steps })).steps ≡ t.steps
    go true = refl
    go false = refl

-- ---- a run of dead values: only the steps and the last prefix change

module _ (d : Row → Bool) (ns : Sizes) (cur : Cursor) (fit budget : ℕ) where
  pub record Skipping (w : Walk) (v : ℕ) (t : Walk) (u : ℕ) : Type 0 where
    pub rows_are : t.rows ≡ w.rows
    pub skips : Skips d ns cur fit budget w v (behind_of t cur v u) u

  -- one dead value
  dead_turn : (levels from : ℕ) (st : Walk) (o₀ o : List ℕ) (w : Walk) (u : ℕ) → Plain cur → cur.len < 16 → u < get_or ns cur.len 0 → w.rows < fit → w.steps < budget
      → d (prefix_of cur ++ (u ∷ [])) ≡ true → Going d ns cur levels fit budget from st o₀ o w u
      → Going d ns cur levels fit budget from st o₀ o (walk_of (push_of cur u) true w.rows (w.steps + 1)) (u + 1)
  dead_turn levels from st o₀ o w u p h k r m e g = record {
    long = g.long;
    left = sym (rw (e, runs_nil d (length ns) fit budget (walk_of (push_of cur u) true w.rows (w.steps + 1), o)) at (turn d ns cur levels fit budget from st o₀ o w u p h k r m)) ∙ g.left;
  }

  pub skipping_on : {w : Walk} {v : ℕ} {t : Walk} {u : ℕ} → Skipping w v t u → Plain cur → cur.len < 16 → u < get_or ns cur.len 0 → get_or ns cur.len 0 ≤ 64
      → w.rows < fit → t.steps < budget → (set : ℕ) → Allows d (prefix_of cur) set → (i : ℕ) → i ≡ u → (b : Bool) → b ≡ forbidden set i → b ≡ true
      → Skipping w v (record { last = t.last; dead = 1; rows = t.rows; steps = t.steps + 1 }) (u + 1)
  skipping_on {w} {v} {t} {u} y p h k small r m set a i e b f z = record {
    rows_are = y.rows_are;
    skips = record {
      ahead = omega (arith, y.skips.ahead);
      on = λ levels from st o₀ o g.
          rw same (dead_turn levels from st o₀ o (behind_of t cur v u) u p h k (omega (arith, behind_rows t cur v u, y.rows_are)) (omega (arith, behind_steps t cur v u)) kills (y.skips.on levels from st o₀ o g));
    };
  }
    where
      kills : d (prefix_of cur ++ (u ∷ [])) ≡ true
      kills = sym (a.is u (omega arith)) ∙ sym (ap (forbidden set) e) ∙ sym f ∙ z

      same : behind_of (record { last = t.last; dead = 1; rows = t.rows; steps = t.steps + 1 }) cur v (u + 1)
          ≡ walk_of (push_of cur u) true (behind_of t cur v u).rows ((behind_of t cur v u).steps + 1)
      same =
          let n : u + 1 - 1 ≡ u = omega arith in
          rw (ne_eqb (u + 1) v (λ c. omega (arith, y.skips.ahead)), behind_rows t cur v u, behind_steps t cur v u, n)
