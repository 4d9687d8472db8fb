-- Resuming: the way along the given cursor's own values, with one look for each live prefix on it.
use Prim.Native.Nat.{ℕ, ◌+◌, ◌-◌, ◌≤◌, ◌<◌}
use native.Mathlib.Numerals.{add-one}
use native.Mathlib.Omega.{arith}
use mathlib.Core.Path.{◌≡◌, refl, sym, ap, ◌∙◌}
use mathlib.Core.Bool.{Bool, true, false}
use mathlib.Core.List.{List, [], ◌∷◌, ◌++◌}
use lib.ListN.{length, get_or, drop}
use lib.Seq.{drop-cons, get_or-take}
use Rattle.meaning.specs.Rows.{Row, Sizes}
use Rattle.listing.specs.declared.cursor.Cursor.{Cursor}
use Rattle.listing.specs.declared.scan.Scanned.{Scanned}
use Rattle.listing.specs.declared.steps.Walk.{Walk}
use Rattle.listing.specs.Cursors.{prefix_of}
use Rattle.listing.specs.Inner.{Plain, push_of, forbidden, Kept, Ruled, Open, Looks, Narrowed, Trims, part, from_of, past_of, S, inward_of, runs, Ready, OpenIf, Along}
use Rattle.listing.proofs.laws.Ruled.{ruled_kept}
use Rattle.listing.proofs.laws.Turns.{inward_less}
use Rattle.listing.proofs.laws.Trimming.{ruled_trimmed}
use Rattle.listing.proofs.laws.Prefixes.{plain_length, push_prefix}
use Rattle.listing.proofs.laws.Course.{part_cons}
use Rattle.listing.proofs.laws.Steps.{runs_nil, runs_append}

-- ---- what a look below cur tells of the prefix one longer

module _ {b : List ℕ} {d : Row → Bool} {ns : Sizes} {room : List ℕ} {cur : Cursor} {levels fit : ℕ} {p st e : List ℕ} {s : Scanned} {v : ℕ} {next : Cursor}
    (plain : Plain cur) (y : Ready ns room cur levels fit) (z : 0 < levels) (a : Looks b d (prefix_of cur) p st e v s) (h : v < get_or ns cur.len 0) (n : next ≡ push_of cur v) where
  longer : prefix_of next ≡ prefix_of cur ++ (v ∷ [])
  longer = ap (λ (u : Cursor). prefix_of u) n ∙ push_prefix cur v plain (omega (arith, y.deep, y.limited.short))

  pub next_ready : (t : Bool) (k : ℕ) → k ≡ inward_of t levels → Ready ns room next k fit
  next_ready t k f = record { cells = y.cells; deep = omega (arith, y.deep, inward_less t levels (λ x. omega arith), f, ap (λ (u : Cursor). u.len) n); limited = y.limited }

  pub next_small : v < 64
  next_small = omega (arith, y.limited.few cur.len (omega (arith, y.deep)))

  pub next_dead : (i : ℕ) → i ≡ v → (t : Bool) → t ≡ forbidden s.allowed i → t ≡ d (prefix_of next)
  next_dead i e t u = u ∙ ap (forbidden s.allowed) e ∙ a.values v next_small ∙ ap d (sym longer)

  pub next_ruled : d (prefix_of next) ≡ false → Ruled b d (prefix_of next) p st e s.at s.rules
  next_ruled l = rw longer (a.next v (omega arith) (sym (ap d longer) ∙ l))

  -- with the run trimmed
  module _ (at k : ℕ) (t : Trims b s.at s.rules cur.len v at k) where
    trims : Trims b s.at s.rules (length (prefix_of cur)) v at k
    trims = rw (plain_length cur plain) t

    pub next_trimmed : d (prefix_of next) ≡ false → Ruled b d (prefix_of next) p st e at k
    next_trimmed l = rw longer (ruled_trimmed b d (prefix_of cur) p st e s.at s.rules at k v v trims (omega arith) (a.next v (omega arith) (sym (ap d longer) ∙ l)))

    -- the same look, for the values behind v
    pub looks_trimmed : (q : List ℕ) → Kept st e p q → (u : ℕ) → v < u → (r : Scanned) → r ≡ record { allowed = s.allowed; at = at; rules = k } → Looks b d (prefix_of cur) q st e u r
    looks_trimmed q o u m r f = rw f (record {
      values = a.values;
      stand = t.stand;
      next = λ w i l. ruled_kept b d (prefix_of cur ++ (w ∷ [])) st e at k p q o (ruled_trimmed b d (prefix_of cur) p st e s.at s.rules at k v w trims (omega arith) (a.next w (omega arith) l));
    })

  -- after its fronts are made shorter; it is gone into only if it is live
  module _ (at k : ℕ) (g : d (prefix_of next) ≡ false → Ruled b d (prefix_of next) p st e at k) where
    pub next_open : d (prefix_of next) ≡ false → (q f : List ℕ) → Narrowed b (prefix_of next) p st e q f → (m : ℕ) → length p ≤ m → Open b d (prefix_of next) q st f at k m
    next_open l q f w m o = record { ruled = w.ruled d at k (g l); live = l; laid = w.laid; hints = omega (arith, w.kept.long) }

    pub next_open_if : (i : ℕ) → i ≡ v → (t : Bool) → t ≡ forbidden s.allowed i → (j : ℕ) → j ≡ inward_of t levels
        → (q f : List ℕ) → Narrowed b (prefix_of next) p st e q f → (m : ℕ) → length p ≤ m → OpenIf b d (prefix_of next) q st f at k m j
    next_open_if i x t u j c q f w m o = record { opens = λ r. next_open (live r) q f w m o }
      where
        live : (j ≡ 0 → ⊥) → d (prefix_of next) ≡ false
        live r = go t (next_dead i x t u) c
          where
            go : (c : Bool) → c ≡ d (prefix_of next) → j ≡ inward_of c levels → d (prefix_of next) ≡ false
            go true c o = absurd (r o)
            go false c o = sym c

-- ---- the way along the cursor c, of which cur is the beginning

pub past_none : (d : Row → Bool) (ns : Sizes) (p c : Row) → d p ≡ true → past_of d ns p c ≡ []
past_none d [] p [] h = refl
past_none d (n ∷ ns) p [] h = rw h
past_none d [] p (v ∷ c) h = refl
past_none d (n ∷ ns) p (v ∷ c) h = rw h

-- c goes on behind cur with a value of the next setting
module _ {ns : Sizes} {o : List ℕ} {c cur : Cursor} {levels fit : ℕ} (y : Ready ns o cur levels fit) (a : Along ns c cur levels) (k : cur.len ≡ c.len → ⊥) where
  pub resume_small : (cur.len < 16) × (get_or c.values cur.len 0 < get_or ns cur.len 0) × (get_or c.values cur.len 0 < 64) × (0 < levels)
  resume_small =
      let f = a.fits cur.len (omega (arith, a.here)) in
      (omega (arith, y.deep, y.limited.short, a.here, a.deep), f, omega (arith, y.limited.few cur.len (omega (arith, y.deep, a.here, a.deep))), omega (arith, a.here, a.deep))

  pub resume_next : {next : Cursor} → next ≡ push_of cur (get_or c.values cur.len 0) → Ready ns o next (levels - 1) fit × Along ns c next (levels - 1)
  resume_next {next} n =
      let long : next.len ≡ cur.len + 1 = ap (λ (u : Cursor). u.len) n in (
        record { cells = y.cells; deep = omega (arith, y.deep, resume_small.3, long); limited = y.limited },
        record { plain = a.plain; here = omega (arith, a.here, long); deep = omega (arith, a.deep, resume_small.3, long); fits = a.fits },
      )

module _ (d : Row → Bool) (ns : Sizes) (c cur : Cursor) (levels fit budget : ℕ) (st : Walk) (o : List ℕ) where
  -- the whole, as the contract has it
  abbrev pub resume_of : S
  resume_of = runs d (length ns) fit budget (past_of d (part ns cur.len levels) (prefix_of cur) (drop cur.len (prefix_of c))) (st, o)

  -- nothing is below a dead prefix
  below_dead : (q : Cursor) (k : ℕ) → d (prefix_of q) ≡ true
      → ◌≡◌ {A = S} (st, o) (runs d (length ns) fit budget (past_of d (part ns q.len k) (prefix_of q) (drop q.len (prefix_of c))) (st, o))
  below_dead q k h =
      sym (runs_nil d (length ns) fit budget (st, o))
      ∙ ap (λ (L : List Row). runs d (length ns) fit budget L (st, o)) (sym (past_none d (part ns q.len k) (prefix_of q) (drop q.len (prefix_of c)) h))

  module _ (plain : Plain cur) (y : Ready ns o cur levels fit) (a : Along ns c cur levels) (live : d (prefix_of cur) ≡ false) where
    module _ (k : cur.len ≡ c.len → ⊥) where
      module _ (next : Cursor) (n : next ≡ push_of cur (get_or c.values cur.len 0)) where
        abbrev v : ℕ
        v = get_or c.values cur.len 0

        -- what is below c's own next value, then from the value after it on
        pub resume_on : (w : Walk) (o₁ : List ℕ)
            → ◌≡◌ {A = S} (w, o₁) (runs d (length ns) fit budget (past_of d (part ns next.len (levels - 1)) (prefix_of next) (drop next.len (prefix_of c))) (st, o))
            → (r : Walk) (o₂ : List ℕ) → ◌≡◌ {A = S} (r, o₂) (runs d (length ns) fit budget (from_of d (part ns cur.len levels) (prefix_of cur) (v + 1)) (w, o₁))
            → ◌≡◌ {A = S} (r, o₂) resume_of
        resume_on w o₁ m r o₂ q =
            let small = resume_small y a k in
            let long : next.len ≡ cur.len + 1 = ap (λ (u : Cursor). u.len) n in
            let deeper : Sizes = part ns (cur.len + 1) (levels - 1) in
            let x : prefix_of next ≡ prefix_of cur ++ (v ∷ []) = ap (λ (u : Cursor). prefix_of u) n ∙ push_prefix cur v plain small.0 in
            let lc = plain_length c a.plain in
            let in_c : cur.len < c.len = omega (arith, a.here) in
            let cons : drop cur.len (prefix_of c) ≡ v ∷ drop (cur.len + 1) (prefix_of c) =
            drop-cons (prefix_of c) cur.len 0 (omega arith) ∙ rw (get_or-take c.len c.values cur.len 0 in_c, add-one cur.len) in
            let sizes : part ns cur.len levels ≡ get_or ns cur.len 0 ∷ deeper = part_cons ns cur.len levels (omega (arith, small.3)) in
            let m' : ◌≡◌ {A = S} (w, o₁) (runs d (length ns) fit budget (past_of d deeper (prefix_of cur ++ (v ∷ [])) (drop (cur.len + 1) (prefix_of c))) (st, o)) =
            m ∙ ap (λ (i : ℕ). runs d (length ns) fit budget (past_of d (part ns i (levels - 1)) (prefix_of next) (drop i (prefix_of c))) (st, o)) long
            ∙ ap (λ (u : Row). runs d (length ns) fit budget (past_of d deeper u (drop (cur.len + 1) (prefix_of c))) (st, o)) x in
            let split : past_of d (part ns cur.len levels) (prefix_of cur) (drop cur.len (prefix_of c))
            ≡ past_of d deeper (prefix_of cur ++ (v ∷ [])) (drop (cur.len + 1) (prefix_of c)) ++ from_of d (part ns cur.len levels) (prefix_of cur) (v + 1) =
            rw (cons, sizes, live, add-one v) in
            q ∙ ap (λ (t : S). runs d (length ns) fit budget (from_of d (part ns cur.len levels) (prefix_of cur) (v + 1)) t) m'
            ∙ sym (runs_append d (length ns) fit budget (past_of d deeper (prefix_of cur ++ (v ∷ [])) (drop (cur.len + 1) (prefix_of c))) (from_of d (part ns cur.len levels) (prefix_of cur) (v + 1)) (st, o))
            ∙ ap (λ (L : List Row). runs d (length ns) fit budget L (st, o)) (sym split)

        -- that value is dead: nothing is below it
        pub resume_skip : d (prefix_of next) ≡ true
            → (r : Walk) (o₂ : List ℕ) → ◌≡◌ {A = S} (r, o₂) (runs d (length ns) fit budget (from_of d (part ns cur.len levels) (prefix_of cur) (v + 1)) (st, o))
            → ◌≡◌ {A = S} (r, o₂) resume_of
        resume_skip h r o₂ q = resume_on st o (below_dead next (levels - 1) h) r o₂ q
