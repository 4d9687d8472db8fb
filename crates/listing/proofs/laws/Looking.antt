-- Looking: which values may follow a live prefix: the front of one group is asked, entry by entry, and then the run of rules.
use Prim.Native.Nat.{ℕ, zero, suc, ◌+◌, ◌*◌, ◌-◌, ◌≤◌, ◌<◌}
use native.Mathlib.Omega.{arith}
use mathlib.Core.Path.{◌≡◌, refl, sym, ap, ◌∙◌}
use mathlib.Core.Bool.{Bool, true, false, ◌||◌, or-true, and-false, true≢false}
use mathlib.Core.Logic.{◌⊎◌, inl, inr}
use mathlib.Core.List.{List, [], ◌∷◌, ◌++◌, append-nil, append_assoc}
use lib.ListN.{length, get_or}
use lib.Seq.{append_snoc, get_or-take}
use Rattle.literals.specs.Inner.{holds_by}
use Rattle.meaning.specs.Rows.{Row, at}
use Rattle.meaning.specs.Rules.{holds, met}
use Rattle.meaning.specs.Bytes.{literal_at, literals_at, rule_at, rules_at}
use Rattle.meaning.specs.Listing.{dead, decided}
use Rattle.meaning.proofs.Tests.{case, is, isnt}
use Rattle.meaning.proofs.Dead.{holds_prefix}
use Rattle.meaning.proofs.Literals.{literal_setting_is}
use Rattle.listing.specs.declared.cursor.Cursor.{Cursor}
use Rattle.listing.specs.declared.scan.Scanned.{Scanned}
use Rattle.listing.specs.Cursors.{prefix_of}
use Rattle.listing.specs.Inner.{Plain, forbidden, Window, Scans, Hit, Ruled, Shows, Asks, Askable, Asked, Open, Looks}
use Rattle.listing.proofs.laws.Prefixes.{plain_length}
use Rattle.literals.proofs.laws.Holding.{holds_by_literal}
use Rattle.listing.proofs.laws.Judging.{dead_one}
use Rattle.listing.proofs.laws.Values.{every, every_open}

-- ---- one literal that holds shows that the rule is met

pub met_at : (b : List ℕ) (p k j : ℕ) (z : Row) → j < k → holds (literal_at b (p + 3 * j)) z ≡ true → met (literals_at b p k) z ≡ true
unfolding literals_at met
met_at b p zero j z h e = absurd (omega arith)
met_at b p (suc k) zero z h e = let q : p + 3 * 0 ≡ p = omega arith in rw (rw q at e)
met_at b p (suc k) (suc j) z h e =
    let q : p + 3 * suc j ≡ p + 3 + 3 * j = omega arith in
    rw (met_at b (p + 3) k j z (omega arith) (rw q at e)) (or-true (holds (literal_at b p) z))

pub never_dead : (b : List ℕ) (p : ℕ) (z : Row) → met (rule_at b p) z ≡ true → dead (rule_at b p ∷ []) z ≡ false
never_dead b p z m = dead_one (rule_at b p) z ∙ rw m (and-false (decided (length z) (rule_at b p)))

module _ (b : List ℕ) (p : ℕ) (c : Cursor) (plain : Plain c) (hint count : ℕ) where
  pub shows_by : (hint ≡ 0 → ⊥) → count ≡ get_or b (p + 2) 0 → hint ≤ count → (i : ℕ) → i ≡ get_or b (p + 3 * hint) 0 → i < c.len
      → (r : Bool) → r ≡ holds_by (get_or b (p + 3 * hint + 1) 0) (get_or b (p + 3 * hint + 2) 0) (get_or c.values i 0) → Shows b p (prefix_of c) r
  shows_by h e k i f l r g = record { met_by = λ t y. by t y }
    where
      told : r ≡ holds (literal_at b (p + 3 * hint)) (prefix_of c)
      told =
          g ∙ ap (holds_by (get_or b (p + 3 * hint + 1) 0) (get_or b (p + 3 * hint + 2) 0)) (sym (get_or-take c.len c.values i 0 l) ∙ ap (at (prefix_of c)) f)
          ∙ holds_by_literal (get_or b (p + 3 * hint + 1) 0) (get_or b (p + 3 * hint) 0) (get_or b (p + 3 * hint + 2) 0) (prefix_of c)

      by : r ≡ true → (y : Row) → met (rule_at b p) (prefix_of c ++ y) ≡ true
      by t y =
          let s = literal_setting_is (get_or b (p + 3 * hint + 1) 0) (get_or b (p + 3 * hint) 0) (get_or b (p + 3 * hint + 2) 0) in
          let here : holds (literal_at b (p + 3 * hint)) (prefix_of c ++ y) ≡ true = holds_prefix (literal_at b (p + 3 * hint)) (prefix_of c) y (omega (arith, s, plain_length c plain)) ∙ sym told ∙ t in
          let place : p + 3 * hint ≡ p + 3 + 3 * (hint - 1) = omega arith in
          met_at b (p + 3) (get_or b (p + 2) 0) (hint - 1) (prefix_of c ++ y) (omega arith) (rw place at here)

-- ---- one entry

module _ (b : List ℕ) (p : ℕ) (x : Row) (old : ℕ) where
  pub asks_still : (r : Bool) → Shows b p x r → r ≡ true → Asks b p x old old
  asks_still r s t = record { is = λ v h. sym (ap (λ (u : Bool). u || forbidden old v) (never_dead b p (x ++ (v ∷ [])) (s.met_by t (v ∷ [])))) }

-- ---- the entries from lo up to below hi

pub record Asking (b : List ℕ) (x : Row) (p : List ℕ) (lo hi n m set i : ℕ) : Type 0 where
  pub above : lo ≤ i
  pub under : i ≤ hi
  pub long : m ≡ n
  pub done : Asked b x p lo i set

pub asking_start : (b : List ℕ) (x : Row) (p : List ℕ) (lo hi n : ℕ) → Askable b x p lo hi n → Asking b x p lo hi n n every lo
asking_start b x p lo hi n a = record {
  above = omega arith;
  under = a.low;
  long = refl;
  done = record {
    missing = λ v h e. absurd (true≢false (sym e ∙ every_open v h));
    all = λ v h k. absurd (omega (arith, k.above, k.under));
  };
}

-- ---- the whole look

module _ (b : List ℕ) (d : Row → Bool) (x : Row) (p s e : List ℕ) (at k n : ℕ) (o : Open b d x p s e at k n) where
  abbrev dr : Row → Bool
  dr = dead (rules_at b at k)

  absent : (t : Bool) → (t ≡ true → ⊥) → t ≡ false
  absent true f = absurd (f refl)
  absent false f = refl

  pub open_run : dr x ≡ false
  open_run = absent (dr x) (λ t. true≢false (sym (rw (append-nil x) at (o.ruled.tells [] (rw (append-nil x) t))) ∙ o.live))

  pub open_window : Window b dr x at k
  open_window = record { few = o.ruled.few; stand = o.ruled.stand; tells = λ y. refl }

  module _ (short : length x < 16) where
    pub open_askable : Askable b x p (get_or s (length x) 0) (get_or e (length x) 0) n
    open_askable = record {
      inside = omega (arith, o.laid.front (length x) short, o.laid.inside (length x) short);
      hints = omega (arith, o.laid.front (length x) short, o.laid.inside (length x) short, o.hints);
      low = o.laid.low (length x) short;
      entries = λ i h m. let t = o.ruled.entries (length x) i short h m in (t.stands, absent (dead (rule_at b (get_or p i 0) ∷ []) x) (λ u. true≢false (sym (t.tells x u) ∙ o.live)));
    }

    pub looks_of : (set : ℕ) → Asked b x p (get_or s (length x) 0) (get_or e (length x) 0) set → (r : Scanned) → Scans b dr x set r → Looks b d x p s e 0 r
    looks_of set a r c = record { values = λ v h. values v h; stand = c.stand; next = λ v o l. next v l }
      where
        values : (v : ℕ) → v < 64 → forbidden r.allowed v ≡ d (x ++ (v ∷ []))
        values v h = elim (case (d (x ++ (v ∷ [])))) [
          | is t ↦ rw t (elim (rw (append-nil x) at (o.ruled.covers [] v (rw (append-nil x) short) (rw (append-nil x) o.live) (rw (append-nil x) t))) [
            | inl u ↦ c.values v h ∙ ap (λ (w : Bool). dr (x ++ (v ∷ [])) || w) (a.all v h (record { at = u.at; above = u.above; under = u.under; kills = u.kills })) ∙ or-true (dr (x ++ (v ∷ [])))
            | inr u ↦ c.values v h ∙ ap (λ (w : Bool). w || forbidden set v) u
          ])
          | isnt t ↦ rw t (absent (forbidden r.allowed v) (λ u. elim (case (dr (x ++ (v ∷ [])))) [
            | is w ↦ true≢false (sym (o.ruled.tells (v ∷ []) w) ∙ t)
            | isnt w ↦
                let m = a.missing v h (sym (rw w at (c.values v h)) ∙ u) in
                true≢false (sym ((o.ruled.entries (length x) m.at short m.above m.under).tells (x ++ (v ∷ [])) m.kills) ∙ t)
          ]))
        ]

        next : (v : ℕ) → d (x ++ (v ∷ [])) ≡ false → Ruled b d (x ++ (v ∷ [])) p s e r.at r.rules
        next v l =
            let w = c.window v (absent (dr (x ++ (v ∷ []))) (λ t. true≢false (sym (o.ruled.tells (v ∷ []) t) ∙ l))) in
            record {
              few = w.few;
              stand = w.stand;
              tells = λ y t. rw (append_snoc x v y) (o.ruled.tells (v ∷ y) (rw (append_snoc x v y) at (w.tells y ∙ t)));
              entries = o.ruled.entries;
              covers = λ y u h i m. covers w y u h i m;
            }
          where
            covers : Window b dr (x ++ (v ∷ [])) r.at r.rules → (y : Row) (u : ℕ) → length ((x ++ (v ∷ [])) ++ y) < 16 → d ((x ++ (v ∷ [])) ++ y) ≡ false → d (((x ++ (v ∷ [])) ++ y) ++ (u ∷ [])) ≡ true
                → Hit b p s e (length ((x ++ (v ∷ [])) ++ y)) (((x ++ (v ∷ [])) ++ y) ++ (u ∷ [])) ⊎ (dead (rules_at b r.at r.rules) (((x ++ (v ∷ [])) ++ y) ++ (u ∷ [])) ≡ true)
            covers w y u h i m = elim (rw (sym (append_snoc x v y)) at (o.ruled.covers (v ∷ y) u (rw (append_snoc x v y) at h) (rw (append_snoc x v y) at i) (rw (append_snoc x v y) at m))) [
              | inl t ↦ inl t
              | inr t ↦ inr (rw (append_assoc (x ++ (v ∷ [])) y (u ∷ [])) (sym (w.tells (y ++ (u ∷ []))) ∙ (rw (append_assoc (x ++ (v ∷ [])) y (u ∷ [])) at t)))
            ]

-- the same by the length of a cursor's prefix, and by the bounds of its group's front
module _ (b : List ℕ) (d : Row → Bool) (c : Cursor) (plain : Plain c) (short : c.len < 16) (p s e : List ℕ) (at k n : ℕ) (o : Open b d (prefix_of c) p s e at k n)
    (lo hi : ℕ) (f : lo ≡ get_or s c.len 0) (g : hi ≡ get_or e c.len 0) where
  pub look_askable : Askable b (prefix_of c) p lo hi n
  look_askable = rw (f, g) (rw (plain_length c plain) at (open_askable b d (prefix_of c) p s e at k n o (omega (arith, plain_length c plain))))

  pub look_looks : (set : ℕ) → Asked b (prefix_of c) p lo hi set → (r : Scanned) → Scans b (dead (rules_at b at k)) (prefix_of c) set r → Looks b d (prefix_of c) p s e 0 r
  look_looks set a r q = looks_of b d (prefix_of c) p s e at k n o (omega (arith, plain_length c plain)) set (rw (plain_length c plain) (rw (f, g) at a)) r q
