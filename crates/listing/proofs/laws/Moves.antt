-- Moves: what each way out of a cursor's move gives is the cursor of the prefix that the move is to, or the same cursor.
use Prim.Native.Nat.{ℕ, suc, ◌+◌, ◌-◌, ◌≤◌, ◌<◌}
use native.Mathlib.Omega.{arith}
use mathlib.Core.Path.{◌≡◌, refl, sym, ap, ◌∙◌}
use mathlib.Core.Bool.{Bool, true, false}
use mathlib.Core.List.{[], ◌∷◌, ◌++◌}
use lib.Dec.{T, ltb, ltb→lt}
use lib.ListN.{length, length-append, get_or, take, set, replicate, get_or-eq_default}
use lib.Seq.{set-append_seam, append_snoc, take-suc, length-take-le}
use borrow.Author.Tests.{lt-ltb, le-ltb}
use Rattle.meaning.specs.Inner.{Sized}
use Rattle.meaning.proofs.Tests.{yes_of, is_yes}
use Rattle.meaning.specs.Rows.{Row, Sizes, alike, begins, limits}
use Rattle.meaning.proofs.Alike.{alike_lent}
use Rattle.listing.specs.declared.cursor.Cursor.{Cursor}
use Rattle.listing.specs.declared.cursor.Move.{Move}
use Rattle.listing.specs.declared.cursor.Move.TheVariants.{Down, Along, Up}
use Rattle.meaning.proofs.Limits.{limits_known}
use Rattle.listing.specs.Inner.{Tested, Good}
use Rattle.listing.specs.Cursors.{prefix_of, cursor_of, cursor_ok, next_value, one_shorter, move_to, down_in, along_in, up_in, moved_in, down_of, along_of, up_of, moved_of}
use Rattle.listing.proofs.laws.Prefixes.{plain_length, good_of, begins_longer, begins_shorter}

-- ---- a prefix that ends in v

next_last : (p : Row) (v : ℕ) → next_value (p ++ (v ∷ [])) ≡ p ++ ((v + 1) ∷ [])
next_last [] v = refl
next_last (u ∷ []) v = refl
next_last (u ∷ w ∷ p) v = ap (λ (x : Row). u ∷ x) (next_last (w ∷ p) v)

shorter_last : (p : Row) (v : ℕ) → one_shorter (p ++ (v ∷ [])) ≡ p
shorter_last [] v = refl
shorter_last (u ∷ []) v = refl
shorter_last (u ∷ w ∷ p) v = ap (λ (x : Row). u ∷ x) (shorter_last (w ∷ p) v)

module _ (ns : Sizes) (c : Cursor) (limited : Sized ns) (b : Bool) (t : Tested ns c b) where
  -- a bad cursor does not move, to whatever prefix
  pub move_bad : b ≡ false → (p : Row) → c ≡ move_to ns c p
  unfolding move_to
  move_bad n p = rw (sym t.is ∙ n)

  pub moved_bad : b ≡ false → (m : Move) → c ≡ moved_in ns c m
  moved_bad n Down = move_bad n _
  moved_bad n Along = move_bad n _
  moved_bad n Up = move_bad n _

  module _ (n : b ≡ true) where
    ok : cursor_ok ns c ≡ true
    ok = sym t.is ∙ n

    sixteen : length c.values ≡ 16
    sixteen = t.sixteen n

    good : Good ns c
    good = good_of ns c limited.short sixteen ok

    to : (p : Row) → begins ns p ≡ true → move_to ns c p ≡ cursor_of p
    unfolding move_to
    to p h = rw (ok, h)

    stay : (p : Row) → begins ns p ≡ false → c ≡ move_to ns c p
    unfolding move_to
    stay p h = rw (ok, h)

    longer : begins ns (prefix_of c ++ (0 ∷ [])) ≡ ltb 0 (get_or ns c.len 0)
    longer = begins_longer ns (prefix_of c) 0 good.fits ∙ ap (λ (k : ℕ). ltb 0 (get_or ns k 0)) (plain_length c good.plain)

    -- ---- down

    -- one more is still a number
    pub down_fits : c.len < 16 + 1
    down_fits = omega (arith, good.plain.short)

    pub down_full : c.len ≡ length ns → c ≡ down_in ns c
    down_full e =
        let z : get_or ns c.len 0 ≡ 0 = get_or-eq_default ns 0 {n = c.len} (omega arith) in
        stay (prefix_of c ++ (0 ∷ [])) (longer ∙ le-ltb 0 (get_or ns c.len 0) (omega arith))

    down_zero : (p : Row) → length p < 16 → ◌≡◌ {A = Cursor} (record { len = (cursor_of p).len + 1; values = (cursor_of p).values }) (cursor_of (p ++ (0 ∷ [])))
    unfolding cursor_of
    down_zero p h =
        let l : length (p ++ (0 ∷ [])) ≡ length p + 1 = length-append p (0 ∷ []) in
        let e : 16 - length p ≡ suc (16 - (length p + 1)) = omega arith in
        rw (l, e, append_snoc)

    pub down_on : (c.len ≡ length ns → ⊥) → ◌≡◌ {A = Cursor} (record { len = c.len + 1; values = c.values }) (down_in ns c)
    down_on h =
        let k : c.len < length ns = omega (arith, good.deep) in
        ap (λ (x : Cursor). record { len = x.len + 1; values = x.values }) good.plain.same
        ∙ down_zero (prefix_of c) (omega (arith, limited.short, plain_length c good.plain))
        ∙ sym (to (prefix_of c ++ (0 ∷ [])) (longer ∙ lt-ltb 0 (get_or ns c.len 0) (limited.some c.len k)))

    -- ---- along and up: from the beginning there is no way

    start : c.len ≡ 0 → c ≡ cursor_of []
    start e = good.plain.same ∙ ap cursor_of (ap (λ (k : ℕ). take k c.values) e)

    pub along_start : c.len ≡ 0 → c ≡ along_in ns c
    unfolding begins
    along_start e = start e ∙ sym (ap (λ (k : ℕ). move_to ns c (next_value (take k c.values))) e ∙ to [] refl)

    pub up_start : c.len ≡ 0 → c ≡ up_in ns c
    unfolding begins
    up_start e = start e ∙ sym (ap (λ (k : ℕ). move_to ns c (one_shorter (take k c.values))) e ∙ to [] refl)

    -- ---- from q and v, which is the last

    module _ (h : c.len ≡ 0 → ⊥) where
      abbrev q : Row
      q = take (c.len - 1) c.values

      abbrev v : ℕ
      v = get_or c.values (c.len - 1) 0

      ends : prefix_of c ≡ q ++ (v ∷ [])
      ends =
          let e : c.len ≡ suc (c.len - 1) = omega arith in
          ap (λ (k : ℕ). take k c.values) e ∙ take-suc c.values (c.len - 1) 0 (omega (arith, sixteen, good.plain.short))

      q_length : length q ≡ c.len - 1
      q_length = length-take-le (c.len - 1) c.values (omega (arith, sixteen, good.plain.short))

      q_begins : T (begins ns q)
      q_begins = begins_shorter ns q v (rw ends at good.fits)

      -- the value is one of its setting's
      pub last_known : (c.len - 1 < length ns) × (v < get_or ns (c.len - 1) 0) × (get_or ns (c.len - 1) 0 ≤ 64) × (c.len - 1 < 16)
      last_known =
          let b : begins ns (q ++ (v ∷ [])) ≡ true = is_yes (begins ns (q ++ (v ∷ []))) (rw ends at good.fits) in
          let k : c.len - 1 < length ns = omega (arith, good.deep) in
          (k, ltb→lt v (get_or ns (c.len - 1) 0) (yes_of _ (ap (λ (i : ℕ). ltb v (get_or ns i 0)) (sym q_length) ∙ sym (begins_longer ns q v q_begins) ∙ b)), limited.few (c.len - 1) k, omega (arith, limited.short))

      next : begins ns (next_value (prefix_of c)) ≡ ltb (v + 1) (get_or ns (c.len - 1) 0)
      next = ap (λ (x : Row). begins ns (next_value x)) ends ∙ ap (begins ns) (next_last q v) ∙ begins_longer ns q (v + 1) q_begins
          ∙ ap (λ (i : ℕ). ltb (v + 1) (get_or ns i 0)) q_length

      pub along_last : get_or ns (c.len - 1) 0 ≤ v + 1 → c ≡ along_in ns c
      along_last k = stay (next_value (prefix_of c)) (next ∙ le-ltb (v + 1) (get_or ns (c.len - 1) 0) k)

      -- the cursor of q and w is c with w at its last place
      with_last : (w : ℕ) → ◌≡◌ {A = Cursor} (record { len = c.len; values = set c.values (c.len - 1) w }) (cursor_of (q ++ (w ∷ [])))
      unfolding cursor_of
      with_last w =
          let e : c ≡ cursor_of (q ++ (v ∷ [])) = good.plain.same ∙ ap cursor_of ends in
          let l : c.len - 1 ≡ length q = sym q_length in
          let lw : length (q ++ (w ∷ [])) ≡ length (q ++ (v ∷ [])) = length-append q (w ∷ []) ∙ sym (length-append q (v ∷ [])) in
          ap (λ (i : ℕ). record { len = c.len; values = set c.values i w }) l
          ∙ ap (λ (x : Cursor). record { len = x.len; values = set x.values (length q) w }) e
          ∙ rw (lw, append_snoc, set-append_seam, append_snoc)

      pub along_on : v + 1 < get_or ns (c.len - 1) 0
          → ◌≡◌ {A = Cursor} (record { len = c.len; values = set c.values (c.len - 1) (v + 1) }) (along_in ns c)
      along_on k =
          with_last (v + 1) ∙ sym (ap cursor_of (next_last q v)) ∙ sym (ap (λ (x : Row). cursor_of (next_value x)) ends)
          ∙ sym (to (next_value (prefix_of c)) (next ∙ lt-ltb (v + 1) (get_or ns (c.len - 1) 0) k))

      -- the cursor of q is that of q and 0, one shorter
      without_last : ◌≡◌ {A = Cursor} (record { len = (cursor_of (q ++ (0 ∷ []))).len - 1; values = (cursor_of (q ++ (0 ∷ []))).values }) (cursor_of q)
      unfolding cursor_of
      without_last =
          let l : length (q ++ (0 ∷ [])) ≡ length q + 1 = length-append q (0 ∷ []) in
          let s : length q + 1 - 1 ≡ length q = omega arith in
          let e : 16 - length q ≡ suc (16 - (length q + 1)) = omega (arith, q_length, good.plain.short) in
          rw (l, s, e, append_snoc)

      pub up_on : ◌≡◌ {A = Cursor} (record { len = c.len - 1; values = set c.values (c.len - 1) 0 }) (up_in ns c)
      up_on =
          let s : one_shorter (prefix_of c) ≡ q = ap one_shorter ends ∙ shorter_last q v in
          ap (λ (x : Cursor). record { len = x.len - 1; values = x.values }) (with_last 0)
          ∙ without_last ∙ sym (ap cursor_of s)
          ∙ sym (to (one_shorter (prefix_of c)) (is_yes (begins ns (one_shorter (prefix_of c))) (rw s q_begins)))

-- ---- the moves of edition 1

module _ (n l : ℕ) (c : Cursor) (m : Move) (b : Bool) (e : b ≡ limits n l) where
  pub moved_outside : b ≡ false → c ≡ moved_of n l c m
  unfolding moved_of
  moved_outside h = rw (sym e ∙ h)

  pub moved_lent : b ≡ true → (r : Cursor) → r ≡ moved_in (take l (replicate 16 n)) c m → r ≡ moved_of n l c m
  unfolding moved_of
  moved_lent h r g = g ∙ ap (λ (ns : Sizes). moved_in ns c m) (alike_lent n l (limits_known n l b e h).narrow) ∙ sym (rw (sym e ∙ h))

-- the same of each move by its name
module _ (n l : ℕ) (c : Cursor) (b : Bool) (e : b ≡ limits n l) where
  pub down_outside : b ≡ false → c ≡ down_of n l c
  unfolding down_of
  down_outside h = rw (sym e ∙ h)

  pub along_outside : b ≡ false → c ≡ along_of n l c
  unfolding along_of
  along_outside h = rw (sym e ∙ h)

  pub up_outside : b ≡ false → c ≡ up_of n l c
  unfolding up_of
  up_outside h = rw (sym e ∙ h)

  module _ (h : b ≡ true) (m : ℕ) (f : m ≡ n) (r : Cursor) where
    lent : take l (replicate 16 m) ≡ alike n l
    lent = rw (f, alike_lent n l (limits_known n l b e h).narrow)

    pub down_lent : r ≡ down_in (take l (replicate 16 m)) c → r ≡ down_of n l c
    unfolding down_of
    down_lent g = g ∙ ap (λ (ns : Sizes). down_in ns c) lent ∙ sym (rw (sym e ∙ h))

    pub along_lent : r ≡ along_in (take l (replicate 16 m)) c → r ≡ along_of n l c
    unfolding along_of
    along_lent g = g ∙ ap (λ (ns : Sizes). along_in ns c) lent ∙ sym (rw (sym e ∙ h))

    pub up_lent : r ≡ up_in (take l (replicate 16 m)) c → r ≡ up_of n l c
    unfolding up_of
    up_lent g = g ∙ ap (λ (ns : Sizes). up_in ns c) lent ∙ sym (rw (sym e ∙ h))
