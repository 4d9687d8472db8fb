-- Prefixes: a plain cursor is the one cursor of its prefix, as every good one is; and a prefix that is one value longer.
use Prim.Native.Nat.{ℕ, zero, suc, ◌+◌, ◌-◌, ◌≤◌, ◌<◌}
use native.Mathlib.Omega.{arith}
use mathlib.Core.Path.{◌≡◌, refl, sym, ap, ◌∙◌}
use mathlib.Core.Bool.{Bool, true, false, ◌&&◌}
use mathlib.Core.List.{List, [], ◌∷◌, ◌++◌}
use lib.Dec.{T, leb, ltb, eqb, leb→le, eqb→eq}
use lib.ListN.{length, length-append, length-drop, get_or, drop, replicate, length-replicate, take-append-drop}
use lib.Seq.{set-append_seam, take-append_seam, append_snoc, length-take-le}
use borrow.Author.Tests.{le-ltb}
use Rattle.meaning.specs.Rows.{Row, Sizes, begins}
use Rattle.meaning.proofs.Tests.{and_l, and_r, yes_of, is_yes}
use Rattle.meaning.proofs.Visited.{begins_nil, begins_none, begins_cons}
use Rattle.listing.specs.declared.cursor.Cursor.{Cursor}
use Rattle.listing.specs.Cursors.{prefix_of, cursor_of, all_zero, fits, clean, cursor_ok}
use Rattle.listing.specs.Inner.{Plain, push_of, Good}

-- ---- the cursor of a prefix

pub prefix_cursor : (p : Row) → prefix_of (cursor_of p) ≡ p
unfolding cursor_of
prefix_cursor p = take-append_seam p (replicate (16 - length p) 0)

pub cursor_len : (p : Row) → (cursor_of p).len ≡ length p
unfolding cursor_of
cursor_len p = refl

pub plain_cursor : (p : Row) → length p ≤ 16 → Plain (cursor_of p)
unfolding cursor_of
plain_cursor p h = record { short = h; same = rw (prefix_cursor p) }

pub plain_length : (c : Cursor) → Plain c → length (prefix_of c) ≡ c.len
unfolding cursor_of
plain_length c p = sym (ap (λ (x : Cursor). x.len) p.same)

pub plain_values : (c : Cursor) → Plain c → length c.values ≡ 16
unfolding cursor_of
plain_values c p =
    let e = ap (λ (x : Cursor). length x.values) p.same in
    let l = plain_length c p in
    let s = p.short in
    omega (arith, e, length-append (prefix_of c) (replicate (16 - length (prefix_of c)) 0), length-replicate {A = ℕ} (16 - length (prefix_of c)) 0)

-- ---- one value longer

push_cursor : (p : Row) (v : ℕ) → length p < 16 → push_of (cursor_of p) v ≡ cursor_of (p ++ (v ∷ []))
unfolding cursor_of
push_cursor p v h =
    let l : length (p ++ (v ∷ [])) ≡ length p + 1 = length-append p (v ∷ []) in
    let e : 16 - length p ≡ suc (16 - (length p + 1)) = omega arith in
    rw (l, e, set-append_seam, append_snoc)

module _ (c : Cursor) (v : ℕ) (p : Plain c) (h : c.len < 16) where
  pub push_same : push_of c v ≡ cursor_of (prefix_of c ++ (v ∷ []))
  push_same = ap (λ (x : Cursor). push_of x v) p.same ∙ push_cursor (prefix_of c) v (omega (arith, plain_length c p))

  pub push_prefix : prefix_of (push_of c v) ≡ prefix_of c ++ (v ∷ [])
  push_prefix = ap (λ (x : Cursor). prefix_of x) push_same ∙ prefix_cursor (prefix_of c ++ (v ∷ []))

  pub push_plain : Plain (push_of c v)
  push_plain = rw push_same (plain_cursor (prefix_of c ++ (v ∷ [])) (omega (arith, length-append (prefix_of c) (v ∷ []), plain_length c p)))

-- ---- a good cursor

zeros : (xs : List ℕ) → T (all_zero xs) → xs ≡ replicate (length xs) 0
unfolding all_zero
zeros [] t = refl
zeros (x ∷ xs) t =
    let e = eqb→eq x 0 (and_l (eqb x 0) (all_zero xs) t) in
    let f = zeros xs (and_r (eqb x 0) (all_zero xs) t) in
    cc

plain_clean : (c : Cursor) → length c.values ≡ 16 → c.len ≤ 16 → T (clean c) → Plain c
unfolding clean cursor_of
plain_clean c e h t =
    let l : length (prefix_of c) ≡ c.len = length-take-le c.len c.values (omega arith) in
    let k : length (drop c.len c.values) ≡ 16 - length (prefix_of c) = omega (arith, length-drop c.len c.values) in
    let v : c.values ≡ prefix_of c ++ replicate (16 - length (prefix_of c)) 0 =
    sym (take-append-drop c.len c.values) ∙ ap (λ (z : List ℕ). prefix_of c ++ z) (zeros (drop c.len c.values) t) ∙ rw k in
    record { short = h; same = λ i. record { len = sym l i; values = v i } }

pub good_of : (ns : Sizes) (c : Cursor) → length ns ≤ 16 → length c.values ≡ 16 → cursor_ok ns c ≡ true → Good ns c
unfolding cursor_ok fits
good_of ns c s e k =
    let t = yes_of (cursor_ok ns c) k in
    let u = and_r (leb c.len (length ns)) (fits ns c && clean c) t in
    let d = leb→le c.len (length ns) (and_l (leb c.len (length ns)) (fits ns c && clean c) t) in
    record { plain = plain_clean c e (omega arith) (and_r (fits ns c) (clean c) u); deep = d; fits = and_l (fits ns c) (clean c) u }

-- ---- prefixes within the sizes

pub begins_length : (ns : Sizes) (p : Row) → T (begins ns p) → length p ≤ length ns
begins_length ns [] t = omega arith
begins_length [] (v ∷ p) t = absurd (begins_none v p t)
begins_length (n ∷ ns) (v ∷ p) t = omega (arith, begins_length ns p ((begins_cons n ns v p).0 t).1)

pub begins_at : (ns : Sizes) (p : Row) → T (begins ns p) → (i : ℕ) → i < length p → get_or p i 0 < get_or ns i 0
begins_at ns [] t i h = absurd (omega arith)
begins_at [] (v ∷ p) t i h = absurd (begins_none v p t)
begins_at (n ∷ ns) (v ∷ p) t zero h = ((begins_cons n ns v p).0 t).0
begins_at (n ∷ ns) (v ∷ p) t (suc i) h = begins_at ns p ((begins_cons n ns v p).0 t).1 i (omega arith)

pub begins_longer : (ns : Sizes) (p : Row) (v : ℕ) → T (begins ns p) → begins ns (p ++ (v ∷ [])) ≡ ltb v (get_or ns (length p) 0)
unfolding begins
begins_longer [] [] v t = sym (le-ltb v 0 (omega arith))
begins_longer (n ∷ ns) [] v t = rw (and_true' (ltb v n))
  where
    and_true' : (b : Bool) → b && true ≡ b
    and_true' true = refl
    and_true' false = refl
begins_longer [] (u ∷ p) v t = absurd t
begins_longer (n ∷ ns) (u ∷ p) v t =
    rw (is_yes (ltb u n) (and_l (ltb u n) (begins ns p) t)) (begins_longer ns p v (and_r (ltb u n) (begins ns p) t))

pub begins_shorter : (ns : Sizes) (p : Row) (v : ℕ) → T (begins ns (p ++ (v ∷ []))) → T (begins ns p)
begins_shorter ns [] v t = begins_nil ns
begins_shorter [] (u ∷ p) v t = absurd (begins_none u (p ++ (v ∷ [])) t)
begins_shorter (n ∷ ns) (u ∷ p) v t =
    let s = (begins_cons n ns u (p ++ (v ∷ []))).0 t in
    (begins_cons n ns u p).1 (s.0, begins_shorter ns p v s.1)
