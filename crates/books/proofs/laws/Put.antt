-- Put: bytes written over others from a place on, and the loop of a crate above that does it.
use Prim.Native.Nat.{ℕ, ◌+◌, ◌≤◌, ◌<◌}
use native.Mathlib.Nat.{add-zero, zero-add}
use native.Mathlib.Numerals.{add-one}
use native.Mathlib.Omega.{arith}
use mathlib.Core.Path.{◌≡◌, sym, ap, ◌∙◌}
use mathlib.Core.List.{List, [], ◌++◌, append_assoc}
use lib.ListN.{length, get_or, take, drop, set, length-append, length-take, length-drop, length-set, take-append-drop}
use lib.Seq.{take_at, take-length, drop_at, drop-drop, length-take-le, paste, paste-suc}
use borrow.Author.Tests.{le-leb, lt-leb}
use Rattle.books.specs.Inner.{put_at, put_in}

-- ---- laws

pub put_at_length : (old : List ℕ) (at : ℕ) (bytes : List ℕ) → at + length bytes ≤ length old → length (put_at old at bytes) ≡ length old
unfolding put_at
put_at_length old at bytes h = simp (length-append, length-take, length-drop) (omega arith)

pub put_at_nothing : (old : List ℕ) (at : ℕ) → put_at old at [] ≡ old
unfolding put_at
put_at_nothing old at = rw add-zero (take-append-drop at old)

-- over the start
pub put_at_start : (old bytes : List ℕ) → put_at old 0 bytes ≡ bytes ++ drop (length bytes) old
unfolding put_at
put_at_start old bytes = rw zero-add

-- one write after another is one write
pub put_at_put_at : (old : List ℕ) (at : ℕ) (xs ys : List ℕ) → at + length xs + length ys ≤ length old
    → put_at (put_at old at xs) (at + length xs) ys ≡ put_at old at (xs ++ ys)
unfolding put_at
put_at_put_at old at xs ys h =
    let n : ℕ = at + length xs in
    let p : List ℕ = take at old in
    let l : List ℕ = p ++ (xs ++ drop n old) in
    let e : l ≡ (p ++ xs) ++ drop n old = sym (append_assoc p xs (drop n old)) in
    let hl : length (p ++ xs) ≡ n = length-append p xs ∙ ap (λ (k : ℕ). k + length xs) (length-take-le at old (omega arith)) in
    let t : take n l ≡ p ++ xs = ap (λ (k : List ℕ). take n k) e ∙ take_at (p ++ xs) (drop n old) n hl in
    let d : drop n l ≡ drop n old = ap (λ (k : List ℕ). drop n k) e ∙ drop_at (p ++ xs) (drop n old) n hl in
    let d' : drop (n + length ys) l ≡ drop (n + length ys) old =
    sym (drop-drop (length ys) n l) ∙ ap (λ (k : List ℕ). drop (length ys) k) d ∙ drop-drop (length ys) n old in
    let ln : at + length (xs ++ ys) ≡ n + length ys = omega (arith, length-append xs ys) in
    ap (λ (k : List ℕ). k ++ (ys ++ drop (n + length ys) l)) t ∙ ap (λ (k : List ℕ). (p ++ xs) ++ (ys ++ k)) d' ∙ rw ln (simp append_assoc)

module _ (old : List ℕ) (at : ℕ) (bytes : List ℕ) where
  pub put_in_fits : at + length bytes ≤ length old → put_in old at bytes ≡ put_at old at bytes
  unfolding put_in
  put_in_fits h = rw (le-leb (at + length bytes) (length old) h)

  pub put_in_not : length old < at + length bytes → put_in old at bytes ≡ old
  unfolding put_in
  put_in_not h = rw (lt-leb (at + length bytes) (length old) h)

-- ---- the loop that copies, for listing: the first i bytes are written
pub record Copied (old : List ℕ) (at : ℕ) (bytes : List ℕ) (i : ℕ) (new : List ℕ) : Type 0 where
  pub is : new ≡ paste old at bytes i
  pub long : length new ≡ length old
  pub short : i ≤ length bytes

module _ (old : List ℕ) (at : ℕ) (bytes : List ℕ) (fits : at + length bytes ≤ length old) where
  pub copied_on : (i : ℕ) (new : List ℕ) → Copied old at bytes i new → i < length bytes → Copied old at bytes (i + 1) (set new (at + i) (get_or bytes i 0))
  copied_on i new c h = record {
    is = rw (c.is, add-one) (paste-suc old at bytes i 0 (omega arith) h);
    long = length-set new (at + i) (get_or bytes i 0) ∙ c.long;
    short = omega arith;
  }

  pub copied_end : (i : ℕ) (new : List ℕ) → Copied old at bytes i new → length bytes ≤ i → new ≡ put_at old at bytes
  unfolding put_at
  copied_end i new c h =
      let e : i ≡ length bytes = omega (arith, c.short) in
      c.is ∙ rw (e, take-length bytes) (append_assoc (take at old) bytes (drop (at + length bytes) old))
