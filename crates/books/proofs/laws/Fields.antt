-- The fields: when each answer is given, and what a field that was got tells.
use Prim.Native.Nat.{ℕ, ◌+◌, ◌≤◌, ◌<◌}
use native.Mathlib.Omega.{arith}
use native.Mathlib.Decide.{dec_lt, ℕ_discrete}
use mathlib.Core.Path.{◌≡◌, refl, sym}
use mathlib.Core.Logic.{◌≢◌}
use mathlib.Core.List.{List}
use lib.ListN.{length, get_or}
use borrow.Author.Tests.{lt-ltb, le-ltb, eq-eqb, ne_eqb}
use Rattle.std.specs.Prelude.{Result, Ok, Err}
use Rattle.books.specs.declared.Fault.{Fault}
use Rattle.books.specs.declared.Fault.TheVariants.{Cut, Mark, Field}
use Rattle.meaning.specs.Bytes.{word_at}
use Rattle.books.specs.Format.{◌>>=◌, mark_of, field_of, word_of}

-- a fault is no value
pub no_value : {A B : Type 0} {r : Result B Fault} {f : Fault} {v : B} → r ≡ Err f → r ≡ Ok v → A
no_value {r = r} {f = f} {v = v} h g = absurd (cc)

-- a chain that came to a value did so at each step
pub chain : {A B : Type 0} (r : Result A Fault) (k : A → Result B Fault) (v : B) → r >>= k ≡ Ok v → (w : A) × (r ≡ Ok w) × (k w ≡ Ok v)
chain (Ok w) k v e = (w, refl, e)
chain (Err f) k v e = no_value refl e

-- ---- a mark
module _ (b : List ℕ) (p m : ℕ) where
  pub mark_cut : length b < p + 2 → Err (Cut p) ≡ mark_of b p m
  unfolding mark_of
  mark_cut h = rw (lt-ltb (length b) (p + 2) h)

  pub mark_first : p + 2 ≤ length b → get_or b p 0 ≢ 82 → Err (Mark p) ≡ mark_of b p m
  unfolding mark_of
  mark_first h e = rw (le-ltb (length b) (p + 2) h, ne_eqb (get_or b p 0) 82 e)

  pub mark_second : p + 2 ≤ length b → get_or b p 0 ≡ 82 → get_or b (p + 1) 0 ≢ m → Err (Mark p) ≡ mark_of b p m
  unfolding mark_of
  mark_second h e d = rw (le-ltb (length b) (p + 2) h, eq-eqb (get_or b p 0) 82 e, ne_eqb (get_or b (p + 1) 0) m d)

  pub mark_got : p + 2 ≤ length b → get_or b p 0 ≡ 82 → get_or b (p + 1) 0 ≡ m → Ok (p + 2) ≡ mark_of b p m
  unfolding mark_of
  mark_got h e d = rw (le-ltb (length b) (p + 2) h, eq-eqb (get_or b p 0) 82 e, eq-eqb (get_or b (p + 1) 0) m d)

pub record MarkGot (b : List ℕ) (p m v : ℕ) : Type 0 where
  pub inside : p + 2 ≤ length b
  pub first : get_or b p 0 ≡ 82
  pub second : get_or b (p + 1) 0 ≡ m
  pub next : v ≡ p + 2

pub mark_tells : (b : List ℕ) (p m v : ℕ) → mark_of b p m ≡ Ok v → MarkGot b p m v
mark_tells b p m v g = elim (dec_lt (length b) (p + 2)) [
  | yes h ↦ no_value (sym (mark_cut b p m h)) g
  | no h ↦ elim (ℕ_discrete (get_or b p 0) 82) [
    | no e ↦ no_value (sym (mark_first b p m (omega arith) e)) g
    | yes e ↦ elim (ℕ_discrete (get_or b (p + 1) 0) m) [
      | no d ↦ no_value (sym (mark_second b p m (omega arith) e d)) g
      | yes d ↦
          let s = mark_got b p m (omega arith) e d in
          record { inside = omega arith; first = e; second = d; next = cc }
    ]
  ]
]

-- ---- a field of one byte
module _ (b : List ℕ) (from p lo top : ℕ) where
  pub field_cut : length b ≤ p → Err (Cut from) ≡ field_of b from p lo top
  unfolding field_of
  field_cut h = rw (le-ltb p (length b) h)

  pub field_under : p < length b → get_or b p 0 < lo → Err (Field p) ≡ field_of b from p lo top
  unfolding field_of
  field_under h k = rw (lt-ltb p (length b) h, lt-ltb (get_or b p 0) lo k)

  pub field_over : p < length b → lo ≤ get_or b p 0 → top ≤ get_or b p 0 → Err (Field p) ≡ field_of b from p lo top
  unfolding field_of
  field_over h k t = rw (lt-ltb p (length b) h, le-ltb (get_or b p 0) lo k, le-ltb (get_or b p 0) top t)

  pub field_got : p < length b → lo ≤ get_or b p 0 → get_or b p 0 < top → Ok (get_or b p 0) ≡ field_of b from p lo top
  unfolding field_of
  field_got h k t = rw (lt-ltb p (length b) h, le-ltb (get_or b p 0) lo k, lt-ltb (get_or b p 0) top t)

pub record FieldGot (b : List ℕ) (p lo top v : ℕ) : Type 0 where
  pub inside : p < length b
  pub value : v ≡ get_or b p 0
  pub low : lo ≤ v
  pub high : v < top

pub field_tells : (b : List ℕ) (from p lo top v : ℕ) → field_of b from p lo top ≡ Ok v → FieldGot b p lo top v
field_tells b from p lo top v g = elim (dec_lt p (length b)) [
  | no h ↦ no_value (sym (field_cut b from p lo top (omega arith))) g
  | yes h ↦ elim (dec_lt (get_or b p 0) lo) [
    | yes k ↦ no_value (sym (field_under b from p lo top h k)) g
    | no k ↦ elim (dec_lt (get_or b p 0) top) [
      | no t ↦ no_value (sym (field_over b from p lo top h (omega arith) (omega arith))) g
      | yes t ↦
          let s = field_got b from p lo top h (omega arith) t in
          let e : v ≡ get_or b p 0 = cc in
          record { inside = h; value = e; low = omega arith; high = omega arith }
    ]
  ]
]

-- ---- a field of two bytes
module _ (b : List ℕ) (from p top : ℕ) where
  pub word_cut : length b < p + 2 → Err (Cut from) ≡ word_of b from p top
  unfolding word_of
  word_cut h = rw (lt-ltb (length b) (p + 2) h)

  pub word_over : (k : ℕ) → k ≡ word_at b p → p + 2 ≤ length b → top ≤ k → Err (Field p) ≡ word_of b from p top
  unfolding word_of
  word_over k e h t = rw (le-ltb (length b) (p + 2) h, ← e, le-ltb k top t)

  pub word_got : (k : ℕ) → k ≡ word_at b p → p + 2 ≤ length b → k < top → Ok k ≡ word_of b from p top
  unfolding word_of
  word_got k e h t = rw (le-ltb (length b) (p + 2) h, ← e, lt-ltb k top t)

pub record WordGot (b : List ℕ) (p top v : ℕ) : Type 0 where
  pub inside : p + 2 ≤ length b
  pub value : v ≡ word_at b p
  pub high : v < top

pub word_tells : (b : List ℕ) (from p top v : ℕ) → word_of b from p top ≡ Ok v → WordGot b p top v
word_tells b from p top v g = elim (dec_lt (length b) (p + 2)) [
  | yes h ↦ no_value (sym (word_cut b from p top h)) g
  | no h ↦ elim (dec_lt (word_at b p) top) [
    | no t ↦ no_value (sym (word_over b from p top (word_at b p) refl (omega arith) (omega arith))) g
    | yes t ↦
        let s = word_got b from p top (word_at b p) refl (omega arith) t in
        let e : v ≡ word_at b p = cc in
        record { inside = omega arith; value = e; high = omega arith }
  ]
]
