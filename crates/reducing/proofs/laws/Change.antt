-- Change: numbers changed in place, each by what stands beside it in another list; a lemma for each step of the loop that does it.
use Prim.Native.Nat.{ℕ, zero, suc, ◌+◌, ◌≤◌, ◌<◌}
use native.Mathlib.Omega.{arith}
use native.Mathlib.Nat.{add-zero}
use native.Mathlib.Numerals.{add-one}
use mathlib.Core.Path.{◌≡◌, refl, ◌∙◌}
use mathlib.Core.List.{List, [], ◌∷◌, ◌++◌, append_assoc}
use lib.ListN.{length, get_or, take, drop, set, length-drop, take-append-drop}
use lib.Seq.{get_or-drop, drop-drop, take-suc-set, drop-set-lt}
use Rattle.reducing.specs.Inner.{change}

module _ {A : Type 0} (f : ℕ → A → ℕ) where
  pub change_length : (ms : List A) (ns : List ℕ) → length ms ≤ length ns → length (change f ms ns) ≡ length ns
  unfolding change
  change_length [] ns h = refl
  change_length (m ∷ ms) ns h =
      let d = length-drop 1 ns in
      omega (arith, change_length ms (drop 1 ns) (omega arith))

  pub change_at : (d : A) (ms : List A) (ns : List ℕ) (i : ℕ) → i < length ms → get_or (change f ms ns) i 0 ≡ f (get_or ns i 0) (get_or ms i d)
  unfolding change
  change_at d [] ns i h = absurd (omega arith)
  change_at d (m ∷ ms) ns zero h = refl
  change_at d (m ∷ ms) ns (suc i) h =
      let e : 1 + i ≡ suc i = omega arith in
      change_at d ms (drop 1 ns) i (omega arith) ∙ rw (get_or-drop, e)

  -- the first i are done: one more
  pub change_on : (m : A) (ms : List A) (ns : List ℕ) (i v : ℕ) → i < length ns → v ≡ f (get_or ns i 0) m
      → take i ns ++ change f (m ∷ ms) (drop i ns) ≡ take (i + 1) (set ns i v) ++ change f ms (drop (i + 1) (set ns i v))
  unfolding change
  change_on m ms ns i v h e =
      rw (add-one, take-suc-set ns i v h, drop-set-lt (suc i) ns i v (omega arith), append_assoc, e, get_or-drop, add-zero, drop-drop)
      (rw add-one)

  -- all are done
  pub change_none : (ns : List ℕ) (i : ℕ) → take i ns ++ change f [] (drop i ns) ≡ ns
  unfolding change
  change_none ns i = take-append-drop i ns
