-- Literals in bytes: their settings and bounds, how a rule that stands there depends on the bytes, and that a rule's bytes are those that the book has for it.
use Prim.Native.Nat.{ℕ, zero, suc, ◌+◌, ◌*◌, ◌≤◌, ◌<◌}
use native.Mathlib.Omega.{arith}
use native.Mathlib.Numerals.{add-one, unary_clauses}
use mathlib.Core.Path.{◌≡◌, refl, sym, ap, ◌∙◌}
use mathlib.Core.List.{List, [], ◌∷◌, ◌++◌}
use lib.ListN.{length, get_or, take, drop}
use lib.Seq.{drop-cons}
use Rattle.meaning.specs.Rules.{Rule, setting, sign, bound}
use Rattle.meaning.specs.Bytes.{encode_literals, literal, literal_at, literals_at}

pub literals_length : (b : List ℕ) (p k : ℕ) → length (literals_at b p k) ≡ k
unfolding literals_at
literals_length b p zero = refl
literals_length b p (suc k) = ap suc (literals_length b (p + 3) k)

-- they are the bytes' own from p on
pub literals_same : (b b' : List ℕ) (p k : ℕ) → ((i : ℕ) → i < p + 3 * k → get_or b i 0 ≡ get_or b' i 0) → literals_at b p k ≡ literals_at b' p k
unfolding literals_at
literals_same b b' p zero h = refl
literals_same b b' p (suc k) h =
    rw (h p (omega arith), h (p + 1) (omega arith), h (p + 2) (omega arith), literals_same b b' (p + 3) k (λ i l. h i (omega arith)))

-- one more at the end
pub literals_more : (b : List ℕ) (p k : ℕ) → literals_at b p (k + 1) ≡ literals_at b p k ++ (literal_at b (p + 3 * k) ∷ [])
unfolding literals_at
literals_more b p zero = simp unary_clauses
literals_more b p (suc k) =
    let e : suc k + 1 ≡ suc (k + 1) = omega arith in
    let z : p + 3 * suc k ≡ p + 3 + 3 * k = omega arith in
    rw (e, z) (ap (λ (l : Rule). literal_at b p ∷ l) (literals_more b (p + 3) k))

pub literal_setting_is : (g i d : ℕ) → setting (literal g i d) ≡ i
literal_setting_is zero i d = refl
literal_setting_is (suc g) i d = refl

pub literal_bound_is : (g i d : ℕ) → bound (literal g i d) ≡ d
literal_bound_is zero i d = refl
literal_bound_is (suc g) i d = refl

-- a literal's parts are its three bytes
pub literal_parts : (g i d : ℕ) (t : List ℕ) → g < 2 → setting (literal g i d) ∷ sign (literal g i d) ∷ bound (literal g i d) ∷ t ≡ i ∷ g ∷ d ∷ t
literal_parts zero i d t h = refl
literal_parts (suc zero) i d t h = refl
literal_parts (suc (suc g)) i d t h = absurd (omega arith)

pub one_byte : (b : List ℕ) (p : ℕ) → p < length b → drop p b ≡ get_or b p 0 ∷ drop (p + 1) b
one_byte b p h = drop-cons b p 0 h ∙ rw (add-one p)

pub two_bytes : (b : List ℕ) (p : ℕ) → p + 2 ≤ length b → drop p b ≡ get_or b p 0 ∷ get_or b (p + 1) 0 ∷ drop (p + 2) b
two_bytes b p h =
    let e : p + 1 + 1 ≡ p + 2 = omega arith in
    one_byte b p (omega arith) ∙ ap (λ (l : List ℕ). get_or b p 0 ∷ l) (one_byte b (p + 1) (omega arith) ∙ rw e)

pub three_bytes : (b : List ℕ) (p : ℕ) → p + 3 ≤ length b → drop p b ≡ get_or b p 0 ∷ get_or b (p + 1) 0 ∷ get_or b (p + 2) 0 ∷ drop (p + 3) b
three_bytes b p h =
    let e : p + 2 + 1 ≡ p + 3 = omega arith in
    two_bytes b p (omega arith) ∙ ap (λ (l : List ℕ). get_or b p 0 ∷ get_or b (p + 1) 0 ∷ l) (one_byte b (p + 2) (omega arith) ∙ rw e)

pub literals_bytes : (b : List ℕ) (p k : ℕ) → p + 3 * k ≤ length b → ((j : ℕ) → j < k → get_or b (p + (3 * j + 1)) 0 < 2)
    → take (3 * k) (drop p b) ≡ encode_literals (literals_at b p k)
unfolding literals_at encode_literals
literals_bytes b p zero h s = refl
literals_bytes b p (suc k) h s =
    let e : 3 * suc k ≡ suc (suc (suc (3 * k))) = omega arith in
    let on : (j : ℕ) → j < k → get_or b (p + 3 + (3 * j + 1)) 0 < 2 = λ j l.
    let z : p + (3 * suc j + 1) ≡ p + 3 + (3 * j + 1) = omega arith in
    rw z at (s (suc j) (omega arith)) in
    rw (e, three_bytes b p (omega arith), literals_bytes b (p + 3) k (omega arith) on)
    (sym (literal_parts (get_or b (p + 1) 0) (get_or b p 0) (get_or b (p + 2) 0) (encode_literals (literals_at b (p + 3) k)) (s 0 (omega arith))))
