-- Testing in code: the ways out of the test, and the sizes of a book that was read.
use Prim.Native.Nat.{ℕ, ◌≤◌, ◌<◌}
use native.Mathlib.Decide.{dec_lt}
use native.Mathlib.Omega.{arith}
use mathlib.Core.Path.{◌≡◌, refl, sym, ◌∙◌}
use mathlib.Core.Logic.{◌≢◌}
use mathlib.Core.List.{List}
use lib.ListN.{length, take, replicate}
use borrow.Author.Tests.{lt-ltb, le-ltb, eq-eqb, ne_eqb}
use Rattle.std.specs.Prelude.{Option, Some, None, Result, Ok, Err}
use Rattle.meaning.specs.Rows.{Row, Sizes, Limited}
use Rattle.meaning.specs.Bytes.{rules_at}
use Rattle.meaning.proofs.Limits.{lent, lent_length}
use Rattle.literals.specs.Found.{found}
use Rattle.books.specs.declared.Head.{Head}
use Rattle.books.specs.declared.Untested.{Untested}
use Rattle.books.specs.declared.Untested.TheVariants.{Length, Value}
use Rattle.books.specs.Format.{read_of}
use Rattle.books.specs.Inner.{Testable, Walkable}
use Rattle.books.specs.Tested.{judge_of, tested_of, first_unmet, first_over}
use Rattle.books.proofs.laws.Accepted.{Headed, headed, rules_at_length}
use Rattle.books.proofs.laws.Holds.{holds_start}

-- ---- the ways out

-- what a search tells
found_tells : (p c k : ℕ) → Some p ≡ found c k → (p ≡ k) × (k < c)
found_tells p c k e = elim (dec_lt k c) [
  | yes h ↦ (let u = rw (lt-ltb k c h) at e in cc, h)
  | no h ↦ let u = rw (le-ltb k c (omega arith)) at e in absurd (cc)
]

found_not : (c k : ℕ) → None ≡ found c k → c ≤ k
found_not c k e = elim (dec_lt k c) [
  | yes h ↦ let u = rw (lt-ltb k c h) at e in absurd (cc)
  | no h ↦ omega arith
]

module _ (b : List ℕ) (ns : Sizes) (k : ℕ) (x : Row) where
  pub judge_length : length x ≢ length ns → Err Length ≡ judge_of ns (rules_at b 7 k) x
  unfolding judge_of
  judge_length h = rw (ne_eqb (length x) (length ns) h)

  pub judge_testable : Walkable b ns k → length x ≡ length ns → Testable b x 7 k
  judge_testable w h = record { ns = ns; family = w.family; long = h; holds = w.holds }

  pub judge_value : length x ≡ length ns → (p : ℕ) → Some p ≡ found (length x) (first_over ns x) → Err (Value p) ≡ judge_of ns (rules_at b 7 k) x
  unfolding judge_of
  judge_value h p o =
      let t = found_tells p (length x) (first_over ns x) o in
      rw (eq-eqb (length x) (length ns) h, lt-ltb (first_over ns x) (length x) t.1, t.0)

  pub judge_asked : length x ≡ length ns → None ≡ found (length x) (first_over ns x) → (r : Option ℕ) → r ≡ found k (first_unmet (rules_at b 7 k) x) → Ok r ≡ judge_of ns (rules_at b 7 k) x
  unfolding judge_of
  judge_asked h o r e =
      rw (eq-eqb (length x) (length ns) h, le-ltb (first_over ns x) (length x) (found_not (length x) (first_over ns x) o), rules_at_length b 7 k, e)

pub ruleset judge_steps = (judge_length, judge_testable, judge_value, judge_asked)

-- a book that was read, and its sizes as they are lent
module _ (b : List ℕ) (d : Head) (h : Ok d ≡ read_of b) where
  abbrev fine : Headed b d.n d.l d.family d.rules
  fine = headed b d.n d.l d.family d.rules (sym h)

  pub test_limited : Limited d.n d.l
  test_limited = let w = fine.well_formed in record { some = w.n_low; few = w.n_high; wide = w.l_low; narrow = w.l_high }

  module _ (s : List ℕ) (o : s ≡ replicate 16 d.n) where
    pub test_length : d.l ≡ length (take d.l s)
    test_length = rw o (lent_length d.n d.l test_limited d.n refl)

    pub test_walkable : Walkable b (take d.l s) d.rules
    test_walkable = rw (o, lent d.n d.l test_limited d.n refl) (record { family = d.family; holds = holds_start b d.n d.l d.family d.rules (sym h) })

    pub test_judged : (x : Row) (t : Result (Option ℕ) Untested) → t ≡ judge_of (take d.l s) (rules_at b 7 d.rules) x → t ≡ tested_of b x
    unfolding tested_of
    test_judged x t e = e ∙ rw (o, lent d.n d.l test_limited d.n refl, ← h, fine.count_is)

pub ruleset test_steps = (test_limited, test_length, test_walkable, test_judged)
