-- Kept: the literals that Horn and dual Horn keep, gone through in order.
use Prim.Native.Nat.{ℕ, ◌≤◌, ◌<◌}
use native.Mathlib.Omega.{arith}
use mathlib.Core.Path.{◌≡◌, refl, sym, ◌∙◌}
use mathlib.Core.Bool.{true, false}
use mathlib.Core.List.{List, [], ◌∷◌, ◌++◌, append-nil, append_assoc}
use mathlib.Core.Option.{Option, none, some}
use lib.ListN.{length, length-append}
use Rattle.meaning.specs.Rows.{Row}
use Rattle.meaning.specs.Rules.{Literal, Rule, Side, scarce}
use Rattle.meaning.specs.Bytes.{encode_literals, literal_at}
use Rattle.meaning.specs.Families.{common, common_and, keep_for}
use Rattle.literals.specs.Inner.{Known, literals_in}
use Rattle.literals.proofs.laws.Chunks.{literals_over}
use Rattle.reducing.specs.Inner.{serves}
use Rattle.reducing.proofs.laws.Passed.{literals_on}
use Rattle.reducing.proofs.laws.Written.{rule_back}
use Rattle.reducing.proofs.laws.Trim.{Left, left_start, left_on}

-- ---- the first of the literals

module _ (s : Side) (c : Literal) (r : Rule) where
  pub keep_common : (o : Option Row) → scarce s c ≡ false → keep_for s (c ∷ r) o ≡ c ∷ keep_for s r o
  unfolding keep_for common common_and
  keep_common none h = rw h
  keep_common (some m) h = rw h

  module _ (h : scarce s c ≡ true) where
    pub keep_found : (o : Option Row) → serves c o ≡ true → keep_for s (c ∷ r) o ≡ c ∷ keep_for s r none
    unfolding keep_for common common_and
    keep_found none t = absurd (cc)
    keep_found (some m) t = rw (h, t)

    pub keep_passed : (o : Option Row) → serves c o ≡ false → keep_for s (c ∷ r) o ≡ keep_for s r o
    unfolding keep_for common common_and
    keep_passed none t = rw h
    keep_passed (some m) t = rw (h, t)

-- ---- what stays of the literals that are passed is kept
pub record KeptFrom (s : Side) (l : ℕ) (r : Rule) (begun : Option Row) (rest : List ℕ) (kept : Rule) (o : Option Row) : Type 0 where
  pub left : Left l rest kept
  pub whole : keep_for s r begun ≡ kept ++ keep_for s (literals_in rest) o

pub kept_start : {s : Side} {l : ℕ} (r : Rule) {o : Option Row} {b : List ℕ} → b ≡ encode_literals r → Known l r → length r ≤ 32 → KeptFrom s l r o b [] o
kept_start r e k f = record { left = left_start r e k f; whole = rw (rule_back e) }

module _ {s : Side} {l : ℕ} {r : Rule} {begun o : Option Row} {rest : List ℕ} {kept : Rule} (m : KeptFrom s l r begun rest kept o) where
  module _ (y t : List ℕ) (e : rest ≡ y ++ t) (three : length y ≡ 3) {p : Option Row} where
    pub kept_on : {next : Rule} → keep_for s (literal_at y 0 ∷ literals_in t) o ≡ literal_at y 0 ∷ keep_for s (literals_in t) p → next ≡ kept ++ (literal_at y 0 ∷ []) → KeptFrom s l r begun t next p
    kept_on {next} k n = record {
      left = left_on m.left y t e three next (rw n (omega (arith, length-append kept (literal_at y 0 ∷ []))));
      whole = m.whole ∙ rw (literals_on y t e three, k, n) (sym (append_assoc kept (literal_at y 0 ∷ []) (keep_for s (literals_in t) p)));
    }

    pub kept_same : keep_for s (literal_at y 0 ∷ literals_in t) o ≡ keep_for s (literals_in t) p → KeptFrom s l r begun t kept p
    kept_same k = record {
      left = left_on m.left y t e three kept (omega arith);
      whole = m.whole ∙ rw (literals_on y t e three, k);
    }

  pub kept_end : length rest < 3 → kept ≡ keep_for s r begun
  unfolding keep_for common common_and
  kept_end h = sym (m.whole ∙ rw (literals_over rest h) (rw (nothing o) (append-nil kept)))
    where
      nothing : (q : Option Row) → keep_for s [] q ≡ []
      nothing none = refl
      nothing (some x) = refl
