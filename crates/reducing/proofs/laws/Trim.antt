-- Trim: the loop through the literals of a rule that drops what can be spared.
use Prim.Native.Nat.{ℕ, suc, ◌+◌, ◌≤◌, ◌<◌}
use native.Mathlib.Omega.{arith}
use mathlib.Core.Path.{◌≡◌, sym, ap, ◌∙◌}
use mathlib.Core.Bool.{true, false, cond}
use mathlib.Core.List.{List, [], ◌∷◌, ◌++◌, append_assoc}
use lib.ListN.{length, get_or, length-append}
use Rattle.meaning.specs.Rows.{Row}
use Rattle.meaning.specs.Rules.{Rule}
use Rattle.meaning.specs.Bytes.{encode_literals, literal_at}
use Rattle.meaning.specs.Families.{trim}
use Rattle.literals.specs.Inner.{Known, literals_in}
use Rattle.literals.proofs.laws.Chunks.{literals_over}
use Rattle.reducing.specs.Inner.{Written, change, counting, lowering, spare}
use Rattle.reducing.proofs.laws.Written.{rule_back, encoded_written, written_first}
use Rattle.reducing.proofs.laws.Passed.{literals_on, known_on}
use Rattle.reducing.proofs.laws.Change.{change_length}
use Rattle.reducing.proofs.laws.Counts.{Counts, counts_anew, counts_without, trim_spare}

-- of the literals left, with those that are kept: each is known to a row of l values, its sign is 0 or 1, and a hand holds them
pub record Left (l : ℕ) (rest : List ℕ) (kept : Rule) : Type 0 where
  pub known : Known l (literals_in rest)
  pub written : Written rest
  pub few : length kept + length (literals_in rest) ≤ 32

pub left_start : {l : ℕ} (r : Rule) {b : List ℕ} → b ≡ encode_literals r → Known l r → length r ≤ 32 → Left l b []
left_start {l} r {b} e k f =
    let same : literals_in b ≡ r = rule_back e in
    record { known = rw same k; written = rw e (encoded_written r); few = rw same (omega arith) }

module _ {l : ℕ} {rest : List ℕ} {kept : Rule} (m : Left l rest kept) (y t : List ℕ) (e : rest ≡ y ++ t) (three : length y ≡ 3) where
  more : length (literals_in rest) ≡ suc (length (literals_in t))
  more = ap length (literals_on y t e three)

  pub left_known : get_or y 0 0 < l
  left_known = (known_on y t e three m.known).0

  pub left_keeps : (length kept < 32) × (length y ≡ 3) × (get_or y 1 0 < 2)
  left_keeps = (omega (arith, m.few, more), three, (written_first y t e three m.written).0)

  pub left_on : (next : Rule) → length next ≤ suc (length kept) → Left l t next
  left_on next f = record {
    known = (known_on y t e three m.known).1;
    written = (written_first y t e three m.written).1;
    few = omega (arith, m.few, more, f);
  }

-- what stays of the literals that are passed is kept, and the numbers are those of what is left
pub record TrimFrom (rows : List Row) (l : ℕ) (r : Rule) (rest ns : List ℕ) (kept : Rule) : Type 0 where
  pub left : Left l rest kept
  pub counts : Counts (kept ++ literals_in rest) rows ns
  pub whole : trim rows [] r ≡ trim rows kept (literals_in rest)
  pub long : length ns ≡ 512

module _ {rows : List Row} {l : ℕ} {r : Rule} where
  pub trim_start : {b ns : List ℕ} → b ≡ encode_literals r → Known l r → length r ≤ 32 → length rows ≤ 512 → (old : List ℕ) → length old ≡ 512
      → ns ≡ change (counting (literals_in b)) rows old → TrimFrom rows l r b ns []
  trim_start {b} {ns} e k f few old n m =
      let same : literals_in b ≡ r = rule_back e in
      record {
        left = left_start r e k f;
        counts = rw m (counts_anew (literals_in b) rows old);
        whole = rw same;
        long = rw m (change_length (counting (literals_in b)) rows old (omega arith) ∙ n);
      }

  module _ {rest ns : List ℕ} {kept : Rule} (m : TrimFrom rows l r rest ns kept) where
    module _ (y t : List ℕ) (e : rest ≡ y ++ t) (three : length y ≡ 3) where
      counts : Counts (kept ++ (literal_at y 0 ∷ literals_in t)) rows ns
      counts = rw (literals_on y t e three) at m.counts

      step : trim rows [] r ≡ cond (spare (literal_at y 0) rows ns) (trim rows kept (literals_in t)) (trim rows (kept ++ (literal_at y 0 ∷ [])) (literals_in t))
      step = m.whole ∙ rw (literals_on y t e three) (trim_spare kept (literal_at y 0) (literals_in t) rows ns counts)

      pub trim_spared : {next : List ℕ} → length rows ≤ 512 → true ≡ spare (literal_at y 0) rows ns → next ≡ change (lowering (literal_at y 0)) rows ns → TrimFrom rows l r t next kept
      trim_spared {next} few s n = record {
        left = left_on m.left y t e three kept (omega arith);
        counts = rw n (counts_without kept (literal_at y 0) (literals_in t) rows ns counts);
        whole = step ∙ rw (← s);
        long = rw n (change_length (lowering (literal_at y 0)) rows ns (omega (arith, m.long)) ∙ m.long);
      }

      pub trim_kept : {next : Rule} → false ≡ spare (literal_at y 0) rows ns → next ≡ kept ++ (literal_at y 0 ∷ []) → TrimFrom rows l r t ns next
      trim_kept {next} s n = record {
        left = left_on m.left y t e three next (rw n (omega (arith, length-append kept (literal_at y 0 ∷ []))));
        counts = rw (n, append_assoc) counts;
        whole = step ∙ rw (← s, n);
        long = m.long;
      }

    pub trim_end : length rest < 3 → kept ≡ trim rows [] r
    unfolding trim
    trim_end h = sym (m.whole ∙ rw (literals_over rest h))
