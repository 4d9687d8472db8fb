-- Measuring: the length of a table's book, known before a byte is written.
use Prim.Native.Nat.{ℕ, ◌+◌, ◌≤◌}
use native.Mathlib.Omega.{arith}
use mathlib.Core.Path.{◌≡◌, refl, sym, ap, ◌∙◌}
use mathlib.Core.List.{List, [], ◌∷◌, map}
use lib.ListN.{length, length-append}
use Rattle.meaning.specs.Rows.{Row, Sizes}
use Rattle.meaning.specs.Rules.{Rule, Part, done, skip, hold, Parts, ended, next}
use Rattle.meaning.specs.General.{general}
use Rattle.meaning.specs.Families.{reduce_for, rules_for}
use Rattle.meaning.specs.Bytes.{encode_rule, encode_rules}
use Rattle.meaning.proofs.Encoded.{encode_rule_length}
use Rattle.meaning.proofs.Made.{rules_parts}
use Rattle.meaning.proofs.Bounds.{rules_length}
use Rattle.makers.specs.declared.Made.{Made}
use Rattle.makers.specs.declared.rows.Source.{Source}
use Rattle.makers.specs.declared.sending.Draft.{Draft}
use Rattle.makers.specs.Inner.{source_family, source_rows, State, state_of, sends_for, SentAll, Measured, Needed}
use Rattle.makers.proofs.laws.Sending.{sends_length, sends_rules}

pub measured_sent : (s : Source) (d d' : Draft) → d.made ≡ record { length = 7; rules = 0 } → SentAll s d d'
    → Measured s.sizes.now (source_family s) (source_rows s) (record { length = d'.made.length + 2; rules = d'.made.rules })
unfolding sends_for rules_for
measured_sent s d d' e sent =
    let rs = map (reduce_for (source_family s) (source_rows s)) (general s.sizes.now (source_rows s)) in
    let l : d.made.length ≡ 7 = ap (λ (x : Made). x.length) e in
    let r : d.made.rules ≡ 0 = ap (λ (x : Made). x.rules) e in
    record {
      length_is = omega (arith, ap (λ (x : State). x.0.length) sent.state, sends_length rs (state_of d));
      rules_is = omega (arith, ap (λ (x : State). x.0.rules) sent.state, sends_rules rs (state_of d));
      few = omega (arith, sent.more);
    }

part_length : {r s : Rule} → Part r s → length r ≤ length s
part_length done = omega arith
part_length (skip p) = omega (arith, part_length p)
part_length (hold p) = omega (arith, part_length p)

parts_length : {rs ss : List Rule} → Parts rs ss → length (encode_rules rs) ≤ length (encode_rules ss)
unfolding encode_rules
parts_length ended = omega arith
parts_length (next {r = r} {s = s} {rs = rs} {ss = ss} p q) =
    omega (
      arith,
      length-append (encode_rule r) (encode_rules rs),
      length-append (encode_rule s) (encode_rules ss),
      encode_rule_length r,
      encode_rule_length s,
      part_length p,
      parts_length q,
    )

general_is : (ns : Sizes) (rows : List Row) → rules_for 0 ns rows ≡ general ns rows
unfolding rules_for reduce_for
general_is ns rows = go (general ns rows)
  where
    go : (rs : List Rule) → map (reduce_for 0 rows) rs ≡ rs
    go [] = refl
    go (r ∷ rs) = ap (λ (l : List Rule). r ∷ l) (go rs)

module _ (ns : Sizes) (family : ℕ) (rows : List Row) (space : ℕ) (t : Made) where
  pub needed_bound : Measured ns 0 rows t → t.length ≤ space → Needed ns family rows space t
  needed_bound m h =
      let shorter = parts_length (rules_parts family ns rows) in
      record {
        enough = omega (arith, m.length_is, ap (λ (l : List Rule). length (encode_rules l)) (general_is ns rows));
        exact = λ k. absurd (omega arith);
        rules_is = m.rules_is ∙ rules_length 0 ns rows ∙ sym (rules_length family ns rows);
        few = m.few;
      }

  pub needed_exact : Measured ns family rows t → Needed ns family rows space t
  needed_exact m = record { enough = omega (arith, m.length_is); exact = λ k. m.length_is; rules_is = m.rules_is; few = m.few }

  pub needed_general : Measured ns 0 rows t → family ≡ 0 → Needed ns family rows space t
  needed_general m e = needed_exact (rw e m)
