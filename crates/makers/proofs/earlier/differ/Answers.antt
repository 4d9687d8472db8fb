-- `makers::earlier::differ` meets its contract: the two literals, each where it is one, are what differs.
use Rattle.std.proofs.Common.{◌∙◌, sym}
use Rattle.std.proofs.lemmas.Bool.{lt-ltb, le-ltb}
use Rattle.makers.proofs.laws.Earlier.{with_some, with_none, differ_both}
use Rattle.makers.proofs.earlier.differ.Goals as goal
use Rattle.makers.proofs.earlier.differ.Goals.{then-v-gt0, else-v-gt0}

pub returns-then-apart : goal.returns-then-apart
returns-then-apart c =
    differ_both _ _ _ _ _
    (elim c.if-v-gt0.branch [
      | then-v-gt0 w ↦ rw w.rule-is (with_some _ _ (lt-ltb _ _ w.if-v-gt0.true) w.push.ensures)
      | else-v-gt0 w ↦ rw w.rule-is (with_none _ _ (le-ltb _ _ w.if-v-gt0.false))
    ])
    (with_some _ _ (sym c.apart.ensures ∙ c.if-apart.true) c.push-then-apart.ensures)

pub returns-else-apart : goal.returns-else-apart
returns-else-apart c =
    differ_both _ _ _ _ _
    (elim c.if-v-gt0.branch [
      | then-v-gt0 w ↦ rw w.rule-is (with_some _ _ (lt-ltb _ _ w.if-v-gt0.true) w.push.ensures)
      | else-v-gt0 w ↦ rw w.rule-is (with_none _ _ (le-ltb _ _ w.if-v-gt0.false))
    ])
    (with_none _ _ (sym c.apart.ensures ∙ c.if-apart.false))
