-- The invariant: some rows are passed, and what is left of them decides (Checking). Each way through the loop is a lemma of Checking.
use Rattle.std.proofs.Common.{rules, arith, ◌≡◌, ◌∙◌}
use Rattle.std.specs.Prelude.{Err}
use Rattle.tables.proofs.laws.Checking.{checking_start, checking_high, checking_on, checking_end}
use Rattle.tables.proofs.flaws.check_all_values.Goals as goal

pub loop-k-init : goal.loop-k-init
loop-k-init c = (search rules, search rules, search rules, checking_start _ _ c.requires.0 c.requires.1 _ _ (search rules) (search rules))

pub returns-in_err-check_values : goal.returns-in_err-check_values
returns-in_err-check_values c =
    let s = c.in-Some.ensures.steps in
    let e : c.from_residual.result ≡ Err c.in_err-check_values.field-0.0 = search rules in
    e ∙ checking_high _ _ c.loop-k.invariant.3 _ _ s.0.1.0 (s.0.1.1 ∙ c.loop-k.invariant.2) _ (rw s.1 at c.check_values.ensures) _ c.in_err-check_values.was

pub loop-k-preserved : goal.loop-k-preserved
loop-k-preserved c =
    let s = c.in-Some.ensures.steps in
    let on = checking_on _ _ c.loop-k.invariant.3 _ _ s.0.1.0 (s.0.1.1 ∙ c.loop-k.invariant.2) _ (rw s.1 at c.check_values.ensures) c.in_ok-check_values.was in
    (search rules, search rules, s.0.0 ∙ c.loop-k.invariant.2, rw s.2 on)

pub returns : goal.returns
returns c = let s = c.in-None.ensures.steps in checking_end _ _ c.loop-k.invariant.3 (omega (arith, s.0.1.0, c.loop-k.invariant.2))
