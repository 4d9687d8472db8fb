-- Each way out is a lemma of Checking.
use Rattle.std.proofs.Common.{rules, ◌≡◌, ◌∙◌}
use Rattle.std.specs.Prelude.{Err}
use Rattle.tables.proofs.laws.Checking.{high_refused, low_refused, rows_passed}
use Rattle.tables.proofs.flaws.check_rows.Goals as goal

pub returns-in_err-check_all_values : goal.returns-in_err-check_all_values
returns-in_err-check_all_values c =
    let e : c.from_residual.result ≡ Err c.in_err-check_all_values.field-0.0 = search rules in
    e ∙ high_refused _ _ _ _ c.check_all_values.ensures _ c.in_err-check_all_values.was

pub returns-in_err-check_order : goal.returns-in_err-check_order
returns-in_err-check_order c =
    let e : c.from_residual-in_err-check_order.result ≡ Err c.in_err-check_order.field-0.0 = search rules in
    e ∙ low_refused _ _ _ _ c.check_all_values.ensures c.in_ok-check_all_values.was _ c.check_order.ensures _ c.in_err-check_order.was

pub returns : goal.returns
returns c = rows_passed _ _ _ _ c.check_all_values.ensures c.in_ok-check_all_values.was _ c.check_order.ensures c.in_ok-check_order.was
