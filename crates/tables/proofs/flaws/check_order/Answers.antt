-- What is found among the rows that have a next one (low_found).
use Rattle.std.proofs.Common.{ℕ, ◌≡◌, ◌+◌, ◌≤◌, ◌<◌, true, false, MatchOption, rules, arith}
use Rattle.std.specs.Prelude.{Ok, Err}
use Rattle.std.proofs.lemmas.Iterator.{first_from_Range}
use Rattle.meaning.specs.Rows.{rows_of}
use Rattle.meaning.proofs.Flat.{rows_count}
use Rattle.tables.specs.declared.Flaw.TheVariants.{Order}
use Rattle.tables.specs.Check.{first_low}
use Rattle.tables.specs.Inner.{passed_of}
use Rattle.tables.proofs.laws.Firsts.{is_next}
use Rattle.tables.proofs.laws.Checking.{low_found}
use Rattle.tables.proofs.flaws.check_order.Goals as goal
use Rattle.tables.proofs.flaws.check_order.Goals.{After-find}

found :
    (c : After-find) → MatchOption c.find.result ((k : ℕ) → 0 ≤ k → k < c.saturating_sub-steps.result → is_next (rows_of c.args.l c.args.table.now) k ≡ true)
    (λ i. (0 ≤ i) × (i < c.saturating_sub-steps.result) × (is_next (rows_of c.args.l c.args.table.now) i ≡ false) × ((k : ℕ) → 0 ≤ k → k < i → is_next (rows_of c.args.l c.args.table.now) k ≡ true))
found c = first_from_Range _ _ _ c.find.result _ _ c.find.ensures.ran (λ x q k. search rules) (λ x q k. search rules)

told :
    (c : After-find) → MatchOption c.find.result (Ok tt ≡ passed_of (first_low (rows_of c.args.l c.args.table.now))) (λ i. Err (Order (i + 1)) ≡ passed_of (first_low (rows_of c.args.l c.args.table.now)))
told c = low_found (rows_of c.args.l c.args.table.now) _ (omega (arith, c.saturating_sub-steps.ensures, rows_count c.args.l c.args.table.now)) c.find.result (found c)

pub overflow_add-result : goal.overflow_add-result
overflow_add-result c = let f = rw c.in-Some.is at (found (goal.at.overflow_add-result c).After-find) in omega (arith, f.1)

pub returns-in-Some : goal.returns-in-Some
returns-in-Some c = rw c.in-Some.is at (told (goal.at.returns-in-Some c).After-find)

pub returns-in-None : goal.returns-in-None
returns-in-None c = rw c.in-None.is at (told (goal.at.returns-in-None c).After-find)
