-- What is found among the pairs of a value and its size (value_found).
use Rattle.std.proofs.Common.{◌≡◌, ◌<◌, ◌≤◌, ◌+◌, ◌*◌, MatchOption, length}
use Rattle.std.specs.Prelude.{Ok, Err}
use borrow.Author.Tests.{tests}
use Rattle.std.proofs.Common.{rules}
use Rattle.std.proofs.lemmas.Iterator.{IsFirst-from_position, YieldsList-from_slice, YieldsList-from_zip}
use Rattle.tables.specs.declared.Flaw.TheVariants.{Value}
use Rattle.tables.specs.Inner.{passed_of, value_flaw}
use Rattle.tables.proofs.laws.Checking.{value_found}
use Rattle.tables.proofs.flaws.check_values.Goals as goal
use Rattle.tables.proofs.flaws.check_values.Goals.{After-position}

found :
    (c : After-position) → MatchOption c.position.result (Ok tt ≡ passed_of (value_flaw c.args.sizes.now c.args.row.now (c.args.k * length c.args.sizes.now)))
    (λ i. Err (Value (c.args.k * length c.args.sizes.now + i)) ≡ passed_of (value_flaw c.args.sizes.now c.args.row.now (c.args.k * length c.args.sizes.now)))
found c =
    value_found _ _ _ c.requires.0 c.position.result
    (IsFirst-from_position c.position.new.self _ c.position.result (λ p. p.1 ≤ p.0) (λ p. p.0 < p.1) c.position.ensures.ran
    (YieldsList-from_zip (YieldsList-from_slice c.args.row.now cc) (YieldsList-from_slice c.args.sizes.now cc)) (λ x q k. search (rules, tests)) (λ x q k. search (rules, tests)))

pub returns-in-Some : goal.returns-in-Some
returns-in-Some c = rw c.in-Some.is at (found (goal.at.returns-in-Some c).After-position)

pub returns-in-None : goal.returns-in-None
returns-in-None c = rw c.in-None.is at (found (goal.at.returns-in-None c).After-position)
