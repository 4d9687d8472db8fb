-- `makers::rows::Source::send` meets its contract: the rule is sent as it is reduced.
use Rattle.makers.proofs.laws.Parts.{rows_few}
use Rattle.makers.proofs.laws.Sending.{sent_one}
use Rattle.makers.proofs.rows.Source.send.Goals as goal

pub invariant_of-rows : goal.invariant_of-rows
invariant_of-rows c =
    let given = c.args.self.now.given in
    record { some = given.some; narrow = given.few; few = rows_few c.args.self.now }

pub returns : goal.returns
returns c = search sent_one
