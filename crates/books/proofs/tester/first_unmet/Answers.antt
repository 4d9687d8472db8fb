-- `books::tester::first_unmet` meets its contract: where the rule is met, the next step (unmet_on).
use Rattle.books.proofs.laws.Asked.{unmet_on}
use Rattle.books.proofs.tester.first_unmet.Goals as goal

pub loop-k-preserved : goal.loop-k-preserved
loop-k-preserved c = search unmet_on
