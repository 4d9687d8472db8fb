-- `books::tester::first_over` meets its contract: it searches the pairs of a value and its size (first_over_pairs).
use Rattle.std.proofs.Common.{ℕ, leb, rules}
use Rattle.std.proofs.lemmas.Iterator.{YieldsList-from_slice, YieldsList-from_zip}
use Rattle.std.proofs.lemmas.Iterator.Search.{position_from_yields_List}
use borrow.Author.Tests.{tests}
use Rattle.books.proofs.laws.First.{first_over_pairs}
use Rattle.books.proofs.tester.first_over.Goals as goal

pub returns : goal.returns
returns c =
    let ns = c.args.sizes.now in
    let x = c.args.combination.now in
    first_over_pairs ns x c.position.result c.requires
    (position_from_yields_List (λ (p : ℕ × ℕ). leb p.1 p.0) c.position.new.self _ c.position.result c.position.ensures.ran
    (YieldsList-from_zip {s = c.zip.result} (YieldsList-from_slice x (cc)) (YieldsList-from_slice ns (cc))) (λ y b q k. search (rules, tests)))
