-- `all_last`: what `all` tells of the values beside their sizes.
use Rattle.std.proofs.Common.{ℕ, ◌+◌, rules, tests, leb, take, ◌∙◌}
use Rattle.std.proofs.lemmas.Iterator.{YieldsList-from_slice, YieldsList-from_zip}
use Rattle.std.proofs.lemmas.Iterator.Search.{all_from_yields_List}
use Rattle.listing.proofs.laws.Ending.{lasts_all}
use Rattle.listing.proofs.paging.all_last.Goals as goal

pub returns : goal.returns
returns c =
    let a = c.args in
    all_from_yields_List (λ (x : ℕ × ℕ). leb x.1 (x.0 + 1)) c.all.new.self _ _ c.all.ensures.ran (YieldsList-from_zip (YieldsList-from_slice (take a.q.len a.q.values) cc) (YieldsList-from_slice a.sizes.now cc)) (λ x b q k. search (rules, tests))
    ∙ lasts_all a.sizes.now (take a.q.len a.q.values)
