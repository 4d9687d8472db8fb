-- `makers::rows::split` meets its contract: the first pair that differs, or the length where there is none (`first_apart`).
use Rattle.std.proofs.Common.{ℕ, not, eqb, rules, tests}
use Rattle.std.proofs.lemmas.Iterator.{YieldsList-from_slice, YieldsList-from_zip}
use Rattle.std.proofs.lemmas.Iterator.Consumers.{YieldsList-at}
use Rattle.std.proofs.lemmas.Iterator.Search.{position_from_yields_List}
use Rattle.makers.proofs.laws.Parts.{first_apart}
use Rattle.makers.proofs.rows.split.Goals as goal

pub returns : goal.returns
returns c =
    let a = c.args.a.now in
    let b = c.args.b.now in
    let pairs = YieldsList-from_zip (YieldsList-at c.zip.ensures.first (YieldsList-from_slice a c.iter.ensures.rest)) (YieldsList-from_slice b c.zip.ensures.second.0) in
    first_apart a b c.position.result c.unwrap_or.result c.requires
    (position_from_yields_List (λ (p : ℕ × ℕ). not (eqb p.0 p.1)) c.position.new.self _ c.position.result c.position.ensures.ran pairs (λ x t q k. search (rules, tests)))
    c.unwrap_or.ensures
