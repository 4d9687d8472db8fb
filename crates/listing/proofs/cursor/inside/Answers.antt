-- `inside`: what `all` tells of the values up to the length.
use Rattle.std.proofs.Common.{ℕ, rules, tests, ltb, take}
use Rattle.std.proofs.lemmas.Iterator.{YieldsList-from_slice, YieldsList-from_zip}
use Rattle.std.proofs.lemmas.Iterator.Search.{all_from_yields_List}
use Rattle.listing.proofs.laws.CursorTests.{fits_cut}
use Rattle.listing.proofs.cursor.inside.Goals as goal

pub returns : goal.returns
returns c =
    let a = c.args in
    fits_cut _ _ c.requires.0 c.requires.1 (search rules) _ (all_from_yields_List (λ (x : ℕ × ℕ). ltb x.0 x.1) c.all.new.self _ _ c.all.ensures.ran (YieldsList-from_zip (YieldsList-from_slice (take a.c.len a.c.values) cc) (YieldsList-from_slice (take a.c.len a.sizes.now) cc)) (λ x b q k. search (rules, tests)))
