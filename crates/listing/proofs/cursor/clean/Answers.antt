-- `clean`: what `all` tells of the values past the length.
use Rattle.std.proofs.Common.{rules, tests, eqb}
use Rattle.std.proofs.lemmas.Iterator.{YieldsList-from_slice}
use Rattle.std.proofs.lemmas.Iterator.Search.{all_from_yields_List}
use Rattle.listing.proofs.laws.CursorTests.{cleaned_all}
use Rattle.listing.proofs.cursor.clean.Goals as goal

pub returns : goal.returns
returns c = cleaned_all _ (search rules) _ (all_from_yields_List (λ v. eqb v 0) _ _ _ c.all.ensures.ran (YieldsList-from_slice _ c.iter.ensures.rest) (λ x b q k. search (rules, tests)))
