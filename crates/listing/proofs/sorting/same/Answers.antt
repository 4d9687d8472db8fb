-- `same`: what `==` tells of the bytes behind the marks.
use Rattle.std.proofs.lemmas.Bool.Decides.{Decides-eqb}
use Rattle.std.proofs.lemmas.Slice.Eq.{slice_eq-Decides}
use Rattle.listing.proofs.laws.Sorting.{same_bytes}
use Rattle.listing.proofs.sorting.same.Goals as goal

pub returns-then-book-q : goal.returns-then-book-q
returns-then-book-q c = same_bytes _ _ _ _ c.from-size.ensures c.if-book-q.true _ (slice_eq-Decides Decides-eqb _ _ _ c.eq.ensures)
