-- `list`: the walk's contract, turned into the page of the statement by laws/Paging.
use Rattle.listing.proofs.laws.Paging.{listed_last, listed_page}
use Rattle.listing.proofs.start.Request.list.Goals as goal

pub finished-requires : goal.finished-requires
finished-requires c = listed_last _ _ _ _ _ _ c.args.self.now.standard c.requires.0 c.requires.1 c.requires.2 _ _ c.start-w.ensures

pub returns : goal.returns
returns c = listed_page _ _ _ _ _ _ c.args.self.now.standard c.requires.0 c.requires.1 c.requires.2 _ _ c.start-w.ensures _ c.finished.ensures
