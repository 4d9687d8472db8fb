-- `try_list`: the refusals in their order, then the page; each way out is a lemma of laws/Refusing.
use native.Mathlib.Omega.{arith}
use Rattle.meaning.specs.Bytes.{rules_in}
use Rattle.meaning.specs.Listing.{dead}
use Rattle.listing.proofs.laws.Refusing.{page_bad, page_no_room, page_no_budget, page_listed, page_starts}
use Rattle.listing.proofs.start.Request.try_list.Goals as goal

pub returns-then-not-cursor_ok : goal.returns-then-not-cursor_ok
returns-then-not-cursor_ok c = search (page_bad, arith)

pub returns-then-room-self : goal.returns-then-room-self
returns-then-room-self c = search (page_no_room, arith)

pub returns-then-budget-eq0 : goal.returns-then-budget-eq0
returns-then-budget-eq0 c = page_no_budget _ _ _ _ _ _ c.cursor_ok.ensures c.if-not-cursor_ok.false c.if-room-self.false c.then-budget-eq0.either

pub list-requires : goal.list-requires
list-requires c =
    page_starts _ (dead (rules_in c.args.self.now.book.now)) _ _ _ _ c.cursor_ok.ensures c.if-not-cursor_ok.false c.if-room-self.false c.if-budget-eq0.false c.args.self.now.standard.limited.short

pub returns : goal.returns
returns c = page_listed _ _ _ _ _ _ c.cursor_ok.ensures c.if-not-cursor_ok.false c.if-room-self.false c.if-budget-eq0.false c.if-budget-gt65535.false _ c.list.ensures
