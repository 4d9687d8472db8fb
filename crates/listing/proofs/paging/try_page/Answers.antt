-- `try_page`: by what reading the book gives; sixteen bytes n, of which the first l are lent, are the sizes of edition 1.
use Rattle.std.proofs.Common.{refl, arith}
use Rattle.std.proofs.lemmas.Result.{err_from_is_err_and}
use Rattle.meaning.proofs.Limits.{lent_length}
use Rattle.listing.proofs.laws.Refusing.{page_unread, page_limits, page_standard, page_read}
use Rattle.listing.proofs.paging.try_page.Goals as goal

pub returns-in_err-head : goal.returns-in_err-head
returns-in_err-head c =
    let p = err_from_is_err_and c.from_residual.result c.from_residual.ensures.1 in
    rw (p.1, p.2) (page_unread _ _ c.in_err-head.ensures c.args.cursor c.args.budget c.args.room.now _ refl)

pub overflow_cast-space : goal.overflow_cast-space
overflow_cast-space c = omega (arith, (page_limits _ _ c.in_ok-head.ensures _ _ _ _ refl).few)

pub slice_bounds-space-end : goal.slice_bounds-space-end
slice_bounds-space-end c = (page_limits _ _ c.in_ok-head.ensures _ _ _ _ refl).narrow

pub slice_bounds-request-end : goal.slice_bounds-request-end
slice_bounds-request-end c = lent_length _ _ (page_limits _ _ c.in_ok-head.ensures _ _ _ _ refl) _ refl

pub invariant_of-request : goal.invariant_of-request
invariant_of-request c = record { standard = page_standard _ _ c.in_ok-head.ensures _ _ _ _ refl }

pub returns : goal.returns
returns c = page_read _ _ c.in_ok-head.ensures _ _ _ _ refl c.args.cursor c.args.budget c.args.room.now _ c.try_list.ensures
