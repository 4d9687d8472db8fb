use native.Mathlib.Omega.{arith}
use mathlib.Core.List.{[], ◌∷◌, ◌++◌}
use Rattle.books.proofs.laws.Put.{copied_on, copied_end}
use Rattle.listing.specs.Cursors.{prefix_of}
use Rattle.listing.proofs.laws.Copying.{row_long}
use Rattle.listing.proofs.steps.put_row.Goals as goal

pub loop-i-preserved : goal.loop-i-preserved
loop-i-preserved c = rw c.value.ensures (copied_on _ _ (prefix_of c.args.cur.cursor ++ (c.args.v ∷ [])) (omega (arith, row_long c.args.cur.cursor c.args.v c.args.cur.plain, c.requires)) _ _ c.loop-i.invariant (omega (arith, row_long c.args.cur.cursor c.args.v c.args.cur.plain, c.loop-i-test.true)))

pub returns : goal.returns
returns c = copied_end _ _ (prefix_of c.args.cur.cursor ++ (c.args.v ∷ [])) (omega (arith, row_long c.args.cur.cursor c.args.v c.args.cur.plain, c.requires)) _ _ c.loop-i.invariant (omega (arith, row_long c.args.cur.cursor c.args.v c.args.cur.plain, c.loop-i-test.false))
