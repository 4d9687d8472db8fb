-- `early`: what is left behind the first literals gives the whole; each way out is a lemma of laws/Early.
use native.Mathlib.Omega.{arith}
use Rattle.listing.proofs.laws.Early.{passing_later, passing_holds, passing_on, passing_end}
use Rattle.listing.proofs.scan.early.Goals as goal

pub returns-then-len-i : goal.returns-then-len-i
returns-then-len-i c = passing_later _ _ c.args.cur.plain _ _ _ c.loop-k.invariant c.loop-k-test.true _ c.from-i.ensures c.if-len-i.true

pub returns-then-holds : goal.returns-then-holds
returns-then-holds c =
    passing_holds _ _ c.args.cur.plain _ _ _ c.loop-k.invariant c.loop-k-test.true _ c.from-i.ensures c.if-len-i.false _ c.holds.ensures c.if-holds.true

pub loop-k-preserved : goal.loop-k-preserved
loop-k-preserved c =
    passing_on _ _ c.args.cur.plain _ _ _ c.loop-k.invariant c.loop-k-test.true _ c.from-i.ensures c.if-len-i.false _ c.holds.ensures c.if-holds.false

pub returns : goal.returns
returns c = passing_end c.args.book.now c.args.cur.cursor c.args.cur.plain _ _ _ c.loop-k.invariant (omega arith)
