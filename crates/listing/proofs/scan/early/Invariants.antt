-- `early`: what is left behind the first literals gives the whole; each way out is a lemma of laws/Early.
use Rattle.std.proofs.Common.{take}
use Rattle.listing.proofs.laws.Early.{Passing}
use Rattle.listing.proofs.scan.early.Given as goal

abbrev pub invariant-loop-k : goal.invariant-loop-k
invariant-loop-k l = Passing l.book (take l.len l.values) l.p l.count l.k
