-- `by_run`: nothing is entered, and the run of all rules decides from the empty prefix on.
use native.Mathlib.Omega.{arith}
use lib.ListN.{replicate}
use Rattle.listing.proofs.laws.Starting.{start_ready, start_open, start_on}
use Rattle.listing.proofs.laws.Sorting.{none_sorted}
use Rattle.listing.proofs.start.Request.by_run.Goals as goal

pub resume-requires : goal.resume-requires
resume-requires c =
    let s = c.args.self.now.standard in
    let p = c.requires in
    let r = c.beginning-root.ensures in
    let ready = start_ready _ _ _ _ _ _ c.args.self.now.budget s p.0 p.1 _ r in
    let opened = start_open _ _ _ _ _ _ c.args.self.now.budget s p.0 p.1 _ r p.2 _ _ _ _ _ (none_sorted _ _ (replicate 1 0)) 1 (omega arith) in
    (ready.0, ready.1, opened.0, opened.1)

pub returns : goal.returns
returns c = start_on _ _ _ _ _ _ _ c.args.self.now.standard c.requires.0 c.requires.1 _ c.beginning-root.ensures _ _ _ c.resume.ensures.0
