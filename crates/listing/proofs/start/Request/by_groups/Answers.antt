-- `by_groups`: what is sorted decides from the empty prefix on.
use native.Mathlib.Omega.{arith}
use Prim.Native.Nat.{ℕ}
use mathlib.Core.Path.{◌≡◌, refl}
use lib.ListN.{length, replicate}
use Rattle.listing.proofs.laws.Starting.{start_ready, start_open, start_on}
use Rattle.listing.proofs.start.Request.by_groups.Goals as goal

pub resume-requires : goal.resume-requires
resume-requires c =
    let s = c.args.self.now.standard in
    let p = c.requires in
    let r = c.beginning-root.ensures in
    let ready = start_ready _ _ _ _ _ _ c.args.self.now.budget s p.0 p.1 _ r in
    let size : length (replicate {A = ℕ} 4096 0) ≡ 4096 = refl in
    let opened = start_open _ _ _ _ _ _ c.args.self.now.budget s p.0 p.1 _ r p.2 _ _ _ _ _ c.fill-groups.ensures 4096 (omega (arith, c.fill-groups.auto.places, size)) in
    (ready.0, ready.1, opened.0, opened.1)

pub returns : goal.returns
returns c = start_on _ _ _ _ _ _ _ c.args.self.now.standard c.requires.0 c.requires.1 _ c.beginning-root.ensures _ _ _ c.resume.ensures.0
