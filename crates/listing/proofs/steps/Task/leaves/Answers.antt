use native.Mathlib.Omega.{arith}
use mathlib.Core.Logic.{inl, inr}
use mathlib.Core.Path.{◌≡◌}
use Rattle.listing.proofs.laws.Steps.{flag_is}
use Rattle.listing.proofs.laws.Leaves.{leafing_room, leafing_rows, leafing_on, leafing_end}
use Rattle.listing.proofs.steps.Task.leaves.Goals.{then-self-done-via-then-self-done, then-self-done-via-else-self-done+then-self-done-2}
use Rattle.listing.proofs.steps.Task.leaves.Goals as goal

pub returns-then-self-done : goal.returns-then-self-done
returns-then-self-done c = elim c.then-self-done.branch [
  | then-self-done-via-then-self-done w ↦ leafing_end c.loop-v.invariant _ c.behind.ensures (inl (inl w.if-self-done.true))
  | then-self-done-via-else-self-done+then-self-done-2 w ↦ leafing_end c.loop-v.invariant _ c.behind.ensures (inl (inr w.if-self-done-2.true))
]

pub leaf-requires : goal.leaf-requires
leaf-requires c =
    let p = c.requires in
    let i = c.loop-v.invariant in
    (rw p.1 (leafing_room _ _ _ _ _ _ _ _ c.args.cur.plain p.0 p.1 i c.if-self-done.false), leafing_rows _ _ _ _ _ _ _ _ c.args.cur.plain p.0 p.1 i c.if-self-done.false)

pub loop-v-preserved : goal.loop-v-preserved
loop-v-preserved c =
    let p = c.requires in
    leafing_on _ _ _ _ _ _ _ _ c.args.cur.plain p.0 p.1 c.loop-v.invariant (omega (arith, c.max-n.ensures, c.loop-v.invariant.ahead, c.loop-v-test.true)) c.if-self-done.false c.if-self-done-2.false _ p.2 _ c.from.ensures _ c.lacks-dead.ensures _ (flag_is _ _ c.from-in-loop-v.ensures) _ _ (rw p.1 at c.leaf.ensures) c.leaf.auto.room

pub returns : goal.returns
returns c =
    let e : c.max-n.result ≡ c.loop-v.v = omega (arith, c.max-n.ensures, c.loop-v.auto.v-end, c.loop-v-test.false) in
    leafing_end c.loop-v.invariant _ (rw e at c.behind-2.ensures) (inr (omega (arith, c.max-n.ensures, c.loop-v-test.false)))
