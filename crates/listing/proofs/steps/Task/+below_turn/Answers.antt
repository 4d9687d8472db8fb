-- `below` and `turn`: the loop over the values of one level and its turn (laws/Turns), where the look says which are dead
-- (laws/Resuming), and what stays true of the entries (laws/Holding).
use native.Mathlib.Omega.{arith}
use mathlib.Core.Path.{◌∙◌}
use mathlib.Core.Logic.{inl, inr}
use Rattle.listing.proofs.laws.Ruled.{kept_same}
use Rattle.listing.proofs.laws.Steps.{walk_is}
use Rattle.listing.proofs.laws.Turns.{going_start, going_out, below_none, inward_less, turns_on}
use Rattle.listing.proofs.laws.Holding.{held_start, held_on, able_narrowed, kept_below, looks_kept}
use Rattle.listing.proofs.laws.Resuming.{next_ready, next_dead, next_trimmed, next_open_if, looks_trimmed}
use Rattle.listing.proofs.steps.Task.+below_turn.Goals.{below-then-self-point-via-then-self-point, below-then-self-point-via-else-self-point+then-self-point-2}
use Rattle.listing.proofs.steps.Task.+below_turn.Goals as goal

pub below-returns-then-levels-eq0 : goal.below-returns-then-levels-eq0
below-returns-then-levels-eq0 t c = (below_none _ _ _ _ _ _ _ _ _ c.if-levels-eq0.true, kept_same _ _ _)

pub below-loop-point-init : goal.below-loop-point-init
below-loop-point-init t c =
    let a = c.args in
    let p = c.requires in
    let z = c.if-levels-eq0.false in
    let s = c.skip-point.ensures in
    (s.0.on _ _ _ _ _ (going_start _ _ _ _ _ _ _ _ _ z), held_start _ _ _ _ _ p.1, rw s.1 (looks_kept _ _ _ _ _ _ _ _ _ _ (kept_same _ _ _) s.0.ahead (p.2.looks z)))

pub below-returns-then-self-point : goal.below-returns-then-self-point
below-returns-then-self-point t c =
    let k = c.loop-point.invariant in
    elim c.then-self-point.branch [
      | below-then-self-point-via-then-self-point w ↦ (going_out _ _ _ _ _ _ _ _ _ _ _ _ k.0 (inl (inl w.if-self-point.true)), k.1.kept)
      | below-then-self-point-via-else-self-point+then-self-point-2 w ↦ (going_out _ _ _ _ _ _ _ _ _ _ _ _ k.0 (inl (inr w.if-self-point-2.true)), k.1.kept)
    ]

pub below-loop-point-preserved : goal.below-loop-point-preserved
below-loop-point-preserved t c =
    let k = c.loop-point.invariant in
    let on = c.turn-point in
    (on.ensures.0.on _ _ _ k.0, held_on _ _ _ _ _ _ _ k.1 _ on.ensures.1 _ on.auto.hints, on.ensures.2)

pub below-returns : goal.below-returns
below-returns t c =
    let k = c.loop-point.invariant in
    (going_out _ _ _ _ _ _ _ _ _ _ _ _ k.0 (inr c.loop-point-test.false), k.1.kept)

pub turn-look-more-requires : goal.turn-look-more-requires
turn-look-more-requires t c =
    let p = c.requires in
    let n = c.push-next.ensures in
    let w = c.narrow-fronts in
    let r = next_ready c.args.cur.plain p.0 p.4 p.2 p.5 n c.lacks-dead.result c.inward-deep.result c.inward-deep.ensures in
    (omega (arith, r.deep, r.limited.short), next_open_if c.args.cur.plain p.0 p.4 p.2 p.5 n _ _ (next_trimmed c.args.cur.plain p.0 p.4 p.2 p.5 n _ _ c.trim-run.ensures) _ c.from.ensures _ c.lacks-dead.ensures _ c.inward-deep.ensures _ _ w.ensures _ (omega (arith, p.1.hints, w.auto.hints)))

pub turn-below-under-requires : goal.turn-below-under-requires
turn-below-under-requires t c =
    let p = c.requires in
    let w = c.narrow-fronts in
    (omega (arith, inward_less c.lacks-dead.result c.args.levels (λ x. omega (arith, p.4)), c.inward-deep.ensures), (next_ready c.args.cur.plain p.0 p.4 p.2 p.5 c.push-next.ensures c.lacks-dead.result c.inward-deep.result c.inward-deep.ensures, able_narrowed _ _ _ _ _ _ _ _ _ p.1 w.ensures (c.look-more.auto.hints ∙ w.auto.hints), c.look-more.ensures))

pub turn-returns : goal.turn-returns
turn-returns t c =
    let p = c.requires in
    let n = c.push-next.ensures in
    let b = c.below-under in
    let on = c.skip.ensures in
    let kept = kept_below _ _ _ _ _ _ _ b.new.places _ p.1 c.narrow-fronts.ensures b.ensures.1 in
    (turns_on _ _ _ _ _ _ _ _ _ c.args.cur.plain p.0 p.4 p.3 p.5 p.6 p.7 _ n _ (next_dead c.args.cur.plain p.0 p.4 p.2 p.5 n _ c.from.ensures _ c.lacks-dead.ensures) _ (walk_is _ _ _ _ _ c.from-2.ensures) _ c.inward-deep.ensures _ _ b.ensures.0 b.auto.room _ _ on.0, kept, looks_trimmed c.args.cur.plain p.0 p.4 p.2 p.5 n _ _ c.trim-run.ensures b.new.places kept c.skip.result.v (omega (arith, on.0.ahead)) _ on.1)
