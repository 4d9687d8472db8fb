-- `resume`: along the last prefix's own values; each way out is a lemma of laws/Resuming, and what stays true of the entries is in
-- laws/Holding.
use native.Mathlib.Omega.{arith}
use mathlib.Core.Path.{sym, ◌∙◌}
use Rattle.listing.proofs.laws.Ruled.{kept_same, kept_on}
use Rattle.listing.proofs.laws.Steps.{runs_shut, shut_steps, ready_same}
use Rattle.listing.proofs.laws.Holding.{able_kept, able_narrowed, kept_below, looks_later, looks_at}
use Rattle.listing.proofs.laws.Resuming.{resume_small, resume_next, resume_on, resume_skip, next_dead, next_ruled, next_open}
use Rattle.listing.proofs.steps.Task.+resume.Goals as goal

pub returns-then-lacks : goal.returns-then-lacks
returns-then-lacks t c =
    let p = c.requires in
    let n = c.push-next.ensures in
    let b = c.below-then-lacks.ensures in
    let small = resume_small p.0 p.1 c.if-len-c.false in
    let dead = sym (next_dead c.args.cur.plain p.0 small.3 (looks_at small.3 c.look-scan.ensures) small.1 n _ c.from.ensures _ c.lacks.ensures) ∙ c.if-lacks.true in
    (resume_skip _ _ _ _ _ _ _ _ _ c.args.cur.plain p.0 p.1 p.3.live c.if-len-c.false _ n dead _ _ b.0, b.1)

pub narrow-fronts-requires : goal.narrow-fronts-requires
narrow-fronts-requires t c = able_kept _ _ _ _ _ _ _ c.requires.2 (kept_same _ _ _) c.look-scan.auto.hints

pub resume-walk-requires : goal.resume-walk-requires
resume-walk-requires t c =
    let p = c.requires in
    let n = c.push-next.ensures in
    let s = c.look-scan in
    let w = c.narrow-fronts in
    let small = resume_small p.0 p.1 c.if-len-c.false in
    let more = resume_next p.0 p.1 c.if-len-c.false n in
    let look = looks_at small.3 s.ensures in
    let live = sym (next_dead c.args.cur.plain p.0 small.3 look small.1 n _ c.from.ensures _ c.lacks.ensures) ∙ c.if-lacks.false in
    let opened = next_open c.args.cur.plain p.0 small.3 look small.1 n _ _ (next_ruled c.args.cur.plain p.0 small.3 look small.1 n) live _ _ w.ensures _ (omega (arith, p.2.hints, w.auto.hints, s.auto.hints)) in
    (omega (arith, small.3), (more.0, more.1, able_narrowed _ _ _ _ _ _ _ _ _ p.2 w.ensures (w.auto.hints ∙ s.auto.hints), opened))

pub returns-then-self-walk : goal.returns-then-self-walk
returns-then-self-walk t c =
    let p = c.requires in
    let r = c.resume-walk in
    (resume_on _ _ _ _ _ _ _ _ _ c.args.cur.plain p.0 p.1 p.3.live c.if-len-c.false _ c.push-next.ensures _ _ r.ensures.0 _ _ (sym (runs_shut _ _ _ _ _ _ (shut_steps _ _ r.result c.if-self-walk.true))), kept_below _ _ _ _ _ _ _ r.new.places _ p.2 c.narrow-fronts.ensures r.ensures.1)

pub below-requires-2 : goal.below-requires-2
below-requires-2 t c =
    let p = c.requires in
    let r = c.resume-walk in
    let k = kept_below _ _ _ _ _ _ _ r.new.places _ p.2 c.narrow-fronts.ensures r.ensures.1 in
    (ready_same _ _ _ _ _ _ p.0 r.auto.room, able_kept _ _ _ _ _ _ _ p.2 k (r.auto.hints ∙ c.narrow-fronts.auto.hints ∙ c.look-scan.auto.hints), looks_later k c.look-scan.ensures)

pub returns : goal.returns
returns t c =
    let p = c.requires in
    let r = c.resume-walk in
    let b = c.below-2 in
    (resume_on _ _ _ _ _ _ _ _ _ c.args.cur.plain p.0 p.1 p.3.live c.if-len-c.false _ c.push-next.ensures _ _ r.ensures.0 _ _ b.ensures.0, kept_on _ _ _ _ _ (kept_below _ _ _ _ _ _ _ r.new.places _ p.2 c.narrow-fronts.ensures r.ensures.1) b.ensures.1)
