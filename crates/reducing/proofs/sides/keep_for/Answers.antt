-- `reducing::sides::keep_for` meets its contract. The invariant: what stays of the literals passed is kept (KeptFrom).
use Rattle.std.proofs.Common.{arith, sym, ◌∙◌}
use Rattle.reducing.proofs.laws.Trim.{left_known, left_keeps}
use Rattle.reducing.proofs.laws.Kept.{keep_common, keep_found, keep_passed, kept_start, kept_on, kept_same, kept_end}
use Rattle.reducing.proofs.sides.keep_for.Goals as goal

pub loop-literal-init : goal.loop-literal-init
loop-literal-init c =
    rw (c.into_iter-literal-iterator.ensures.into_iter_gives, c.chunks_exact-literal-items.ensures.rest, c.empty-kept.ensures)
    (c.chunks_exact-literal-items.ensures.size, kept_start _ c.literals.ensures.bytes c.requires.1 c.literals.ensures.few)

pub keep-requires : goal.keep-requires
keep-requires c =
    let s = c.in-Some.ensures.steps in
    left_keeps c.loop-literal.invariant.1.left _ _ s.1.0 (s.1.1 ∙ c.loop-literal.invariant.0)

pub loop-literal-preserved-then-not-scarce : goal.loop-literal-preserved-then-not-scarce
loop-literal-preserved-then-not-scarce c =
    let s = c.in-Some.ensures.steps in
    let size = c.loop-literal.invariant.0 in
    (s.0 ∙ size, kept_on c.loop-literal.invariant.1 _ _ s.1.0 (s.1.1 ∙ size) (keep_common _ _ _ _ (sym c.scarce.ensures ∙ c.if-not-scarce.true)) c.keep.ensures)

pub serves-requires : goal.serves-requires
serves-requires c =
    let s = c.in-Some.ensures.steps in
    let three = s.1.1 ∙ c.loop-literal.invariant.0 in
    (omega (arith, three), left_known c.loop-literal.invariant.1.left _ _ s.1.0 three, c.requires.0)

pub keep-requires-then-serves : goal.keep-requires-then-serves
keep-requires-then-serves c =
    let s = c.in-Some.ensures.steps in
    left_keeps c.loop-literal.invariant.1.left _ _ s.1.0 (s.1.1 ∙ c.loop-literal.invariant.0)

pub loop-literal-preserved-then-serves : goal.loop-literal-preserved-then-serves
loop-literal-preserved-then-serves c =
    let s = c.in-Some.ensures.steps in
    let size = c.loop-literal.invariant.0 in
    (s.0 ∙ size, kept_on c.loop-literal.invariant.1 _ _ s.1.0 (s.1.1 ∙ size) (keep_found _ _ _ (sym c.scarce.ensures ∙ c.if-not-scarce.false) _ (sym c.serves.ensures ∙ c.if-serves.true)) c.keep-then-serves.ensures)

pub loop-literal-preserved : goal.loop-literal-preserved
loop-literal-preserved c =
    let s = c.in-Some.ensures.steps in
    let size = c.loop-literal.invariant.0 in
    (s.0 ∙ size, kept_same c.loop-literal.invariant.1 _ _ s.1.0 (s.1.1 ∙ size) (keep_passed _ _ _ (sym c.scarce.ensures ∙ c.if-not-scarce.false) _ (sym c.serves.ensures ∙ c.if-serves.false)))

pub returns : goal.returns
returns c = let s = c.in-None.ensures.steps in kept_end c.loop-literal.invariant.1 (omega (arith, s.1.0, c.loop-literal.invariant.0))
