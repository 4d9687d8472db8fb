-- `reducing::counts::trim` meets its contract. The invariant: what stays of the literals passed is kept, and the numbers are those of what is left (TrimFrom).
use Rattle.std.proofs.Common.{refl, arith, sym, ◌∙◌}
use Rattle.meaning.proofs.Encoded.{encode_literals_length}
use Rattle.reducing.proofs.laws.Written.{rule_back}
use Rattle.reducing.proofs.laws.Trim.{left_known, left_keeps, trim_start, trim_spared, trim_kept, trim_end}
use Rattle.reducing.proofs.counts.trim.Goals as goal

pub tally-requires : goal.tally-requires
tally-requires c =
    let e = c.literals-literals.ensures.bytes in
    (refl, rw e (omega (arith, encode_literals_length c.args.h.now, c.literals-literals.ensures.few)), rw (rule_back e) c.requires)

pub loop-literal-init : goal.loop-literal-init
loop-literal-init c =
    rw (c.into_iter-literal-iterator.ensures.into_iter_gives, c.chunks_exact-literal-items.ensures.rest, c.empty-kept.ensures)
    (c.chunks_exact-literal-items.ensures.size, trim_start c.literals-literals.ensures.bytes c.requires c.literals-literals.ensures.few c.args.rows.now.few _ refl c.tally.ensures)

pub spare-requires : goal.spare-requires
spare-requires c =
    let s = c.in-Some.ensures.steps in
    let m = c.loop-literal.invariant.1 in
    let three = s.1.1 ∙ c.loop-literal.invariant.0 in
    (m.long, omega (arith, three), left_known m.left _ _ s.1.0 three)

pub lower-requires : goal.lower-requires
lower-requires c =
    let s = c.in-Some.ensures.steps in
    let m = c.loop-literal.invariant.1 in
    let three = s.1.1 ∙ c.loop-literal.invariant.0 in
    (m.long, omega (arith, three), left_known m.left _ _ s.1.0 three)

pub loop-literal-preserved-then-spare : goal.loop-literal-preserved-then-spare
loop-literal-preserved-then-spare c =
    let s = c.in-Some.ensures.steps in
    let size = c.loop-literal.invariant.0 in
    (s.0 ∙ size, trim_spared c.loop-literal.invariant.1 _ _ s.1.0 (s.1.1 ∙ size) c.args.rows.now.few (sym c.if-spare.true ∙ c.spare.ensures) c.lower.ensures)

pub keep-requires : goal.keep-requires
keep-requires c =
    let s = c.in-Some.ensures.steps in
    left_keeps c.loop-literal.invariant.1.left _ _ s.1.0 (s.1.1 ∙ c.loop-literal.invariant.0)

pub loop-literal-preserved : goal.loop-literal-preserved
loop-literal-preserved c =
    let s = c.in-Some.ensures.steps in
    let size = c.loop-literal.invariant.0 in
    (s.0 ∙ size, trim_kept c.loop-literal.invariant.1 _ _ s.1.0 (s.1.1 ∙ size) (sym c.if-spare.false ∙ c.spare.ensures) c.keep.ensures)

pub returns : goal.returns
returns c = let s = c.in-None.ensures.steps in trim_end c.loop-literal.invariant.1 (omega (arith, s.1.0, c.loop-literal.invariant.0))
