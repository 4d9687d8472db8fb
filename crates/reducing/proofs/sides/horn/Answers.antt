-- `reducing::sides::horn` meets its contract: by the number of scarce literals (Reduced).
use Rattle.std.proofs.Common.{◌∙◌}
use Rattle.reducing.proofs.laws.Written.{rule_back}
use Rattle.reducing.proofs.laws.Reduced.{known_common, reduced_few, reduced_many}
use Rattle.reducing.proofs.sides.horn.Goals as goal

pub returns-then-scarces-lt2 : goal.returns-then-scarces-lt2
returns-then-scarces-lt2 c =
    let same = rw (rule_back c.literals.ensures.bytes) at c.scarces.ensures in
    reduced_few _ _ _ _ same c.if-scarces-lt2.true

pub extreme-combined-requires : goal.extreme-combined-requires
extreme-combined-requires c =
    rw (rule_back c.literals-2.ensures.bytes, c.keep_for-common.ensures) (known_common _ _ _ c.requires)

pub returns : goal.returns
returns c =
    let same = rw (rule_back c.literals.ensures.bytes) at c.scarces.ensures in
    let those = rw (rule_back c.literals-2.ensures.bytes, c.keep_for-common.ensures) at c.extreme-combined.ensures in
    c.keep_for.ensures ∙ rw those (reduced_many _ _ _ _ same c.if-scarces-lt2.false)
