-- `reducing::sides::join` meets its contract. The invariant: the first i values are combined (ChangeFrom).
use Rattle.std.proofs.Common.{get_or, rules, arith, add-one, ap, refl, drop-cons, ◌∙◌}
use Rattle.std.proofs.Math.Option.{some}
use Rattle.std.proofs.lemmas.List.{take_at}
use Rattle.std.proofs.Math.ListN.{drop_of_length-le}
use Rattle.meaning.specs.Families.{join}
use Rattle.reducing.proofs.laws.Counted.{change_start, change_turn, change_end}
use Rattle.reducing.proofs.laws.Joined.{joined_row}
use Rattle.reducing.proofs.sides.join.Goals as goal

pub loop-i-init : goal.loop-i-init
loop-i-init c = search (change_start, rules)

pub loop-i-preserved : goal.loop-i-preserved
loop-i-preserved c = change_turn c.loop-i.invariant {x = get_or c.args.row.now c.loop-i.i 0} (drop-cons c.args.row.now c.loop-i.i 0 c.loop-i-test.true ∙ rw add-one) (search (c.pick.ensures, rules))

pub returns-after-loop-i : goal.returns-after-loop-i
returns-after-loop-i c = rw c.in-Some.is (joined_row _ _ _ _ (omega arith) (change_end c.loop-i.invariant (drop_of_length-le c.args.row.now c.loop-i-test.false)))

pub returns-in-None : goal.returns-in-None
unfolding join
returns-in-None c = rw (c.in-None.is, c.copy_from_slice.ensures.after) (ap some (take_at c.args.row.now _ _ refl))
