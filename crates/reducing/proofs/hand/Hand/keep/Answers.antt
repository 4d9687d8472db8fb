-- `reducing::hand::Hand::keep` meets its contract: the bytes are those that were there, and three more (Hand).
use Rattle.std.proofs.Common.{arith}
use Rattle.reducing.proofs.laws.Hand.{kept_room, kept_held, kept_rule}
use Rattle.reducing.proofs.hand.Hand.keep.Goals as goal

pub slice_bounds-copy_from_slice-end : goal.slice_bounds-copy_from_slice-end
slice_bounds-copy_from_slice-end c = omega (arith, kept_room c.self.invariant (rw (← c.self.view_is) at c.requires.0))

pub invariant_of-self : goal.invariant_of-self
invariant_of-self c =
    rw c.copy_from_slice.ensures.after
    (kept_held c.self.invariant (rw (← c.self.view_is) at c.requires.0) c.args.literal.now c.requires.1 c.requires.2)

pub returns : goal.returns
returns c =
    rw (c.copy_from_slice.ensures.after, ← c.self.view_is)
    (kept_rule c.self.invariant (rw (← c.self.view_is) at c.requires.0) c.args.literal.now c.requires.1)
