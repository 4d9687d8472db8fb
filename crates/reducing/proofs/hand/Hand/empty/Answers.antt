-- `reducing::hand::Hand::empty` meets its contract: by computing, no literal stands in it.
use Rattle.std.proofs.Common.{refl, arith}
use Rattle.meaning.specs.Bytes.{encode_literals}
use Rattle.literals.specs.Inner.{literals_in}
use Rattle.reducing.proofs.hand.Hand.empty.Goals as goal

pub invariant_of-result : goal.invariant_of-result
unfolding encode_literals literals_in
invariant_of-result c = record { few = omega arith; room = refl; written = refl; blank = refl }

pub returns : goal.returns
unfolding literals_in
returns c = refl
