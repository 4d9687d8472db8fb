use native.Mathlib.Omega.{arith}
use Rattle.listing.proofs.laws.Values.{without_none, without_some, without_low, without_sum, without_both}
use Rattle.listing.proofs.values.without.Goals as goal

pub returns-then-high-low : goal.returns-then-high-low
returns-then-high-low c = search (without_none, arith)

pub nonzero_rem-kept : goal.nonzero_rem-kept
nonzero_rem-kept c = search (without_some, arith)

pub returns-then-high-eq64 : goal.returns-then-high-eq64
returns-then-high-eq64 c = search (without_low, arith)

pub overflow_add-result : goal.overflow_add-result
overflow_add-result c = search (without_sum, arith)

pub returns : goal.returns
returns c = search (without_both, arith)
