-- The values so far are those that were asked for.
use Rattle.std.proofs.Common.{ℕ, ◌<◌, ◌≡◌, get_or, length}
use Rattle.tables.proofs.combine.filled.Given as goal

abbrev pub invariant-loop-k : goal.invariant-loop-k
invariant-loop-k g l = (length l.out ≡ 16) × ((k : ℕ) → k < l.k → goal.F-post g l.value k (get_or l.out k 0))
