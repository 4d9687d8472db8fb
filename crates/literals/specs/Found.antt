-- Found: what a search for the first of some gives.
use Rattle.std.specs.Prelude.{ℕ, cond, Option, Some, None, ltb}

-- the number k of what is found among c; c stands for nothing found
abbrev pub found : ℕ → ℕ → Option ℕ
found c k = cond (ltb k c) (Some k) None
