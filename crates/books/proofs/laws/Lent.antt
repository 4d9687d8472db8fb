-- Lent: the sizes of this edition as they are lent, the first l of sixteen bytes n.
use Rattle.meaning.proofs.Limits.{lent, lent_length, lent_sized}

pub ruleset lent_sizes = (lent, lent_length, lent_sized)
