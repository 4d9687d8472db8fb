-- Known: every setting of a rule is one of l.
use mathlib.Core.List.{[], ◌∷◌}
use lib.ListN.{length}
use Rattle.meaning.specs.Rows.{Sizes}
use Rattle.meaning.specs.Rules.{Rule, AllFit}
use Rattle.literals.specs.Inner.{Known}

pub fit_known : (ns : Sizes) (r : Rule) → AllFit ns r → Known (length ns) r
fit_known ns [] f = tt
fit_known ns (c ∷ r) f = (f.0.known, fit_known ns r f.1)
