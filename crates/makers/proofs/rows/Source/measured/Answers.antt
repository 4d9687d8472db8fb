-- `makers::rows::Source::measured` meets its contract: what is made does not depend on the room.
use Rattle.std.proofs.Common.{refl}
use Rattle.makers.proofs.laws.Measuring.{measured_sent}
use Rattle.makers.proofs.rows.Source.measured.Goals as goal

pub returns : goal.returns
returns c = measured_sent _ _ _ refl c.rules.ensures
