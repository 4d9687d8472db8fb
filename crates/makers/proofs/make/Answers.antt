-- `makers::make` meets its contract: refusals 1 to 5 first, then those of a sound table.
use Rattle.std.proofs.lemmas.Result.{err_from_is_err_and}
use Rattle.makers.proofs.laws.Refusals.{made_flawed, made_sound, made_passes}
use Rattle.makers.proofs.make.Goals as goal

pub make_checked-requires : goal.make_checked-requires
make_checked-requires c = made_passes _ _ _ _ c.in_ok-check.ensures

pub returns-in_err-check : goal.returns-in_err-check
returns-in_err-check c =
    let p = err_from_is_err_and c.from_residual.result c.from_residual.ensures.1 in
    rw (p.1, p.2) (made_flawed _ _ _ _ _ _ c.in_err-check.ensures)

pub returns : goal.returns
returns c = made_sound _ _ _ _ _ _ _ c.in_ok-check.ensures c.make_checked.ensures
