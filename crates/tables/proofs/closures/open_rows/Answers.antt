-- The family says which rows are asked for (open_by).
use Rattle.std.proofs.Common.{refl}
use Rattle.tables.proofs.laws.Closures.{open_by}
use Rattle.tables.proofs.closures.open_rows.Goals as goal

pub returns-in-General : goal.returns-in-General
returns-in-General c = open_by _ _ _ _ _ c.of.ensures c.in-General.is refl

pub returns-in-Horn : goal.returns-in-Horn
returns-in-Horn c = open_by _ _ _ _ _ c.of.ensures c.in-Horn.is c.open_pair.ensures

pub returns-in-Dual : goal.returns-in-Dual
returns-in-Dual c = open_by _ _ _ _ _ c.of.ensures c.in-Dual.is c.open_pair-in-Dual.ensures

pub returns-in-Bijunctive : goal.returns-in-Bijunctive
returns-in-Bijunctive c = open_by _ _ _ _ _ c.of.ensures c.in-Bijunctive.is c.open_triple.ensures
