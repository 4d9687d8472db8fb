-- `books::rules::kept` meets its contract: by cases on the family (Family).
use Rattle.books.proofs.laws.Family.{family_test, family_horn, family_dual, family_bijunctive}
use Rattle.books.proofs.rules.kept.Goals as goal

pub returns-in-General : goal.returns-in-General
returns-in-General c = family_test _ _ _ c.in-General.ensures

pub returns-in-Horn : goal.returns-in-Horn
returns-in-Horn c = family_horn _ _ _ _ _ c.in-Horn.ensures c.requires c.few.ensures

pub returns-in-Dual : goal.returns-in-Dual
returns-in-Dual c = family_dual _ _ _ _ _ c.in-Dual.ensures c.requires c.few-in-Dual.ensures

pub returns-in-Bijunctive : goal.returns-in-Bijunctive
returns-in-Bijunctive c = family_bijunctive _ _ _ _ c.in-Bijunctive.ensures
