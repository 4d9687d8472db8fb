-- `literals::records::rule_met` meets its contract: the part of the book has the rule's literals (Chunks).
use Rattle.literals.proofs.laws.Chunks.{literals_there}
use Rattle.literals.proofs.records.rule_met.Goals as goal

pub met-requires : goal.met-requires
met-requires c = rw (c.literals_of.ensures, literals_there _ _ _ c.requires.inside) c.requires.known

pub returns : goal.returns
returns c = rw (c.met.ensures, c.literals_of.ensures, literals_there _ _ _ c.requires.inside)
