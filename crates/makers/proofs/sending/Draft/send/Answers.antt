-- `makers::sending::Draft::send` meets its contract: the bytes are the rule's literals, so that its record is that of the rule.
use Rattle.std.proofs.Common.{refl, rules}
use Rattle.makers.proofs.laws.Sending.{send_put, send_few}
use Rattle.makers.proofs.sending.Draft.send.Goals as goal

pub put_rule-self-requires : goal.put_rule-self-requires
put_rule-self-requires c = (search rules, send_few _ _ c.literals.ensures.bytes c.literals.ensures.few)

pub returns : goal.returns
returns c = record { few = c.literals.ensures.few; same_room = refl; state = search send_put }
