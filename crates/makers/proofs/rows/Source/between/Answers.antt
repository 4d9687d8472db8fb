-- `makers::rows::Source::between` meets its contract: what differs before, with both literals, is the middle rule.
use Rattle.std.proofs.Common.{rules}
use Rattle.makers.proofs.laws.Middle.{apart_few, apart_more, apart_known, apart_sent, apart_none}
use Rattle.makers.proofs.rows.Source.between.Goals as goal

pub push-requires : goal.push-requires
push-requires c = search apart_few

pub push-requires-then-apart : goal.push-requires-then-apart
push-requires-then-apart c = search apart_more

pub send-requires : goal.send-requires
send-requires c = (search apart_known, search rules)

pub returns-then-apart : goal.returns-then-apart
returns-then-apart c = search apart_sent

pub returns-else-apart : goal.returns-else-apart
returns-else-apart c = search apart_none
