-- `books::records::put` meets its contract: what does not fit is not written (puts_nothing).
use native.Mathlib.Omega.{arith}
use Rattle.books.proofs.laws.Records.{puts_nothing}
use Rattle.books.proofs.records.put.Goals as goal

pub returns-then-room-next : goal.returns-then-room-next
returns-then-room-next c = search (puts_nothing, arith)
