-- `makers::rows::Source::book` meets its contract: what is needed decides, and a book that fits is written whole.
use Rattle.makers.proofs.laws.Writing.{book_refused, book_writable, book_written}
use Rattle.makers.proofs.rows.Source.book.Goals as goal

pub returns-then-room-most : goal.returns-then-room-most
returns-then-room-most c = search book_refused

pub write-length-requires : goal.write-length-requires
write-length-requires c = search book_writable

pub returns : goal.returns
returns c = search book_written
