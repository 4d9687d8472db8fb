-- A rule of a book by its number, as the part of the lent bytes that holds its record.
use Rattle.std.specs.Prelude.{ℕ, ◌+◌, ◌-◌, ◌≡◌, cond, List, [], ltb, length, take, drop, Result, Ok, Err}
use Rattle.std.specs.Borrow.{Bor}
use Rattle.meaning.specs.Bytes.{end_at, place_at}
use Rattle.books.specs.declared.part.RulePart.{RulePart}
use Rattle.books.specs.declared.Fault.{Fault}
use Rattle.books.specs.declared.Head.{Head}
use Rattle.books.specs.Format.{read_of}

-- how many rules there are to ask for: none in a faulty book
abbrev pub count_of : Result Head Fault → ℕ
count_of (Ok h) = h.rules
count_of (Err f) = 0

-- the record of the rule whose mark is at place p
abbrev pub record_at : List ℕ → ℕ → List ℕ
record_at b p = take (end_at b p - p) (drop p b)

-- the bytes of rule `number`, and their place: no bytes, at the end of what was lent, where there is no such rule
unfoldable pub part_of : List ℕ → ℕ → List ℕ
part_of b number = cond (ltb number (count_of (read_of b))) (record_at b (place_at b 7 number)) []

unfoldable pub part_place : List ℕ → ℕ → ℕ
part_place b number = cond (ltb number (count_of (read_of b))) (place_at b 7 number) (length b)

-- its place and its length
abbrev pub part_where : List ℕ → ℕ → RulePart
part_where b number = record { place = part_place b number; length = length (part_of b number) }

-- r is the part of the lent bytes that begins at place p and has these bytes
pub record IsPart (lent r : Bor (List ℕ)) (p : ℕ) (bytes : List ℕ) : Type 0 where
  pub block : r.ref_ptr.0 ≡ lent.ref_ptr.0
  pub offset : r.ref_ptr.1 ≡ p + lent.ref_ptr.1
  pub bytes_are : r.now ≡ bytes
