-- The answers in numbers: document 01's number for each case, and the values that it gives. 0 is no refusal.
use Rattle.std.specs.Prelude.{ℕ, List, [], ◌∷◌, Result, Ok, Err}
use Rattle.books.specs.declared.Fault.{Fault}
use Rattle.books.specs.declared.Fault.TheVariants.{Cut, Mark, Field, Order, Idle, Family, Trailing}
use Rattle.books.specs.declared.Head.{Head}

abbrev pub number_of : Fault → ℕ
number_of (Cut p) = 9
number_of (Mark p) = 10
number_of (Field p) = 11
number_of (Order p) = 12
number_of (Idle p) = 13
number_of (Family p) = 14
number_of (Trailing p) = 15

-- the place
abbrev pub values_of : Fault → List ℕ
values_of (Cut p) = p ∷ []
values_of (Mark p) = p ∷ []
values_of (Field p) = p ∷ []
values_of (Order p) = p ∷ []
values_of (Idle p) = p ∷ []
values_of (Family p) = p ∷ []
values_of (Trailing p) = p ∷ []

abbrev pub reading_number : Result Head Fault → ℕ
reading_number (Ok h) = 0
reading_number (Err f) = number_of f

abbrev pub reading_values : Result Head Fault → List ℕ
reading_values (Ok h) = h.n ∷ h.l ∷ h.family ∷ h.rules ∷ []
reading_values (Err f) = values_of f
