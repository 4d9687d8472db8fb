-- Testing a combination: book faults, its length, its values, then the first rule not met.
use Rattle.std.specs.Prelude.{ℕ, suc, cond, List, [], ◌∷◌, ltb, eqb, length, Option, Some, None, Result, Ok, Err}
use Rattle.meaning.specs.Rows.{Row, Sizes, alike}
use Rattle.meaning.specs.Rules.{Rule, met}
use Rattle.meaning.specs.Bytes.{rules_in}
use Rattle.literals.specs.Found.{found}
use Rattle.books.specs.declared.Fault.{Fault}
use Rattle.books.specs.declared.Head.{Head}
use Rattle.books.specs.declared.Untested.{Untested}
use Rattle.books.specs.declared.Untested.TheVariants.{Faulty, Length, Value}
use Rattle.books.specs.Format.{read_of}

-- the number of the first rule not met; the number of rules, where all are met
unfoldable pub first_unmet : List Rule → Row → ℕ
first_unmet [] x = 0
first_unmet (r ∷ rs) x = cond (met r x) (suc (first_unmet rs x)) 0

-- the place of the first value that is not below its setting's size; the number of values, where all are
unfoldable pub first_over : Sizes → Row → ℕ
first_over ns [] = 0
first_over [] (v ∷ x) = 0
first_over (n ∷ ns) (v ∷ x) = cond (ltb v n) (suc (first_over ns x)) 0

-- the answers to a test: permitted, or the number of the first rule that is not met
abbrev pub Permitted : Result (Option ℕ) Untested
Permitted = Ok None

abbrev pub NotMet : ℕ → Result (Option ℕ) Untested
NotMet k = Ok (Some k)

-- a combination asked of rules over these sizes
unfoldable pub judge_of : Sizes → List Rule → Row → Result (Option ℕ) Untested
judge_of ns rs x =
    cond (eqb (length x) (length ns))
    (cond (ltb (first_over ns x) (length x)) (Err (Value (first_over ns x)))
    (Ok (found (length rs) (first_unmet rs x))))
    (Err Length)

abbrev pub judge_read : List ℕ → Row → Result Head Fault → Result (Option ℕ) Untested
judge_read b x (Ok h) = judge_of (alike h.n h.l) (rules_in b) x
judge_read b x (Err f) = Err (Faulty f)

unfoldable pub tested_of : List ℕ → Row → Result (Option ℕ) Untested
tested_of b x = judge_read b x (read_of b)
