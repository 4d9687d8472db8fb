-- Answers: what a call tells, as C gets it.
use Rattle.std.specs.Prelude.{ℕ, ◌-◌, List, ◌++◌, length, replicate, ◌≡◌, Result}
use Rattle.makers.specs.declared.Made.{Made}
use Rattle.makers.specs.declared.Unmade.{Unmade}
use Rattle.listing.specs.declared.paging.Paged.{Paged}
use Rattle.rulebook.specs.Told.{Told, made_told, outcome_told}
use Rattle.rulebook_c.specs.declared.answers.Answer.{Answer}
use Rattle.rulebook_c.specs.declared.answers.PageAnswer.{PageAnswer}

-- the number, and four values, zeros behind those that the call gives
abbrev pub answer_of : Told → Answer
answer_of t = record { number = t.0; gives = t.1 ++ replicate (4 - length t.1) 0 }

-- what making gives: the answer, and the bytes of the room
abbrev pub made_answer : Result Made Unmade × List ℕ → Answer × List ℕ
made_answer m = (answer_of (made_told m.0), m.1)

-- what a page gives: the answer with the cursor, and the bytes of the room
abbrev pub paged_of : Paged → PageAnswer
paged_of p = record { answer = answer_of (outcome_told p.outcome); cursor = p.cursor }

abbrev pub page_answer : Paged × List ℕ → PageAnswer × List ℕ
page_answer p = (paged_of p.0, p.1)

-- what x tells, where x is y
pub told : {A : Type 0} (g : A → Told) (r : Answer) (x y : A) → x ≡ y → r ≡ answer_of (g y) → r ≡ answer_of (g x)
told g r x y e h = rw e h
