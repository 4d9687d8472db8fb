-- What each call tells: document 01's number, 0 for success, and the values that it gives, in their order.
use Rattle.std.specs.Prelude.{ℕ, ◌≡◌, refl, Bool, cond, List, [], ◌∷◌, ◌++◌, Option, Some, None, Result, Ok, Err}
use Rattle.tables.specs.declared.Flaw.{Flaw}
use Rattle.tables.specs.Check as check
use Rattle.makers.specs.declared.Made.{Made}
use Rattle.makers.specs.declared.Unmade.{Unmade}
use Rattle.makers.specs.Made as made
use Rattle.books.specs.declared.Fault.{Fault}
use Rattle.books.specs.declared.Head.{Head}
use Rattle.books.specs.declared.Untested.{Untested}
use Rattle.books.specs.declared.Untested.TheVariants.{Faulty, Length, Value}
use Rattle.books.specs.Faults as faults
use Rattle.listing.specs.declared.paging.Listed.{Listed}
use Rattle.listing.specs.declared.paging.Unlisted.{Unlisted}
use Rattle.listing.specs.declared.paging.Unlisted.TheVariants.{BadCursor, NoRoom, BadBudget, Faulty as Unread}

abbrev pub Told : Type 0
Told = ℕ × List ℕ

abbrev pub flaw_told : Flaw → Told
flaw_told f = (check.number_of f, check.values_of f)

abbrev pub fault_told : Fault → Told
fault_told f = (faults.number_of f, faults.values_of f)

-- the number of rows
abbrev pub checked_told : Result ℕ Flaw → Told
checked_told (Ok k) = (0, k ∷ [])
checked_told (Err f) = flaw_told f

-- the book's length and its number of rules
abbrev pub made_told : Result Made Unmade → Told
made_told m = (made.number_of m, made.values_of m)

-- n, l, family and number of rules
abbrev pub reading_told : Result Head Fault → Told
reading_told (Ok h) = (0, h.n ∷ h.l ∷ h.family ∷ h.rules ∷ [])
reading_told (Err f) = fault_told f

-- 1 if permitted, else 0 and the number of the first rule not met
abbrev pub tested_told : Result (Option ℕ) Untested → Told
tested_told (Ok None) = (0, 1 ∷ [])
tested_told (Ok (Some k)) = (0, 0 ∷ k ∷ [])
tested_told (Err (Faulty f)) = fault_told f
tested_told (Err Length) = (16, [])
tested_told (Err (Value p)) = (17, p ∷ [])

-- the number of rows, of steps, and 1 if finished
abbrev pub outcome_told : Result Listed Unlisted → Told
outcome_told (Ok p) = (0, p.rows ∷ p.steps ∷ cond p.finished 1 0 ∷ [])
outcome_told (Err (Unread f)) = fault_told f
outcome_told (Err BadCursor) = (18, [])
outcome_told (Err BadBudget) = (19, [])
outcome_told (Err NoRoom) = (20, [])

-- ---- refusals in order

-- a refusal of a call: its number, whether it applies, and what it gives
abbrev pub Refusal : Type 0
Refusal = ℕ × Bool × List ℕ

-- the first that applies; success where none does
unfoldable pub first_of : List Refusal → Told → Told
first_of [] success = success
first_of (r ∷ rs) success = cond r.1 (r.0, r.2) (first_of rs success)

pub first_of_append : (rs ss : List Refusal) (t : Told) → first_of (rs ++ ss) t ≡ first_of rs (first_of ss t)
unfolding first_of
first_of_append [] ss t = refl
first_of_append (r ∷ rs) ss t = rw (first_of_append rs ss t)
