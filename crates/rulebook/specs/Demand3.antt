-- Demand 3: any accepted book, typed or made, listed page by page, ends, and shows every permitted combination exactly once, ascending.
use Rattle.std.specs.Prelude.{ℕ, ◌≤◌, ◌≡◌, ◌↔◌, false, T, length}
use mathlib.Core.List.{List, [], Memᴰ}
use Rattle.meaning.specs.Lists.{keep, is_nil, Ascends}
use Rattle.meaning.specs.Rows.{Row, Sizes, alike, within, begins, before}
use Rattle.meaning.specs.Rules.{Rule, all_met}
use Rattle.meaning.specs.Bytes.{rules_in}
use Rattle.meaning.specs.Listing.{dead, combinations, visits, after, Visited}
use Rattle.meaning.proofs.Dead as deadness
use Rattle.meaning.proofs.Visited as visited
use Rattle.meaning.proofs.Shown as shown
use Rattle.books.specs.Format.{Book, read_of}
use Rattle.listing.specs.Cursors.{cursor_of, prefix_of}
use Rattle.listing.specs.Pages.{page_of}
use Rattle.listing.proofs.laws.Promise as promise
use Rattle.listing.specs.Promise.{run_of, all_made, last_done, Enough, Whole, finished_in, steps_in}

module _ (b : List ℕ) (n l family k : ℕ) (accepted : read_of b ≡ Book n l family k) where
  -- 'Any accepted book, typed or made, listed page by page with any room and budget, ends, and shows every permitted combination
  -- exactly once, ascending; the reported steps add up to 01's visits.' The calls ks are lent rooms and budgets, one for each page:
  -- each room has space for a row, each budget is from 1 to 65,535, and there are as many pages as it may take
  pub listed_whole : (ks : List (List ℕ × ℕ)) → Enough l ks → 1 ≤ length ks → length (visits (alike n l) (dead (rules_in b))) ≤ length ks
      → Whole b n l family k accepted (run_of b ks (cursor_of []))
  listed_whole = promise.listing_whole b n l family k accepted

  -- and no listing takes more pages than there are visits: while it is not finished, each page has made a step
  pub listed_moves : (ks : List (List ℕ × ℕ)) → Enough l ks → last_done false (run_of b ks (cursor_of [])) ≡ false → length ks ≤ all_made (run_of b ks (cursor_of []))
  listed_moves = promise.listing_moves b n l family k accepted

  -- 'finished, which is yes exactly when no visited prefix comes after that', from any cursor within the sizes, visited or not
  pub finished_when : (q : Row) (room : List ℕ) (budget : ℕ) → T (begins (alike n l) q) → (l ≤ length room) × (1 ≤ budget) × (budget ≤ 65535)
      → finished_in (page_of b (cursor_of q) budget room).0.outcome ≡ is_nil (after (alike n l) (dead (rules_in b)) (prefix_of (page_of b (cursor_of q) budget room).0.cursor))
  finished_when = promise.page_finished b n l family k accepted

  -- 'An unfinished page has made at least one step'
  pub unfinished_moves : (q : Row) (room : List ℕ) (budget : ℕ) → T (begins (alike n l) q) → (l ≤ length room) × (1 ≤ budget) × (budget ≤ 65535)
      → finished_in (page_of b (cursor_of q) budget room).0.outcome ≡ false → 1 ≤ steps_in (page_of b (cursor_of q) budget room).0.outcome
  unfinished_moves = promise.page_steps b n l family k accepted

-- what is shown: exactly the combinations within the sizes that meet every rule, each before all that follow, so each once
pub permitted_exact : (ns : Sizes) (rules : List Rule) (x : Row) → Memᴰ x (keep (λ x. all_met rules x) (combinations ns)) ↔ (T (within ns x) × T (all_met rules x))
permitted_exact = shown.permitted_exact

pub permitted_ascending : (ns : Sizes) (rules : List Rule) → Ascends before (keep (λ x. all_met rules x) (combinations ns))
permitted_ascending = shown.permitted_ascending

-- the visits: exactly the nonempty prefixes within the sizes whose prefix one shorter is live, each before all that follow
pub visits_exact : (ns : Sizes) (rules : List Rule) (x : Row) → Memᴰ x (visits ns (dead rules)) ↔ Visited ns (dead rules) x
visits_exact ns rules = visited.visits_exact ns (dead rules) (deadness.dead_below rules)

pub visits_ascending : (ns : Sizes) (rules : List Rule) → Ascends before (visits ns (dead rules))
visits_ascending ns rules = visited.visits_ascending ns (dead rules)
