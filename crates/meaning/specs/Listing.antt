-- Listing: dead and live prefixes, the visited ones in order, and a page.
use Rattle.std.specs.Prelude.{ℕ, zero, suc, Bool, true, false, cond, not, ◌&&◌, ◌||◌, List, [], ◌∷◌, ◌++◌, map, ◌≡◌, ltb, eqb, T, length}
use Rattle.meaning.specs.Lists.{each, keep, is_nil, last_or}
use Rattle.meaning.specs.Rows.{Row, Sizes, before, begins}
use Rattle.meaning.specs.Rules.{Rule, setting, met}

-- all its literals are on the first k settings
unfoldable pub decided : ℕ → Rule → Bool
decided k [] = true
decided k (c ∷ r) = ltb (setting c) k && decided k r

-- dead: some rule has all its literals on settings within the prefix and none holds
unfoldable pub dead : List Rule → Row → Bool
dead [] p = false
dead (r ∷ rs) p = (decided (length p) r && not (met r p)) || dead rs p

-- every combination within the sizes, ascending
abbrev pub combinations : Sizes → List Row
combinations [] = [] ∷ []
combinations (n ∷ ns) = each (λ v. map (λ s. v ∷ s) (combinations ns)) 0 n

module _ (d : Row → Bool) where
  -- what is visited below the prefix p, in order; ns: the sizes of the settings that remain.
  -- Below a dead prefix nothing is; below a live one, for each next value, the prefix one longer and what is below it
  abbrev pub below : Sizes → Row → List Row
  below [] p = []
  below (n ∷ ns) p = let r = each (λ v. (p ++ (v ∷ [])) ∷ below ns (p ++ (v ∷ []))) 0 n in cond (d p) [] r

-- the visited prefixes, in order
abbrev pub visits : Sizes → (Row → Bool) → List Row
visits ns d = below d ns []

-- a visited prefix that is written as a row: live and of full length
abbrev pub shown : Sizes → (Row → Bool) → Row → Bool
shown ns d p = eqb (length p) (length ns) && not (d p)

-- the room that is left, where suc room was: a row takes one
abbrev pub less : Bool → ℕ → ℕ
less true room = room
less false room = suc room

-- of the prefixes to come, those that a page visits: it stops when none is left, when the steps equal the budget,
-- or when as many rows as fit are written
abbrev pub front : (Row → Bool) → ℕ → ℕ → List Row → List Row
front is_shown room budget [] = []
front is_shown zero budget (x ∷ xs) = []
front is_shown (suc room) zero (x ∷ xs) = []
front is_shown (suc room) (suc budget) (x ∷ xs) = x ∷ front is_shown (less (is_shown x) room) budget xs

pub record Page : Type 0 where
  pub rows : List Row
  pub steps : ℕ
  pub last : Row
  pub finished : Bool

module _ (ns : Sizes) (d : Row → Bool) where
  -- the visited prefixes after c
  abbrev pub after : Row → List Row
  after c = keep (before c) (visits ns d)

  -- the page from c with room for so many rows and a budget of so many steps
  abbrev pub page : ℕ → ℕ → Row → Page
  page room budget c =
      let seen = front (shown ns d) room budget (after c) in
      record { rows = keep (shown ns d) seen; steps = length seen; last = last_or c seen; finished = is_nil (after (last_or c seen)) }

-- a nonempty prefix within the sizes, one value longer than a live one
pub record Visited (ns : Sizes) (d : Row → Bool) (x : Row) : Type 0 where
  pub shorter : Row
  pub value : ℕ
  pub longer : x ≡ shorter ++ (value ∷ [])
  pub inside : T (begins ns x)
  pub live : d shorter ≡ false
