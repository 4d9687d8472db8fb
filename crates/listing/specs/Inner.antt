-- Inner: the words that only inner contracts cite.
use Rattle.std.specs.Prelude.{ℕ, ◌≤◌, ◌<◌, ◌+◌, zero, suc, ◌/◌, ◌%◌, ◌^◌, ◌*◌, ◌-◌, List, [], ◌∷◌, ◌++◌, ◌≡◌, Bool, true, cond, false, ◌&&◌, ◌||◌, not, ◌⊎◌, Option, Some, None, length, get_or, set, T, leb, eqb, ltb}
use Rattle.meaning.specs.Rows.{Sizes, begins, Row, at}
use Rattle.meaning.specs.Lists.{All, each}
use Rattle.meaning.specs.Rules.{bound, Ordered, holds, met}
use Rattle.meaning.specs.Bytes.{rule_at, end_at, literal_at, rules_at, place_at, word_at}
use Rattle.meaning.specs.Listing.{dead, below}
use Rattle.meaning.specs.Inner.{all_last, Sized}
use Rattle.books.specs.Inner.{put_at}
use Rattle.listing.specs.declared.cursor.Cursor.{Cursor}
use Rattle.listing.specs.Cursors.{clean, cursor_ok, prefix_of, cursor_of}
use Rattle.listing.specs.declared.scan.Passed.{Passed}
use Rattle.listing.specs.declared.scan.Passed.TheVariants.{Holds, Left}
use Rattle.listing.specs.declared.scan.Judged.{Judged}
use Rattle.listing.specs.declared.scan.Span.{Span}
use Rattle.listing.specs.declared.scan.Scanned.{Scanned}
use Rattle.listing.specs.declared.steps.Walk.{Walk}

-- the contracts: the answer, and that a cursor has sixteen values, which a good one's prefix rests on
pub record Cleaned (c : Cursor) (r : Bool) : Type 0 where
  pub is : r ≡ clean c
  pub sixteen : length c.values ≡ 16

pub record Tested (ns : Sizes) (c : Cursor) (r : Bool) : Type 0 where
  pub is : r ≡ cursor_ok ns c
  pub sixteen : r ≡ true → length c.values ≡ 16

pub record Plain (c : Cursor) : Type 0 where
  pub short : c.len ≤ 16
  pub same : c ≡ cursor_of (prefix_of c)

abbrev pub push_of : Cursor → ℕ → Cursor
push_of c v = record { len = c.len + 1; values = set c.values c.len v }

pub record Good (ns : Sizes) (c : Cursor) : Type 0 where
  pub plain : Plain c
  pub deep : c.len ≤ length ns
  pub fits : T (begins ns (prefix_of c))

-- what the scan asks of the rule at place `at`: it ends inside the bytes, its literals stand in order, and each bound is below 64
pub record Stands (b : List ℕ) (at : ℕ) : Type 0 where
  pub inside : end_at b at ≤ length b
  pub ordered : Ordered 0 (rule_at b at)
  pub small : All (λ c. bound c < 64) (rule_at b at)

-- of k rules from place `at` on
abbrev pub AllStand : List ℕ → ℕ → ℕ → Type 0
AllStand b at zero = Unit {0}
AllStand b at (suc k) = Stands b at × AllStand b (end_at b at) k

-- of k literals from place p on: the first that is on a setting of the prefix x and holds; else what is left from the first on a
-- later setting on
unfoldable pub early_of : List ℕ → Row → ℕ → ℕ → Passed
early_of b x p zero = Left p 0
early_of b x p (suc k) =
    cond (leb (length x) (get_or b p 0)) (Left p (suc k)) (cond (holds (literal_at b p) x) (Holds p) (early_of b x (p + 3) k))

abbrev pub forbids : ℕ → ℕ → Judged
forbids low high = record { lasts = false; low = low; high = high; hint = None }

-- v is one of the values from low up to below high
abbrev pub between : ℕ → ℕ → ℕ → Bool
between low high v = leb low v && ltb v high

-- what k literals from p on, all on one setting, forbid there: "at most d" what is above d, "at least d" what is below d
unfoldable pub interval_of : List ℕ → ℕ → ℕ → Judged
interval_of b p k =
    cond (eqb k 0) (forbids 0 64)
    (cond (eqb (get_or b (p + 1) 0) 0)
    (cond (eqb k 1) (forbids (get_or b (p + 2) 0 + 1) 64) (forbids (get_or b (p + 2) 0 + 1) (get_or b (p + 5) 0)))
    (forbids 0 (get_or b (p + 2) 0)))

-- the contract: of the rule at place `at`, below the prefix x
pub record Judges (b : List ℕ) (at : ℕ) (x : Row) (j : Judged) : Type 0 where
  pub small : j.high ≤ 64
  pub values : (v : ℕ) → v < 64 → dead (rule_at b at ∷ []) (x ++ (v ∷ [])) ≡ between j.low j.high v
  pub closed : j.lasts ≡ false → (v : ℕ) (y : Row) → dead (rule_at b at ∷ []) (x ++ (v ∷ [])) ≡ false → dead (rule_at b at ∷ []) (x ++ (v ∷ y)) ≡ false

-- bit v of s
unfoldable pub bit : ℕ → ℕ → ℕ
bit s v = s / 2 ^ v % 2

-- the value is forbidden
unfoldable pub forbidden : ℕ → ℕ → Bool
forbidden s v = eqb (bit s v) 0

pub record Forbids (old : ℕ) (lo hi : ℕ) (new : ℕ) : Type 0 where
  pub is : (v : ℕ) → v < 64 → forbidden new v ≡ between lo hi v || forbidden old v

-- d, below the prefix x, is what the k rules from place `at` on say
pub record Window (b : List ℕ) (d : Row → Bool) (x : Row) (at k : ℕ) : Type 0 where
  pub few : k ≤ 24576
  pub stand : AllStand b at k
  pub tells : (y : Row) → d (x ++ y) ≡ dead (rules_at b at k) (x ++ y)

-- what a scan below x gives: the values of a set that may follow x, and a window for each of those prefixes
pub record Scans (b : List ℕ) (d : Row → Bool) (x : Row) (set : ℕ) (s : Scanned) : Type 0 where
  pub values : (v : ℕ) → v < 64 → forbidden s.allowed v ≡ d (x ++ (v ∷ [])) || forbidden set v
  pub stand : AllStand b s.at s.rules
  pub window : (v : ℕ) → d (x ++ (v ∷ [])) ≡ false → Window b d (x ++ (v ∷ [])) s.at s.rules

-- the span with rule i, whose mark is at place `at`, if it lasts
unfoldable pub widen_of : Option Span → Bool → ℕ → ℕ → Option Span
widen_of w false at i = w
widen_of None true at i = Some (record { at = at; first = i; end = i + 1 })
widen_of (Some s) true at i = Some (record { at = s.at; first = s.first; end = i + 1 })

-- if it says yes, whatever has the value v or more at setting i meets the rule at place p
pub record Passes (b : List ℕ) (p i v : ℕ) (r : Bool) : Type 0 where
  pub met_by : r ≡ true → (x y : Row) (u : ℕ) → length x ≡ i → v ≤ u → met (rule_at b p) (x ++ (u ∷ y)) ≡ true

-- of what has the value v or more at setting i, the `left` rules from place q on say what the k rules from place p on say
pub record Trims (b : List ℕ) (p k i v q left : ℕ) : Type 0 where
  pub few : left ≤ k
  pub stand : AllStand b q left
  pub same : (x y : Row) (u : ℕ) → length x ≡ i → v ≤ u → dead (rules_at b p k) (x ++ (u ∷ y)) ≡ dead (rules_at b q left) (x ++ (u ∷ y))

-- a place from lo up to below hi at which q has the element e
pub record Has (q : List ℕ) (lo hi e : ℕ) : Type 0 where
  pub at : ℕ
  pub above : lo ≤ at
  pub under : at < hi
  pub is : get_or q at 0 ≡ e

-- from p to q: within lo and hi the same elements in another order, outside them all as before
pub record Stirred (p q : List ℕ) (lo hi : ℕ) : Type 0 where
  pub long : length q ≡ length p
  pub low : (i : ℕ) → i < lo → get_or q i 0 ≡ get_or p i 0
  pub high : (i : ℕ) → hi ≤ i → get_or q i 0 ≡ get_or p i 0
  pub there : (i : ℕ) → lo ≤ i → i < hi → Has q lo hi (get_or p i 0)
  pub back : (i : ℕ) → lo ≤ i → i < hi → Has p lo hi (get_or q i 0)

abbrev pub swap_of : List ℕ → ℕ → ℕ → List ℕ
swap_of p i k = set (set p i (get_or p k 0)) k (get_or p i 0)

-- what a turn makes of the list and of k: a wanted element goes to place k
unfoldable pub settle_list : Bool → List ℕ → ℕ → ℕ → List ℕ
settle_list true p i k = swap_of p i k
settle_list false p i k = p

unfoldable pub settle_count : Bool → ℕ → ℕ
settle_count true k = k + 1
settle_count false k = k

module _ (wanted : ℕ → Bool) (p : List ℕ) (lo hi : ℕ) where
  -- what it comes to: from k on none is wanted
  pub record Parted (q : List ℕ) (k : ℕ) : Type 0 where
    pub from : lo ≤ k
    pub upto : k ≤ hi
    pub stirred : Stirred p q lo hi
    pub chosen : (j : ℕ) → lo ≤ j → j < k → wanted (get_or q j 0) ≡ true
    pub left : (j : ℕ) → k ≤ j → j < hi → wanted (get_or q j 0) ≡ false

-- the groups lie one behind the other: group g from place `starts g` up to below `starts (g + 1)`, its front part up to below `ends g`
pub record Laid (s e : List ℕ) (n : ℕ) : Type 0 where
  pub starts : length s ≡ 17
  pub ends : length e ≡ 16
  pub low : (g : ℕ) → g < 16 → get_or s g 0 ≤ get_or e g 0
  pub front : (g : ℕ) → g < 16 → get_or e g 0 ≤ get_or s (g + 1) 0
  pub apart : (g h : ℕ) → g < h → h < 16 → get_or s (g + 1) 0 ≤ get_or s h 0
  pub inside : (g : ℕ) → g < 16 → get_or s (g + 1) 0 ≤ n

-- the fronts of e are parts of those of f
pub record Within (e f : List ℕ) : Type 0 where
  pub under : (g : ℕ) → g < 16 → get_or e g 0 ≤ get_or f g 0

-- from p to q: in each front the same elements in another order, and in each group all else as before
pub record Kept (s e p q : List ℕ) : Type 0 where
  pub long : length q ≡ length p
  pub rest : (g i : ℕ) → g < 16 → get_or e g 0 ≤ i → get_or s g 0 ≤ i → i < get_or s (g + 1) 0 → get_or q i 0 ≡ get_or p i 0
  pub there : (g i : ℕ) → g < 16 → get_or s g 0 ≤ i → i < get_or e g 0 → Has q (get_or s g 0) (get_or e g 0) (get_or p i 0)
  pub back : (g i : ℕ) → g < 16 → get_or s g 0 ≤ i → i < get_or e g 0 → Has p (get_or s g 0) (get_or e g 0) (get_or q i 0)

-- the rule at place p is one that d goes by
pub record Entry (b : List ℕ) (d : Row → Bool) (p : ℕ) : Type 0 where
  pub stands : Stands b p
  pub tells : (z : Row) → dead (rule_at b p ∷ []) z ≡ true → d z ≡ true

-- an entry of group g's front that makes z dead
pub record Hit (b : List ℕ) (p s e : List ℕ) (g : ℕ) (z : Row) : Type 0 where
  pub at : ℕ
  pub above : get_or s g 0 ≤ at
  pub under : at < get_or e g 0
  pub kills : dead (rule_at b (get_or p at 0) ∷ []) z ≡ true

-- below x the fronts and the k rules from place `at` on say what d says
pub record Ruled (b : List ℕ) (d : Row → Bool) (x : Row) (p s e : List ℕ) (at k : ℕ) : Type 0 where
  pub few : k ≤ 24576
  pub stand : AllStand b at k
  pub tells : (y : Row) → dead (rules_at b at k) (x ++ y) ≡ true → d (x ++ y) ≡ true
  pub entries : (g i : ℕ) → g < 16 → get_or s g 0 ≤ i → i < get_or e g 0 → Entry b d (get_or p i 0)
  pub covers : (y : Row) (v : ℕ) → length (x ++ y) < 16 → d (x ++ y) ≡ false → d ((x ++ y) ++ (v ∷ [])) ≡ true
      → Hit b p s e (length (x ++ y)) ((x ++ y) ++ (v ∷ [])) ⊎ (dead (rules_at b at k) ((x ++ y) ++ (v ∷ [])) ≡ true)

pub record Shows (b : List ℕ) (p : ℕ) (x : Row) (r : Bool) : Type 0 where
  pub met_by : r ≡ true → (y : Row) → met (rule_at b p) (x ++ y) ≡ true

pub record Asks (b : List ℕ) (p : ℕ) (x : Row) (old new : ℕ) : Type 0 where
  pub is : (v : ℕ) → v < 64 → forbidden new v ≡ dead (rule_at b p ∷ []) (x ++ (v ∷ [])) || forbidden old v

pub record Askable (b : List ℕ) (x : Row) (p : List ℕ) (lo hi n : ℕ) : Type 0 where
  pub inside : hi ≤ length p
  pub hints : hi ≤ n
  pub low : lo ≤ hi
  pub entries : (i : ℕ) → lo ≤ i → i < hi → Stands b (get_or p i 0) × (dead (rule_at b (get_or p i 0) ∷ []) x ≡ false)

-- some entry makes z dead
pub record Killer (b : List ℕ) (p : List ℕ) (lo hi : ℕ) (z : Row) : Type 0 where
  pub at : ℕ
  pub above : lo ≤ at
  pub under : at < hi
  pub kills : dead (rule_at b (get_or p at 0) ∷ []) z ≡ true

-- the values that they forbid, and no other, are missing from the set
pub record Asked (b : List ℕ) (x : Row) (p : List ℕ) (lo hi set : ℕ) : Type 0 where
  pub missing : (v : ℕ) → v < 64 → forbidden set v ≡ true → Killer b p lo hi (x ++ (v ∷ []))
  pub all : (v : ℕ) → v < 64 → Killer b p lo hi (x ++ (v ∷ [])) → forbidden set v ≡ true

-- below the live prefix x: what decides there, in its place
pub record Open (b : List ℕ) (d : Row → Bool) (x : Row) (p s e : List ℕ) (at k n : ℕ) : Type 0 where
  pub ruled : Ruled b d x p s e at k
  pub live : d x ≡ false
  pub laid : Laid s e (length p)
  pub hints : length p ≤ n

-- the values that may follow x, and what decides below those prefixes, from the value `from` on
pub record Looks (b : List ℕ) (d : Row → Bool) (x : Row) (p s e : List ℕ) (from : ℕ) (r : Scanned) : Type 0 where
  pub values : (v : ℕ) → v < 64 → forbidden r.allowed v ≡ d (x ++ (v ∷ []))
  pub stand : AllStand b r.at r.rules
  pub next : (v : ℕ) → from ≤ v → d (x ++ (v ∷ [])) ≡ false → Ruled b d (x ++ (v ∷ [])) p s e r.at r.rules

-- the setting of the last literal of the rule at place p
abbrev pub last_of : List ℕ → ℕ → ℕ
last_of b p = get_or b (p + 3 * get_or b (p + 2) 0) 0

-- no literal of those passed holds
unfoldable pub is_open : Passed → Bool
is_open (Holds q) = false
is_open (Left q m) = true

-- does the prefix x leave the rule at place p open?
unfoldable pub open_of : List ℕ → Row → ℕ → Bool
open_of b x p = is_open (early_of b x (p + 3) (get_or b (p + 2) 0))

pub record Siftable (b p : List ℕ) (lo hi n : ℕ) : Type 0 where
  pub low : lo ≤ hi
  pub inside : hi ≤ length p
  pub hints : length p ≤ n
  pub ends : (i : ℕ) → lo ≤ i → i < hi → end_at b (get_or p i 0) ≤ length b

pub record Narrowable (b p s e : List ℕ) (n : ℕ) : Type 0 where
  pub laid : Laid s e (length p)
  pub hints : length p ≤ n
  pub ends : (g i : ℕ) → g < 16 → get_or s g 0 ≤ i → i < get_or e g 0 → end_at b (get_or p i 0) ≤ length b

-- from p and the fronts e to q and the fronts f: what decides below x still does
pub record Narrowed (b : List ℕ) (x : Row) (p s e q f : List ℕ) : Type 0 where
  pub kept : Kept s e p q
  pub within : Within f e
  pub laid : Laid s f (length q)
  pub ruled : (d : Row → Bool) (at k : ℕ) → Ruled b d x p s e at k → Ruled b d x q s f at k

-- space for groups of at most 4,096 entries together, and nothing entered yet
pub record Ladder (s e : List ℕ) : Type 0 where
  pub starts : length s ≡ 17
  pub ends : length e ≡ 16
  pub up : (g : ℕ) → g < 16 → get_or s g 0 ≤ get_or s (g + 1) 0
  pub top : (g : ℕ) → g < 16 → get_or s (g + 1) 0 ≤ 4096
  pub none : (g : ℕ) → g < 16 → get_or e g 0 ≡ get_or s g 0

-- if it says yes, the rules at places p and q are equal
pub record Same (b : List ℕ) (p q : ℕ) (r : Bool) : Type 0 where
  pub equal : r ≡ true → rule_at b p ≡ rule_at b q

-- the rule at place q stands inside the bytes, and that at place p too, unless p is 0
pub record Twice (b : List ℕ) (p q : ℕ) : Type 0 where
  pub old : (p ≡ 0 → ⊥) → end_at b p ≤ length b
  pub new : end_at b q ≤ length b

-- the same, where p may be 0, the place of no rule
pub record Again (b : List ℕ) (p q : ℕ) (r : Bool) : Type 0 where
  pub same : Same b p q r
  pub real : r ≡ true → p ≡ 0 → ⊥

-- a rule of the first n stands at place e
pub record OneOf (b : List ℕ) (n e : ℕ) : Type 0 where
  pub at : ℕ
  pub under : at < n
  pub is : e ≡ place_at b 7 at

-- an entry of group g for the first n rules: it stands at place e and has its last literal on setting g
pub record EntryOf (b : List ℕ) (n g e : ℕ) : Type 0 where
  pub one : OneOf b n e
  pub last : last_of b e ≡ g

-- in some front there is an entry whose rule is that at place q
pub record Entered (b p s e : List ℕ) (q : ℕ) : Type 0 where
  pub group : ℕ
  pub known : group < 16
  pub at : ℕ
  pub above : get_or s group 0 ≤ at
  pub under : at < get_or e group 0
  pub is : rule_at b (get_or p at 0) ≡ rule_at b q

-- the first n rules, each entered in the group of its last setting
pub record Grouped (b : List ℕ) (n : ℕ) (p s e : List ℕ) : Type 0 where
  pub laid : Laid s e (length p)
  pub entries : (g i : ℕ) → g < 16 → get_or s g 0 ≤ i → i < get_or e g 0 → EntryOf b n g (get_or p i 0)
  pub found : (k : ℕ) → k < n → Entered b p s e (place_at b 7 k)

-- the rule at place `at` has literals, its last one is on setting g, and group g has space
pub record HasSpace (b : List ℕ) (at : ℕ) (s e : List ℕ) (g : ℕ) : Type 0 where
  pub some : 0 < get_or b (at + 2) 0
  pub last : g ≡ last_of b at
  pub known : g < 16
  pub space : get_or e g 0 < get_or s (g + 1) 0

-- of so many rules all are entered but `left`, which stand from place `at` on
pub record Sorted (b : List ℕ) (rules : ℕ) (p s e : List ℕ) (at left : ℕ) : Type 0 where
  pub few : left ≤ rules
  pub next : at ≡ place_at b 7 (rules - left)
  pub grouped : Grouped b (rules - left) p s e

-- none is left: no step was made; or nothing is below the last prefix, and each of its values is the last of its setting
unfoldable pub finished_of : Sizes → Walk → Bool
finished_of ns w = eqb w.steps 0 || ((eqb w.last.len (length ns) || not (eqb w.dead 0)) && all_last ns (prefix_of w.last))

-- k of the sizes, from setting i on
abbrev pub part : Sizes → ℕ → ℕ → Sizes
part ns i zero = []
part ns i (suc k) = get_or ns i 0 ∷ part ns (i + 1) k

module _ (d : Row → Bool) where
  -- the prefix p with v, and what is visited below it
  abbrev pub branch_of : Sizes → Row → ℕ → List Row
  branch_of ns p v = (p ++ (v ∷ [])) ∷ below d ns (p ++ (v ∷ []))

  -- below a live prefix p, from the value v on
  abbrev pub from_of : Sizes → Row → ℕ → List Row
  from_of [] p v = []
  from_of (n ∷ ns) p v = each (branch_of ns p) v (n - v)

  -- below p, after p ++ c
  abbrev pub past_of : Sizes → Row → Row → List Row
  past_of ns p [] = below d ns p
  past_of [] p (v ∷ c) = []
  past_of (n ∷ ns) p (v ∷ c) = let r = past_of ns (p ++ (v ∷ [])) c ++ from_of (n ∷ ns) p (suc v) in cond (d p) [] r

-- the walk, and the bytes of the lent room
abbrev pub S : Type 0
S = Walk × List ℕ

-- a mark in a walk: 1 for yes
abbrev pub flag : Bool → ℕ
flag true = 1
flag false = 0

abbrev pub walk_of : Cursor → Bool → ℕ → ℕ → Walk
walk_of q d rows steps = record { last = q; dead = flag d; rows = rows; steps = steps }

-- a visit of q, dead or not: one step; a live one of length l is written as a row
abbrev pub move_of : ℕ → Bool → Cursor → S → S
move_of l d q s =
    cond (not d && eqb q.len l)
    (walk_of q d (s.0.rows + 1) (s.0.steps + 1), put_at s.1 (s.0.rows * l) (prefix_of q))
    (walk_of q d s.0.rows (s.0.steps + 1), s.1)

-- how many levels are gone into below a prefix that is dead or not
abbrev pub inward_of : Bool → ℕ → ℕ
inward_of true k = 0
inward_of false k = k - 1

-- there is room for a row, and a step in the budget
abbrev pub goes_on : ℕ → ℕ → Walk → Bool
goes_on fit budget w = ltb w.rows fit && ltb w.steps budget

module _ (d : Row → Bool) (l fit budget : ℕ) where
  abbrev pub visit_of : Row → S → S
  visit_of x s = cond (goes_on fit budget s.0) (move_of l (d x) (cursor_of x) s) s

  -- one after the other
  unfoldable pub runs : List Row → S → S
  runs [] s = s
  runs (x ∷ xs) s = runs xs (visit_of x s)

pub record Ready (ns : Sizes) (room : List ℕ) (cur : Cursor) (levels fit : ℕ) : Type 0 where
  pub cells : fit * length ns ≤ length room
  pub deep : cur.len + levels ≤ length ns
  pub limited : Sized ns

pub record OpenIf (b : List ℕ) (d : Row → Bool) (x : Row) (p s e : List ℕ) (at k n levels : ℕ) : Type 0 where
  pub opens : (levels ≡ 0 → ⊥) → Open b d x p s e at k n

pub record LooksIf (b : List ℕ) (d : Row → Bool) (x : Row) (p s e : List ℕ) (from levels : ℕ) (r : Scanned) : Type 0 where
  pub looks : (levels ≡ 0 → ⊥) → Looks b d x p s e from r

module _ (d : Row → Bool) (ns : Sizes) (cur : Cursor) (levels fit budget : ℕ) where
  -- the values from v on, of n
  abbrev pub left_at : ℕ → ℕ → List Row
  left_at n v = each (branch_of d (part ns (cur.len + 1) (levels - 1)) (prefix_of cur)) v (n - v)

  -- the whole, as the contract has it
  abbrev pub whole_of : ℕ → S → S
  whole_of v t = runs d (length ns) fit budget (from_of d (part ns cur.len levels) (prefix_of cur) v) t

  pub record Going (from : ℕ) (st : Walk) (o₀ o : List ℕ) (w : Walk) (v : ℕ) : Type 0 where
    pub long : length o ≡ length o₀
    pub left : runs d (length ns) fit budget (left_at (get_or ns cur.len 0) v) (w, o) ≡ whole_of from (st, o₀)

-- one turn: from the walk w at the value v, with o in the room, to the walk r at a later value u, with nothing left out
pub record Turns (d : Row → Bool) (ns : Sizes) (cur : Cursor) (levels fit budget : ℕ) (w : Walk) (o : List ℕ) (v : ℕ) (r : Walk) (o₁ : List ℕ) (u : ℕ) : Type 0 where
  pub ahead : v < u
  pub on : (from : ℕ) (st : Walk) (o₀ : List ℕ) → Going d ns cur levels fit budget from st o₀ o w v → Going d ns cur levels fit budget from st o₀ o₁ r u

pub record Allows (d : Row → Bool) (x : Row) (set : ℕ) : Type 0 where
  pub is : (v : ℕ) → v < 64 → forbidden set v ≡ d (x ++ (v ∷ []))

-- the walk with its last prefix set, once the values from v up to below u are visited after cur
abbrev pub behind_of : Walk → Cursor → ℕ → ℕ → Walk
behind_of w cur v u = cond (eqb u v) w (record { last = push_of cur (u - 1); dead = w.dead; rows = w.rows; steps = w.steps })

module _ (d : Row → Bool) (ns : Sizes) (cur : Cursor) (fit budget : ℕ) where
  -- from the walk w at the value v to the walk r at u, with nothing left out
  pub record Skips (w : Walk) (v : ℕ) (r : Walk) (u : ℕ) : Type 0 where
    pub ahead : v ≤ u
    pub on : (levels from : ℕ) (st : Walk) (o₀ o : List ℕ) → Going d ns cur levels fit budget from st o₀ o w v → Going d ns cur levels fit budget from st o₀ o r u

pub record Along (ns : Sizes) (c cur : Cursor) (levels : ℕ) : Type 0 where
  pub plain : Plain c
  pub here : cur.len ≤ c.len
  pub deep : c.len ≤ cur.len + levels
  pub fits : (k : ℕ) → k < c.len → get_or c.values k 0 < get_or ns k 0

-- ---- what is asked

-- the rules of the book stand from place 7 on, and the sizes are within their limits
pub record Standard (b : List ℕ) (rules : ℕ) (ns : Sizes) : Type 0 where
  pub limited : Sized ns
  pub settings : 1 ≤ length ns
  pub stand : AllStand b 7 rules
  pub count : word_at b 5 ≡ rules
  pub few : rules ≤ 24576

unfoldable pub leaf_rows : Bool → ℕ → ℕ
leaf_rows b rows = cond b rows (rows + 1)

unfoldable pub leaf_room : Bool → List ℕ → ℕ → Row → ℕ → List ℕ
leaf_room b o at x v = cond b o (put_at o at (x ++ (v ∷ [])))
