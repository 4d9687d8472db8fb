-- Inner: the words that only inner contracts cite.
use Rattle.std.specs.Prelude.{ℕ, ◌+◌, ◌≤◌, ◌*◌, zero, suc, ◌-◌, ◌<◌, ◌≡◌, List, [], ◌∷◌, map, ◌++◌, Bool, length, drop, ltb, Result}
use Rattle.meaning.specs.Rows.{Row, Sizes, at, rows_of}
use Rattle.meaning.specs.Rules.{Rule}
use Rattle.meaning.specs.Families.{reduce_for, rules_for}
use Rattle.meaning.specs.Bytes.{encode_rule, literal, encode_rules, encode}
use Rattle.literals.specs.Kinds.{number_of}
use Rattle.books.specs.Inner.{put_in}
use Rattle.meaning.specs.Lists.{opt, each}
use Rattle.meaning.specs.General.{earlier, mid_at, middle, row_rules, general}
use Rattle.makers.specs.declared.Made.{Made}
use Rattle.makers.specs.declared.Unmade.{Unmade}
use Rattle.makers.specs.declared.rows.Source.{Source}
use Rattle.makers.specs.declared.sending.Draft.{Draft}
use Rattle.makers.specs.Made.{fitting}

-- the number of a source's family
abbrev pub source_family : Source → ℕ
source_family s = number_of s.family

-- the rows of a source's table
abbrev pub source_rows : Source → List Row
source_rows s = rows_of (length s.sizes.now) s.table.now

-- how far a book has come, and the room that it is written to
abbrev pub State : Type 0
State = Made × List ℕ

abbrev pub state_of : Draft → State
state_of d = (d.made, d.room.now)

-- one rule: its record over the room where it fits, and counted in any case
unfoldable pub send : Rule → State → State
send r s = (
  record { length = s.0.length + length (encode_rule r); rules = s.0.rules + 1 },
  put_in s.1 s.0.length (encode_rule r),
)

unfoldable pub sends : List Rule → State → State
sends [] s = s
sends (r ∷ rs) s = sends rs (send r s)

-- each reduced for the family
unfoldable pub sends_for : ℕ → List Row → List Rule → State → State
sends_for family rows rs s = sends (map (reduce_for family rows) rs) s

-- the rule, of at most 32 literals, is sent to the room of the draft
pub record IsSent (r : Rule) (d d' : Draft) : Type 0 where
  pub few : length r ≤ 32
  pub same_room : d'.room.ghost_name ≡ d.room.ghost_name
  pub state : ◌≡◌ {A = State} (state_of d') (send r (state_of d))

-- k slots more can be counted
pub record Countable (t : Made) (k : ℕ) : Type 0 where
  pub bytes : t.length + 99 * k ≤ 4294967295
  pub number : t.rules + k ≤ 4294967295

-- the rules, reduced for the family, are sent to the room of the draft, at most k of them
pub record Sent (k : ℕ) (s : Source) (rs : List Rule) (d d' : Draft) : Type 0 where
  pub same_room : d'.room.ghost_name ≡ d.room.ghost_name
  pub state : ◌≡◌ {A = State} (state_of d') (sends_for (source_family s) (source_rows s) rs (state_of d))
  pub longer : d'.made.length ≤ d.made.length + 99 * k
  pub more : d'.made.rules ≤ d.made.rules + k

-- there is a rule at v, of n values: on the right side (0) where v is below n-1, on the left side where v is above 0
unfoldable pub ruled_of : ℕ → ℕ → ℕ → Bool
ruled_of zero n v = ltb (v + 1) n
ruled_of (suc g) n v = ltb 0 v

unfoldable pub edge_at : ℕ → Sizes → Row → ℕ → List Rule
edge_at g ns m i = opt (ruled_of g (at ns i) (at m i)) (earlier ns m i ++ (literal g i (at m i) ∷ []))

-- what is asked of a row and of its sides from a setting on
pub record Sides (s : Source) (m : Row) (from : ℕ) : Type 0 where
  pub same : length m ≡ length s.sizes.now
  pub begun : from ≤ length s.sizes.now

-- the rules of the side from that setting on are sent
abbrev pub SentEdges : Source → Row → ℕ → ℕ → Draft → Draft → Type 0
SentEdges s m g from = Sent 16 s (each (edge_at g s.sizes.now m) from (length s.sizes.now - from))

-- what is asked of two rows that part at setting i
pub record Apart (s : Source) (m m' : Row) (i : ℕ) : Type 0 where
  pub same : length m ≡ length s.sizes.now
  pub same' : length m' ≡ length s.sizes.now
  pub inside : i < length s.sizes.now

-- the rule between them is sent
abbrev pub SentBetween : Source → Row → Row → ℕ → Draft → Draft → Type 0
SentBetween s m m' i = Sent 1 s (mid_at s.sizes.now m m' i)

-- the middle rule of row k is sent
abbrev pub SentMiddle : Source → ℕ → Draft → Draft → Type 0
SentMiddle s k = Sent 1 s (middle s.sizes.now (source_rows s) k)

-- all rules of row k are sent: at most 16 left, 16 right and the middle
abbrev pub SentRow : Source → ℕ → Draft → Draft → Type 0
SentRow s k = Sent 33 s (row_rules s.sizes.now (source_rows s) k)

-- all rules of the table are sent: at most 33 a row
abbrev pub SentAll : Source → Draft → Draft → Type 0
SentAll s = Sent 16896 s (general s.sizes.now (source_rows s))

-- the rules so many, and the book so long
pub record Measured (ns : Sizes) (family : ℕ) (rows : List Row) (t : Made) : Type 0 where
  pub length_is : t.length ≡ 9 + length (encode_rules (rules_for family ns rows))
  pub rules_is : t.rules ≡ length (rules_for family ns rows)
  pub few : t.rules ≤ 16896

-- as long as the book at least, and just as long where the space is less
pub record Needed (ns : Sizes) (family : ℕ) (rows : List Row) (space : ℕ) (t : Made) : Type 0 where
  pub enough : 9 + length (encode_rules (rules_for family ns rows)) ≤ t.length
  pub exact : space < t.length → t.length ≡ 9 + length (encode_rules (rules_for family ns rows))
  pub rules_is : t.rules ≡ length (rules_for family ns rows)
  pub few : t.rules ≤ 16896

-- ---- the book, or refusal 8

-- the rules of the source in its family, and the bytes of its book
abbrev pub source_rules : Source → List Rule
source_rules s = rules_for (source_family s) s.sizes.now (source_rows s)

abbrev pub source_bytes : Source → List ℕ
source_bytes s = encode s.n (length s.sizes.now) (source_family s) (source_rules s)

unfoldable pub book_of : Source → List ℕ → Result Made Unmade × List ℕ
book_of s room = fitting (source_bytes s) (length (source_rules s)) room

-- the room is long enough for the book of so many rules
pub record Writable (s : Source) (count : ℕ) (room : List ℕ) : Type 0 where
  pub few : count ≤ 16896
  pub count_is : count ≡ length (source_rules s)
  pub fits : length (source_bytes s) ≤ length room

-- the bytes stand at the start of the room, and what is beyond them as it did
pub record Wrote (bytes old : List ℕ) (length_is : ℕ) (new : List ℕ) : Type 0 where
  pub long : length_is ≡ length bytes
  pub room : new ≡ bytes ++ drop (length bytes) old
