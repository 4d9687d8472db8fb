-- Document 01's examples P1 to P10, computed from the definitions: one table, one theorem, which names the entries that are wrong.
use Rattle.std.specs.Prelude.{ℕ, ◌≡◌, refl, Bool, true, false, cond, ◌&&◌, List, [], ◌∷◌, eqb, length}
use Rattle.std.proofs.Math.Option.{Option, none, some}
use Rattle.meaning.specs.Rows.{Row, alike, before, same, is_row}
use Rattle.meaning.specs.Rules.{at_most, at_least, Rule, holds, met, scarce, scarces, horn}
use Rattle.meaning.specs.General.{differs, earlier, split, fork, left_at, right_at, mid_at, middle, row_rules, general}
use Rattle.meaning.specs.Families.{fill, pick, both, mid, median, common, common_and, join, extreme, keep_for, reduce, met_by_all, trim, reduce_for, rules_for}
use Rattle.meaning.specs.Closed.{or_else, first, first_pair, first_triple, unless, open_pair, open_triple, open_rows}
use Rattle.meaning.specs.Bytes.{encode_literals, encode_rule, encode_rules, encode}
use Rattle.meaning.specs.Listing.{decided, dead, Page, page}

pub data Label : Type 0 where
  P1 P2 P3 P4 P5 P6 P7 P8 P9 P10 : Label

-- what document 01 says of a table in a family: its rules, the rows that refusal 7 names, its listing (rows and steps), its book, its book's length
pub data Claim : Type 0 where
  gives : List Rule → Claim
  refuses : List ℕ → Claim
  lists : List Row → ℕ → Claim
  writes : List ℕ → Claim
  takes : ℕ → Claim

pub record Example : Type 0 where
  pub label : Label
  pub n : ℕ
  pub l : ℕ
  pub family : ℕ
  pub rows : List Row
  pub claim : Claim

same_rows : List Row → List Row → Bool
unfolding same
same_rows [] [] = true
same_rows [] (b ∷ bs) = false
same_rows (a ∷ as') [] = false
same_rows (a ∷ as') (b ∷ bs) = same a b && same_rows as' bs

found : Option (List ℕ) → List ℕ
found none = []
found (some numbers) = numbers

rules_of : Example → List Rule
unfolding rules_for general reduce_for row_rules left_at right_at mid_at middle fork split earlier differs reduce horn scarces scarce common common_and join extreme keep_for both pick fill trim met_by_all met holds
rules_of e = rules_for e.family (alike e.n e.l) e.rows

open_of : Example → List ℕ
unfolding open_rows open_pair open_triple first_pair first_triple first or_else unless is_row same both median mid pick fill found
open_of e = found (open_rows e.family e.rows)

book_of : Example → List ℕ
unfolding encode encode_rules encode_rule encode_literals rules_of
book_of e = encode e.n e.l e.family (rules_of e)

-- the whole book on one page
listed : Example → Page
unfolding before dead decided met holds rules_of
listed e = page (alike e.n e.l) (dead (rules_of e)) 512 65535 []

right : Example → Claim → Bool
unfolding same same_rows encode_rules encode_rule encode_literals rules_of open_of book_of listed
right e (gives rules) = same (open_of e) [] && same (encode_rules (rules_of e)) (encode_rules rules)
right e (refuses numbers) = same (open_of e) numbers
right e (lists shown steps) = same_rows (listed e).rows shown && (eqb (listed e).steps steps && (listed e).finished)
right e (writes bytes) = same (book_of e) bytes
right e (takes bytes) = eqb (length (book_of e)) bytes

-- the labels of the entries that are wrong
pub wrong : List Example → List Label
unfolding right
wrong [] = []
wrong (e ∷ es) = cond (right e e.claim) (wrong es) (e.label ∷ wrong es)

T : List Row
T = (0 ∷ 1 ∷ []) ∷ (1 ∷ 1 ∷ []) ∷ (2 ∷ 2 ∷ []) ∷ []

pub examples : List Example
unfolding T
examples =
    record {
      label = P1;
      n = 3;
      l = 2;
      family = 0;
      rows = T;
      claim = gives (
          (at_least 0 1 ∷ at_least 1 1 ∷ []) ∷ (at_least 0 1 ∷ at_most 1 1 ∷ []) ∷ (at_most 0 0 ∷ at_least 0 2 ∷ at_least 1 1 ∷ [])
          ∷ (at_most 0 0 ∷ at_least 0 2 ∷ at_most 1 1 ∷ []) ∷ (at_most 0 1 ∷ at_least 1 2 ∷ []) ∷ []
          );
    } ∷
    record {
      label = P2;
      n = 3;
      l = 2;
      family = 1;
      rows = T;
      claim = gives (
          (at_least 1 1 ∷ []) ∷ (at_least 0 1 ∷ at_most 1 1 ∷ []) ∷ (at_most 0 0 ∷ at_least 1 1 ∷ [])
          ∷ (at_most 0 0 ∷ at_least 0 2 ∷ at_most 1 1 ∷ []) ∷ (at_most 0 1 ∷ at_least 1 2 ∷ []) ∷ []
          );
    } ∷
    record {
      label = P3;
      n = 3;
      l = 2;
      family = 2;
      rows = T;
      claim = gives (
          (at_least 0 1 ∷ at_least 1 1 ∷ []) ∷ (at_least 0 1 ∷ at_most 1 1 ∷ []) ∷ (at_most 0 0 ∷ at_least 0 2 ∷ at_least 1 1 ∷ [])
          ∷ (at_least 0 2 ∷ at_most 1 1 ∷ []) ∷ (at_most 0 1 ∷ at_least 1 2 ∷ []) ∷ []
          );
    } ∷
    record {
      label = P4;
      n = 3;
      l = 2;
      family = 3;
      rows = T;
      claim = gives (
          (at_least 1 1 ∷ []) ∷ (at_least 0 1 ∷ at_most 1 1 ∷ []) ∷ (at_least 1 1 ∷ [])
          ∷ (at_least 0 2 ∷ at_most 1 1 ∷ []) ∷ (at_most 0 1 ∷ at_least 1 2 ∷ []) ∷ []
          );
    } ∷
    record { label = P5; n = 3; l = 2; family = 0; rows = T; claim = lists T 12 } ∷
    record { label = P5; n = 3; l = 2; family = 1; rows = T; claim = lists T 12 } ∷
    record { label = P5; n = 3; l = 2; family = 2; rows = T; claim = lists T 12 } ∷
    record { label = P5; n = 3; l = 2; family = 3; rows = T; claim = lists T 12 } ∷
    record {
      label = P6;
      n = 3;
      l = 2;
      family = 0;
      rows = [];
      claim = writes (82 ∷ 66 ∷ 3 ∷ 2 ∷ 0 ∷ 0 ∷ 1 ∷ 82 ∷ 85 ∷ 0 ∷ 82 ∷ 69 ∷ []);
    } ∷
    record { label = P6; n = 3; l = 2; family = 0; rows = []; claim = lists [] 0 } ∷
    record { label = P7; n = 2; l = 1; family = 0; rows = (0 ∷ []) ∷ (1 ∷ []) ∷ []; claim = gives [] } ∷
    record { label = P7; n = 2; l = 1; family = 0; rows = (0 ∷ []) ∷ (1 ∷ []) ∷ []; claim = takes 9 } ∷
    record { label = P8; n = 4; l = 1; family = 0; rows = (0 ∷ []) ∷ (3 ∷ []) ∷ []; claim = gives ((at_most 0 0 ∷ at_least 0 3 ∷ []) ∷ []) } ∷
    record { label = P8; n = 4; l = 1; family = 0; rows = (0 ∷ []) ∷ (3 ∷ []) ∷ []; claim = takes 18 } ∷
    record { label = P9; n = 2; l = 2; family = 1; rows = (0 ∷ 1 ∷ []) ∷ (1 ∷ 0 ∷ []) ∷ []; claim = refuses (0 ∷ 1 ∷ []) } ∷
    record { label = P9; n = 2; l = 2; family = 2; rows = (0 ∷ 1 ∷ []) ∷ (1 ∷ 0 ∷ []) ∷ []; claim = refuses (0 ∷ 1 ∷ []) } ∷
    record {
      label = P9;
      n = 2;
      l = 2;
      family = 3;
      rows = (0 ∷ 1 ∷ []) ∷ (1 ∷ 0 ∷ []) ∷ [];
      claim = gives ((at_least 0 1 ∷ at_least 1 1 ∷ []) ∷ (at_most 0 0 ∷ at_most 1 0 ∷ []) ∷ []);
    } ∷
    record {
      label = P10;
      n = 2;
      l = 3;
      family = 3;
      rows = (0 ∷ 0 ∷ 1 ∷ []) ∷ (0 ∷ 1 ∷ 0 ∷ []) ∷ (1 ∷ 0 ∷ 0 ∷ []) ∷ [];
      claim = refuses (0 ∷ 1 ∷ 2 ∷ []);
    } ∷
    []

pub none_wrong : wrong examples ≡ []
unfolding wrong examples
none_wrong = refl
