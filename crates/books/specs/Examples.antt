-- Worked examples: a book, each fault, and document 01's two lines on idle rules, computed from the reader's definition under one theorem.
use Rattle.std.specs.Prelude.{ℕ, suc, ◌≡◌, refl, Bool, cond, ◌&&◌, List, [], ◌∷◌, ◌++◌, eqb, take}
use Rattle.meaning.specs.Rows.{same}
use Rattle.meaning.specs.Rules.{top_of, covers, overlap, overlaps, idle, scarce, scarces, horn, bijunctive, in_family}
use Rattle.meaning.specs.Bytes.{literals_at}
use Rattle.books.specs.Format.{mark_of, field_of, word_of, order_of, bound_of, literal_of, literals_of, body_of, rule_of, rules_of, tail_of, rest_of, read_of}
use Rattle.books.specs.Faults.{reading_number, reading_values}

-- bytes, and the number and the values that reading them gives
pub record Example : Type 0 where
  pub bytes : List ℕ
  pub number : ℕ
  pub values : List ℕ

number_is : List ℕ → ℕ
unfolding mark_of field_of word_of order_of bound_of literal_of literals_of body_of rule_of rules_of tail_of rest_of read_of literals_at top_of covers overlap overlaps idle scarce scarces horn bijunctive in_family
number_is b = reading_number (read_of b)

values_are : List ℕ → List ℕ
unfolding mark_of field_of word_of order_of bound_of literal_of literals_of body_of rule_of rules_of tail_of rest_of read_of literals_at top_of covers overlap overlaps idle scarce scarces horn bijunctive in_family
values_are b = reading_values (read_of b)

right : Example → Bool
unfolding same number_is values_are
right e = eqb (number_is e.bytes) e.number && same (values_are e.bytes) e.values

-- the positions of the examples that are wrong
pub wrong : ℕ → List Example → List ℕ
unfolding right
wrong i [] = []
wrong i (e ∷ es) = cond (right e) (wrong (suc i) es) (i ∷ wrong (suc i) es)

-- four values, two settings, Horn: [0<=1 1>=2] [1<=0]
book : List ℕ
book = 82 ∷ 66 ∷ 4 ∷ 2 ∷ 1 ∷ 0 ∷ 2 ∷ 82 ∷ 85 ∷ 2 ∷ 0 ∷ 0 ∷ 1 ∷ 1 ∷ 1 ∷ 2 ∷ 82 ∷ 85 ∷ 1 ∷ 1 ∷ 0 ∷ 0 ∷ 82 ∷ 69 ∷ []

-- the head of such a book in a family, with one rule of two literals
with_rule : ℕ → List ℕ → List ℕ
with_rule family t = 82 ∷ 66 ∷ 4 ∷ 2 ∷ family ∷ 0 ∷ 1 ∷ 82 ∷ 85 ∷ 2 ∷ t

pub examples : List Example
unfolding book with_rule
examples =
    record { bytes = book; number = 0; values = 4 ∷ 2 ∷ 1 ∷ 2 ∷ [] } ∷
    -- cut short: the place of the record's mark, even where half a mark is wrong
    record { bytes = []; number = 9; values = 0 ∷ [] } ∷
    record { bytes = 9 ∷ []; number = 9; values = 0 ∷ [] } ∷
    record { bytes = take 6 book; number = 9; values = 0 ∷ [] } ∷
    record { bytes = take 7 book ++ (9 ∷ []); number = 9; values = 7 ∷ [] } ∷
    record { bytes = take 15 book; number = 9; values = 7 ∷ [] } ∷
    record { bytes = take 23 book; number = 9; values = 22 ∷ [] } ∷
    -- the end where a rule is due, and a rule where the end is
    record { bytes = take 7 book ++ (82 ∷ 69 ∷ []); number = 10; values = 7 ∷ [] } ∷
    record { bytes = take 22 book ++ (82 ∷ 85 ∷ []); number = 10; values = 22 ∷ [] } ∷
    -- n 0 and 65; 24,577 rules; five literals on two settings; "at most 3" of four values, "at least 0"
    record { bytes = 82 ∷ 66 ∷ 0 ∷ []; number = 11; values = 2 ∷ [] } ∷
    record { bytes = 82 ∷ 66 ∷ 65 ∷ []; number = 11; values = 2 ∷ [] } ∷
    record { bytes = 82 ∷ 66 ∷ 4 ∷ 2 ∷ 0 ∷ 96 ∷ 1 ∷ []; number = 11; values = 5 ∷ [] } ∷
    record { bytes = take 9 book ++ (5 ∷ []); number = 11; values = 9 ∷ [] } ∷
    record { bytes = with_rule 0 (0 ∷ 0 ∷ 3 ∷ []); number = 11; values = 12 ∷ [] } ∷
    record { bytes = with_rule 0 (0 ∷ 1 ∷ 0 ∷ []); number = 11; values = 12 ∷ [] } ∷
    -- the same setting and sign again, after the bound
    record { bytes = with_rule 0 (0 ∷ 1 ∷ 3 ∷ 0 ∷ 1 ∷ 2 ∷ []); number = 12; values = 13 ∷ [] } ∷
    record { bytes = with_rule 0 (0 ∷ 1 ∷ 3 ∷ 0 ∷ 1 ∷ 4 ∷ []); number = 11; values = 15 ∷ [] } ∷
    -- idle comes before the family
    record { bytes = with_rule 3 (0 ∷ 0 ∷ 2 ∷ 0 ∷ 1 ∷ 2 ∷ []); number = 13; values = 7 ∷ [] } ∷
    record { bytes = with_rule 1 (0 ∷ 1 ∷ 2 ∷ 1 ∷ 1 ∷ 2 ∷ []); number = 14; values = 7 ∷ [] } ∷
    record { bytes = with_rule 2 (0 ∷ 0 ∷ 2 ∷ 1 ∷ 0 ∷ 2 ∷ []); number = 14; values = 7 ∷ [] } ∷
    record { bytes = book ++ (0 ∷ []); number = 15; values = 24 ∷ [] } ∷
    -- n 6, one rule [0<=3 0>=3] and [0<=3 0>=4]
    record { bytes = 82 ∷ 66 ∷ 6 ∷ 1 ∷ 0 ∷ 0 ∷ 1 ∷ 82 ∷ 85 ∷ 2 ∷ 0 ∷ 0 ∷ 3 ∷ 0 ∷ 1 ∷ 3 ∷ 82 ∷ 69 ∷ []; number = 13; values = 7 ∷ [] } ∷
    record { bytes = 82 ∷ 66 ∷ 6 ∷ 1 ∷ 0 ∷ 0 ∷ 1 ∷ 82 ∷ 85 ∷ 2 ∷ 0 ∷ 0 ∷ 3 ∷ 0 ∷ 1 ∷ 4 ∷ 82 ∷ 69 ∷ []; number = 0; values = 6 ∷ 1 ∷ 0 ∷ 1 ∷ [] } ∷
    []

pub none_wrong : wrong 0 examples ≡ []
unfolding wrong examples
none_wrong = refl
