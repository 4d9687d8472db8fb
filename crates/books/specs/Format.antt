-- The book format: a book is read field by field from the left, and the first fault decides. Places are counted from 0.
--     head: 82 66, n, l, family, and the number of rules in two bytes, high byte first
--     rule: 82 85, the number of its literals, and three bytes for each: setting, sign, bound
--     end:  82 69
-- Each step gives a number, or the first fault: 9 Cut, 10 Mark, 11 Field, 12 Order, 13 Idle, 14 Family, 15 Trailing.
use Rattle.std.specs.Prelude.{ℕ, zero, suc, ◌+◌, ◌*◌, cond, List, ltb, eqb, length, get_or, Result, Ok, Err}
use Rattle.meaning.specs.Rows.{Sizes, alike}
use Rattle.meaning.specs.Rules.{top_of, key_of, idle, in_family}
use Rattle.meaning.specs.Bytes.{literals_at, word_at}
use Rattle.books.specs.declared.Fault.{Fault}
use Rattle.books.specs.declared.Fault.TheVariants.{Cut, Mark, Field, Order, Idle, Family, Trailing}
use Rattle.books.specs.declared.Head.{Head}

infixr 20 ◌>>=◌
-- go on with what was got; a fault ends it
abbrev pub ◌>>=◌ : {A B : Type 0} → Result A Fault → (A → Result B Fault) → Result B Fault
Ok v >>= k = k v
Err f >>= k = Err f

-- a book was read, and this is its head
abbrev pub Book : ℕ → ℕ → ℕ → ℕ → Result Head Fault
Book n l family rules = Ok (record { n = n; l = l; family = family; rules = rules })

-- ---- a field

-- the mark 82 m at place p. Gives the place after it
unfoldable pub mark_of : List ℕ → ℕ → ℕ → Result ℕ Fault
mark_of b p m =
    cond (ltb (length b) (p + 2)) (Err (Cut p))
    (cond (eqb (get_or b p 0) 82)
    (cond (eqb (get_or b (p + 1) 0) m) (Ok (p + 2)) (Err (Mark p)))
    (Err (Mark p)))

-- the byte at place p, from lo up to below top, of the record whose mark is at `from`
unfoldable pub field_of : List ℕ → ℕ → ℕ → ℕ → ℕ → Result ℕ Fault
field_of b from p lo top =
    cond (ltb p (length b))
    (cond (ltb (get_or b p 0) lo) (Err (Field p))
    (cond (ltb (get_or b p 0) top) (Ok (get_or b p 0)) (Err (Field p))))
    (Err (Cut from))

-- the two bytes at place p, below top, of the record whose mark is at `from`
unfoldable pub word_of : List ℕ → ℕ → ℕ → ℕ → Result ℕ Fault
word_of b from p top =
    cond (ltb (length b) (p + 2)) (Err (Cut from))
    (cond (ltb (word_at b p) top) (Ok (word_at b p)) (Err (Field p)))

-- ---- a literal: its three fields, then its order

-- setting i and sign g come after those of the literal before: their key is at least low. Gives the least key that may follow
unfoldable pub order_of : ℕ → ℕ → ℕ → ℕ → Result ℕ Fault
order_of i g low p = cond (ltb (key_of i g) low) (Err (Order p)) (Ok (key_of i g + 1))

-- the bound of the literal at p, of setting i and sign g, then its order
unfoldable pub bound_of : List ℕ → Sizes → ℕ → ℕ → ℕ → ℕ → ℕ → Result ℕ Fault
bound_of b ns from low p i g =
    field_of b from (p + 2) g (top_of (get_or ns i 0) g) >>= λ d.
    order_of i g low p

-- the literal at p of the rule at `from`
unfoldable pub literal_of : List ℕ → Sizes → ℕ → ℕ → ℕ → Result ℕ Fault
literal_of b ns from low p =
    field_of b from p 0 (length ns) >>= λ i.
    field_of b from (p + 1) 0 2 >>= λ g.
    bound_of b ns from low p i g

-- k literals from p on. Gives the place after them
unfoldable pub literals_of : List ℕ → Sizes → ℕ → ℕ → ℕ → ℕ → Result ℕ Fault
literals_of b ns from low p zero = Ok p
literals_of b ns from low p (suc k) = literal_of b ns from low p >>= λ next. literals_of b ns from next (p + 3) k

-- ---- a rule: its mark, the number of its literals, these, then idle, then the family

-- the c literals of the rule at `from`, and the rule as a whole. Gives the place after it
unfoldable pub body_of : List ℕ → Sizes → ℕ → ℕ → ℕ → Result ℕ Fault
body_of b ns family from c =
    literals_of b ns from 0 (from + 3) c >>= λ end.
    cond (idle (literals_at b (from + 3) c)) (Err (Idle from))
    (cond (in_family family (literals_at b (from + 3) c)) (Ok end) (Err (Family from)))

unfoldable pub rule_of : List ℕ → Sizes → ℕ → ℕ → Result ℕ Fault
rule_of b ns family from =
    mark_of b from 85 >>= λ m.
    field_of b from (from + 2) 0 (2 * length ns + 1) >>= λ c.
    body_of b ns family from c

-- k rules from place p on. Gives the place after them
unfoldable pub rules_of : List ℕ → Sizes → ℕ → ℕ → ℕ → Result ℕ Fault
rules_of b ns family p zero = Ok p
rules_of b ns family p (suc k) = rule_of b ns family p >>= λ next. rules_of b ns family next k

-- ---- the whole book

-- after the head: the rules, the end, and nothing more
unfoldable pub tail_of : List ℕ → ℕ → ℕ → ℕ → ℕ → Result Head Fault
tail_of b n l family rules =
    rules_of b (alike n l) family 7 rules >>= λ end.
    mark_of b end 69 >>= λ last.
    cond (ltb last (length b)) (Err (Trailing last)) (Book n l family rules)

-- after n and l: the family from 0 to 3, the number of rules up to 24,576, and so on
unfoldable pub rest_of : List ℕ → ℕ → ℕ → Result Head Fault
rest_of b n l =
    field_of b 0 4 0 4 >>= λ family.
    word_of b 0 5 24577 >>= λ rules.
    tail_of b n l family rules

-- the mark, n from 1 to 64, l from 1 to 16, and so on
unfoldable pub read_of : List ℕ → Result Head Fault
read_of b =
    mark_of b 0 66 >>= λ m.
    field_of b 0 2 1 65 >>= λ n.
    field_of b 0 3 1 17 >>= λ l.
    rest_of b n l
