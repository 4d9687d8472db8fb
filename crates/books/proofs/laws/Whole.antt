-- What a book that was read tells: each step of the reader came to its number.
use Prim.Native.Nat.{ℕ, ◌≤◌}
use native.Mathlib.Omega.{arith}
use native.Mathlib.Decide.{dec_lt}
use mathlib.Core.Path.{◌≡◌, refl, ap, ◌∙◌}
use mathlib.Core.Bool.{cond}
use mathlib.Core.List.{List}
use lib.Dec.{ltb}
use lib.ListN.{length}
use borrow.Author.Tests.{lt-ltb, le-ltb}
use Rattle.std.specs.Prelude.{Ok, Err}
use Rattle.meaning.specs.Rows.{alike}
use Rattle.books.specs.declared.Head.{Head}
use Rattle.books.specs.declared.Fault.TheVariants.{Trailing}
use Rattle.books.specs.Format.{Book, mark_of, field_of, word_of, rules_of, tail_of, rest_of, read_of}
use Rattle.books.proofs.laws.Fields.{no_value, chain}

pub record BookGot (b : List ℕ) (n l family k : ℕ) : Type 0 where
  pub start : ℕ
  pub end : ℕ
  pub last : ℕ
  pub mark : mark_of b 0 66 ≡ Ok start
  pub size : field_of b 0 2 1 65 ≡ Ok n
  pub settings : field_of b 0 3 1 17 ≡ Ok l
  pub family_is : field_of b 0 4 0 4 ≡ Ok family
  pub count : word_of b 0 5 24577 ≡ Ok k
  pub rules : rules_of b (alike n l) family 7 k ≡ Ok end
  pub end_mark : mark_of b end 69 ≡ Ok last
  pub done : length b ≤ last

module _ (b : List ℕ) (n l family k : ℕ) where
  abbrev head : ℕ → ℕ → ℕ → ℕ → Head
  head n l f k = record { n = n; l = l; family = f; rules = k }

  -- the last test
  kept : (n' l' f' k' v : ℕ) → cond (ltb v (length b)) (Err (Trailing v)) (Book n' l' f' k') ≡ Book n l family k
      → (length b ≤ v) × (n' ≡ n) × (l' ≡ l) × (f' ≡ family) × (k' ≡ k)
  kept n' l' f' k' v e = elim (dec_lt v (length b)) [
    | yes t ↦ no_value refl (rw (lt-ltb v (length b) t) at e)
    | no t ↦
        let u = rw (le-ltb v (length b) (omega arith)) at e in
        let q : head n' l' f' k' ≡ head n l family k = cc in
        (omega arith, ap (λ (h : Head). h.n) q, ap (λ (h : Head). h.l) q, ap (λ (h : Head). h.family) q, ap (λ (h : Head). h.rules) q)
  ]

  -- with the numbers as variables
  go : (m n' l' f' k' e v : ℕ) → mark_of b 0 66 ≡ Ok m → field_of b 0 2 1 65 ≡ Ok n' → field_of b 0 3 1 17 ≡ Ok l' → field_of b 0 4 0 4 ≡ Ok f' → word_of b 0 5 24577 ≡ Ok k'
      → rules_of b (alike n' l') f' 7 k' ≡ Ok e → mark_of b e 69 ≡ Ok v → (length b ≤ v) × (n' ≡ n) × (l' ≡ l) × (f' ≡ family) × (k' ≡ k) → BookGot b n l family k
  go m n' l' f' k' e v s₁ s₂ s₃ s₄ s₅ s₆ s₇ d = record {
    start = m;
    end = e;
    last = v;
    mark = s₁;
    size = s₂ ∙ ap Ok d.1;
    settings = s₃ ∙ ap Ok d.2;
    family_is = s₄ ∙ ap Ok d.3;
    count = s₅ ∙ ap Ok d.4;
    rules = rw (d.1, d.2, d.3, d.4) at s₆;
    end_mark = s₇;
    done = d.0;
  }

  pub book_tells : read_of b ≡ Book n l family k → BookGot b n l family k
  unfolding read_of rest_of tail_of
  book_tells h =
      let s₁ = chain (mark_of b 0 66) _ (head n l family k) h in
      let s₂ = chain (field_of b 0 2 1 65) _ (head n l family k) s₁.2 in
      let s₃ = chain (field_of b 0 3 1 17) _ (head n l family k) s₂.2 in
      let s₄ = chain (field_of b 0 4 0 4) _ (head n l family k) s₃.2 in
      let s₅ = chain (word_of b 0 5 24577) _ (head n l family k) s₄.2 in
      let s₆ = chain (rules_of b (alike s₂.0 s₃.0) s₄.0 7 s₅.0) _ (head n l family k) s₅.2 in
      let s₇ = chain (mark_of b s₆.0 69) _ (head n l family k) s₆.2 in
      go s₁.0 s₂.0 s₃.0 s₄.0 s₅.0 s₆.0 s₇.0 s₁.1 s₂.1 s₃.1 s₄.1 s₅.1 s₆.1 s₇.1
      (kept s₂.0 s₃.0 s₄.0 s₅.0 s₇.0 s₇.2)
