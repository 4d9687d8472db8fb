-- Proved: the rule that a hand holds gives the hand's fields back, as `Copy` asks.
use Rattle.std.specs.Prelude.{ℕ, ◌-◌, ◌≤◌, ◌≡◌, List, ◌++◌, length, take, replicate}
use Rattle.std.proofs.Common.{sym, ap, subst, ◌∙◌, length-take-le, take-append-drop}
use Rattle.meaning.specs.Bytes.{encode_literals}
use Rattle.literals.specs.Inner.{literals_in}
use Rattle.reducing.specs.Inner.{Held, taken, filled}

module _ {n : ℕ} {b : List ℕ} (h : Held n b) where
  pub back_count : taken (literals_in (take n b)) ≡ n
  back_count = sym (ap length h.written) ∙ length-take-le n b (subst (λ (m : ℕ). n ≤ m) (sym h.room) h.few)

  pub back_bytes : filled (literals_in (take n b)) ≡ b
  back_bytes =
      ap (λ (m : ℕ). encode_literals (literals_in (take n b)) ++ replicate (96 - m) 0) back_count
      ∙ ap (λ (s : List ℕ). s ++ replicate (96 - n) 0) (sym h.written)
      ∙ ap (λ (s : List ℕ). take n b ++ s) (sym h.blank)
      ∙ take-append-drop n b
