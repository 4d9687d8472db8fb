-- Converse: a table that any rules of a family describe exactly has the closure that the family asks for.
use Prim.Native.Nat.{ℕ, zero, suc}
use mathlib.Core.Path.{◌≡◌}
use mathlib.Core.Logic.{◌↔◌}
use mathlib.Core.Bool.{true}
use mathlib.Core.List.{List, [], ◌∷◌, Memᴰ}
use lib.Dec.{T}
use Rattle.meaning.specs.Rows.{Row, Sizes, sound}
use Rattle.meaning.specs.Rules.{Rule, Side, low, high, met, all_met, horn, bijunctive, in_family, AllGood}
use Rattle.meaning.specs.Families.{both, median, rules_for, Exactly, Has}
use Rattle.meaning.specs.Closed.{Closed, MedianClosed, ClosedFor}
use Rattle.meaning.specs.Lists.{All}
use Rattle.meaning.proofs.Tests.{yes_of}
use Rattle.meaning.proofs.MetLaws.{all_met_cons}
use Rattle.meaning.proofs.Members.{sound_mem}
use Rattle.meaning.proofs.Passed.{both_within, median_within, horn_keeps, two_keeps}
use Rattle.meaning.proofs.Made.{exact}
use Rattle.meaning.proofs.Bounds.{rules_good}

-- what each rule passes on from rows to x, all rules do
all_keep : (P : Rule → Type 0) (a b c x : Row) → ((r : Rule) → P r → T (met r a) → T (met r b) → T (met r c) → T (met r x))
    → (rs : List Rule) → All P rs → T (all_met rs a) → T (all_met rs b) → T (all_met rs c) → T (all_met rs x)
unfolding all_met
all_keep P a b c x f [] p t u v = tt
all_keep P a b c x f (r ∷ rs) p t u v =
    let (t₁, t₂) = (all_met_cons r rs a).0 t in
    let (u₁, u₂) = (all_met_cons r rs b).0 u in
    let (v₁, v₂) = (all_met_cons r rs c).0 v in
    (all_met_cons r rs x).1 (f r p.0 t₁ u₁ v₁, all_keep P a b c x f rs p.1 t₂ u₂ v₂)

module _ (ns : Sizes) (rows : List Row) (sane : T (sound ns rows)) where
  module _ (rules : List Rule) (exactly : Exactly ns rows rules) where
    rows_permitted : (m : Row) → Memᴰ m rows → T (all_met rules m)
    rows_permitted m h = (exactly m (sound_mem ns rows sane m h)).1 h

    horn_closed : (s : Side) → All (λ r. horn s r ≡ true) rules → Closed s rows
    horn_closed s k a b h i = (exactly (both s a b) (both_within ns s a b (sound_mem ns rows sane a h) (sound_mem ns rows sane b i))).0
        (all_keep (λ r. horn s r ≡ true) a b b (both s a b) (λ r e t u v. horn_keeps s a b r (yes_of _ e) t u) rules k
        (rows_permitted a h) (rows_permitted b i) (rows_permitted b i))

    bijunctive_closed : All (λ r. bijunctive r ≡ true) rules → MedianClosed rows
    bijunctive_closed k a b c h i j =
        (exactly (median a b c) (median_within ns a b c (sound_mem ns rows sane a h) (sound_mem ns rows sane b i) (sound_mem ns rows sane c j))).0
        (all_keep (λ r. bijunctive r ≡ true) a b c (median a b c) (λ r e. two_keeps a b c r (yes_of _ e)) rules k
        (rows_permitted a h) (rows_permitted b i) (rows_permitted c j))

  closed_of : (family : ℕ) → Has ns rows family → ClosedFor family rows
  unfolding in_family
  closed_of zero h = tt
  closed_of (suc zero) h = horn_closed h.rules h.exactly low h.kept
  closed_of (suc (suc zero)) h = horn_closed h.rules h.exactly high h.kept
  closed_of (suc (suc (suc f))) h = bijunctive_closed h.rules h.exactly h.kept

good_kept : (ns : Sizes) (family : ℕ) (rs : List Rule) → AllGood ns family rs → All (λ r. in_family family r ≡ true) rs
good_kept ns family [] g = tt
good_kept ns family (r ∷ rs) g = (g.0.kept, good_kept ns family rs g.1)

-- a family has rules that describe a table exactly just where the table has the closure that the family asks for
pub has_closed : (family : ℕ) (ns : Sizes) (rows : List Row) → T (sound ns rows) → Has ns rows family ↔ ClosedFor family rows
has_closed family ns rows t = (
  closed_of ns rows t family,
  λ c. record {
    rules = rules_for family ns rows;
    kept = good_kept ns family (rules_for family ns rows) (rules_good family ns rows t c);
    exactly = λ x w. exact family ns rows x t c w;
  },
)
