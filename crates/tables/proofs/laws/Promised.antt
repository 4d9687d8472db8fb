-- Promised: what the answer of the check says. `Ok` is given just for a sound table, and each refusal shows what is wrong.
use Prim.Native.Nat.{ℕ, ◌*◌, ◌/◌, ◌<◌}
use native.Mathlib.Omega.{arith}
use native.Mathlib.Nat.{mul-mod_left, div-add-mod'}
use mathlib.Core.Path.{◌≡◌, refl, sym, ap, ◌∙◌}
use mathlib.Core.Logic.{◌↔◌}
use mathlib.Core.Bool.{true, false, false≢true}
use mathlib.Core.List.{List}
use mathlib.Core.Option.{Option, none, some}
use Rattle.std.specs.Prelude.{Ok, Err}
use lib.ListN.{length}
use Rattle.meaning.specs.Rows.{alike, ascending, all_within, sound, rows_of, limits, Limited}
use Rattle.meaning.specs.Closed.{or_else, unless}
use Rattle.meaning.proofs.Tests.{is, isnt, case, and_r}
use Rattle.meaning.proofs.Alike.{alike_length}
use Rattle.meaning.proofs.Flat.{rows_whole}
use Rattle.tables.specs.declared.Flaw.{Flaw}
use Rattle.tables.specs.declared.Flaw.TheVariants.{Limits, Length, Rows, Value, Order}
use Rattle.tables.specs.Check.{flaw_of, answer, checked_of, Passes}
use Rattle.tables.specs.Inner.{Ready}
use Rattle.meaning.proofs.Limits.{limits_hold}
use Rattle.tables.proofs.laws.Flaws.{Counted, Shows, flaw_none, flaw_some}

-- what a refusal shows of a table of rows of l values below n
abbrev pub ShowsOf : ℕ → ℕ → List ℕ → Flaw → Type 0
ShowsOf n l table Limits = ¬ Limited n l
ShowsOf n l table Length = Limited n l × Shows (alike n l) table Length
ShowsOf n l table (Rows k) = Limited n l × Shows (alike n l) table (Rows k)
ShowsOf n l table (Value p) = Limited n l × Shows (alike n l) table (Value p)
ShowsOf n l table (Order k) = Limited n l × Shows (alike n l) table (Order k)

answer_sound : (k m : ℕ) (o : Option Flaw) → answer k o ≡ Ok m → (o ≡ none) × (k ≡ m)
answer_sound k m none e = (refl, cc)
answer_sound k m (some f) e = let z : ◌≡◌ {A = ℕ} 0 1 = cc in absurd (omega arith)

answer_flawed : (k : ℕ) (f : Flaw) (o : Option Flaw) → answer k o ≡ Err f → o ≡ some f
answer_flawed k f none e = let z : ◌≡◌ {A = ℕ} 0 1 = cc in absurd (omega arith)
answer_flawed k f (some g) e = let z : g ≡ f = cc in rw z

module _ (n l : ℕ) (table : List ℕ) where
  checked_within : limits n l ≡ true → checked_of n l table ≡ answer (length table / l) (flaw_of (alike n l) table)
  unfolding checked_of unless or_else
  checked_within e = rw e

  checked_outside : limits n l ≡ false → checked_of n l table ≡ Err Limits
  unfolding checked_of unless or_else
  checked_outside e = rw e

  outside : limits n l ≡ false → ¬ Limited n l
  outside e c = false≢true (sym e ∙ (limits_hold n l).1 c)

  wide : Limited n l → 0 < length (alike n l)
  wide c = omega (arith, alike_length n l, c.wide)

  pub checked_flawed : (f : Flaw) → checked_of n l table ≡ Err f → ShowsOf n l table f
  checked_flawed f e = elim (case (limits n l)) [
    | isnt t ↦
        let g = checked_outside t in
        let z : f ≡ Limits = cc in
        rw z (outside t)
    | is t ↦
        let c = (limits_hold n l).0 t in
        shows f c (flaw_some (alike n l) table (wide c) f (answer_flawed (length table / l) f (flaw_of (alike n l) table) (sym (checked_within t) ∙ e)))
  ]
    where
      shows : (f : Flaw) → Limited n l → Shows (alike n l) table f → ShowsOf n l table f
      shows Limits c t = absurd t
      shows Length c t = (c, t)
      shows (Rows k) c t = (c, t)
      shows (Value p) c t = (c, t)
      shows (Order k) c t = (c, t)

  module _ (k : ℕ) where
    sound_passes : checked_of n l table ≡ Ok k → Passes n l table k
    sound_passes e = elim (case (limits n l)) [
      | isnt t ↦
          let g = checked_outside t in
          let z : ◌≡◌ {A = ℕ} 0 1 = cc in
          absurd (omega arith)
      | is t ↦
          let c = (limits_hold n l).0 t in
          let (f, g) = answer_sound (length table / l) k (flaw_of (alike n l) table) (sym (checked_within t) ∙ e) in
          let (d, s) = (flaw_none (alike n l) table (wide c)).0 f in
          record {
            limited = c;
            whole = omega (arith, rw alike_length at d.whole, div-add-mod' (length table) l, ap (λ (m : ℕ). m * l) g);
            few = omega (arith, rw alike_length at d.few);
            rows_sound = rw alike_length at s;
          }
    ]

    passes_sound : Passes n l table k → checked_of n l table ≡ Ok k
    passes_sound c =
        let e = rows_whole l table k c.limited.wide c.whole in
        let d : Counted (alike n l) table = record {
          whole = rw (alike_length, c.whole) (mul-mod_left k l);
          few = rw (alike_length, e) c.few;
        } in
        let f = (flaw_none (alike n l) table (wide c.limited)).1 (d, rw alike_length c.rows_sound) in
        checked_within ((limits_hold n l).1 c.limited) ∙ rw (e, f)

    pub checked_sound : (checked_of n l table ≡ Ok k) ↔ Passes n l table k
    checked_sound = (sound_passes, passes_sound)

  -- what the searches ask of a table
  pub passes_ready : (k : ℕ) → Passes n l table k → Ready l table
  unfolding sound
  passes_ready k c = record {
    narrow = c.limited.narrow;
    ordered = record { wide = c.limited.wide; rising = and_r (all_within (alike n l) (rows_of l table)) (ascending (rows_of l table)) c.rows_sound };
  }
