-- Closures: the answer of the search for rows that show a table not closed, and what a search over a range of row numbers finds.
use Prim.Native.Nat.{ℕ, zero, suc, ◌+◌, ◌-◌, ◌≤◌, ◌<◌}
use native.Mathlib.Omega.{arith}
use native.Mathlib.Nat.{sub-zero}
use native.Mathlib.Numerals.{add-one}
use mathlib.Core.Path.{◌≡◌, refl, sym, subst, ◌∙◌}
use mathlib.Core.Bool.{Bool, true, false}
use mathlib.Core.List.{List, [], ◌∷◌}
use mathlib.Core.Option.{Option, none, some}
use Rattle.std.specs.Prelude as std
use Rattle.std.specs.Prelude.{Some, None, IsTrue, MatchOption, IsSomeAnd}
use Rattle.std.specs.Option.{option_map}
use Rattle.std.specs.declared.ops.Range.{Range}
use Rattle.std.specs.Iterator.Runs.{Run, SomeRun, AllItemsGive, IsFirstToGive, CallKeepsClosure}
use Rattle.std.proofs.iter.Yields.{nat_range_steps}
use Rattle.std.proofs.iter.runs.Sources.{range_runs}
use denote.Param.Members.{Mut, Called}
use lib.ListN.{length}
use Rattle.meaning.specs.Rows.{Row}
use Rattle.meaning.specs.Rules.{Side, low, high, by_family}
use Rattle.meaning.specs.Closed.{first, unless, first_pair, first_triple, try_pair, try_triple, open_pair, open_triple, open_rows}
use Rattle.literals.specs.declared.kinds.Family.{Family}
use Rattle.literals.specs.declared.kinds.Family.TheVariants.{General, Horn, Dual, Bijunctive}
use Rattle.literals.specs.Kinds.{family_of}
use Rattle.tables.specs.declared.Open.{Open}
use Rattle.tables.specs.declared.Open.TheVariants.{Pair, Triple}
use Rattle.tables.specs.Inner.{shown, pair_after, triple_after, triples_after}
use Rattle.tables.proofs.laws.Loops.{finds}

-- ---- one search for each row number, the last changing fastest

module _ (rows : List Row) where
  pub pair_is : (s : Side) (i : ℕ) → first (try_pair s rows i) (i + 1) (length rows - (i + 1)) ≡ pair_after s rows i
  unfolding pair_after
  pair_is s i = rw add-one

  pub pairs_are : (s : Side) → first (pair_after s rows) 0 (length rows - 0) ≡ open_pair s rows
  unfolding open_pair first_pair pair_after
  pairs_are s = rw sub-zero

  pub triple_is : (i j : ℕ) → first (try_triple rows i j) (j + 1) (length rows - (j + 1)) ≡ triple_after rows i j
  unfolding triple_after
  triple_is i j = rw add-one

  pub triples_is : (i : ℕ) → first (triple_after rows i) (i + 1) (length rows - (i + 1)) ≡ triples_after rows i
  unfolding triples_after
  triples_is i = rw add-one

  pub triples_are : first (triples_after rows) 0 (length rows - 0) ≡ open_triple rows
  unfolding open_triple first_triple first_pair triple_after triples_after
  triples_are = rw sub-zero

-- ---- `find` over a range, and `map`: v names what is found, as the numbers a

module _ (test : ℕ → Bool) (a : ℕ → List ℕ) (v : ℕ → Open) (named : (j : ℕ) → shown (Some (v j)) ≡ some (a j)) (s e : ℕ) where
  pub found_after : (r : std.Option ℕ) → MatchOption r ((k : ℕ) → s ≤ k → k < e → test k ≡ true)
      (λ i. (s ≤ i) × (i < e) × (test i ≡ false) × ((k : ℕ) → s ≤ k → k < i → test k ≡ true))
      → (o : std.Option Open) → o ≡ option_map v r → shown o ≡ first (λ j. unless (test j) (a j)) s (e - s)
  unfolding unless
  found_after None h o q = rw q (finds (λ j. unless (test j) (a j)) s e none (λ k b c. rw (h k b c)))
  found_after (Some i) h o q = rw (q, named i) (finds (λ j. unless (test j) (a j)) s e (some (a i)) (i, h.0, h.1, rw h.2, λ k b c. rw (h.3 k b c)))

-- ---- `find_map` over a range

module _ (p : Run nat_range_steps) where
  item : (k : ℕ) → k < p.len → p.at k ≡ Some (p.from.start + k)
  item k h = go (p.at k) ((range_runs p p.seen).3 k h)
    where
      go : (o : std.Option ℕ) → option_map (λ y. y) o ≡ Some (p.from.start + k) → o ≡ Some (p.from.start + k)
      go None e = cc
      go (Some x) e = e

module _ {F : Type 0} {g : Mut F (ℕ × Unit {0}) (std.Option Open)} {f : F} (found : ℕ → Option (List ℕ))
    (calls : (x : ℕ) (o : std.Option Open) (q : F) → Called g f (x, tt) o q → (q ≡ f) × (shown o ≡ found x)) where
  keeps : CallKeepsClosure g f
  keeps a r q c = (calls a.0 r q c).0

  -- the answer at place k of a run
  given : (p : Run nat_range_steps) (k : ℕ) → k < p.len → (o : std.Option Open) → IsSomeAnd (p.at k) (λ x. Called g f (x, tt) o f) → found (p.from.start + k) ≡ shown o
  given p k h o c = sym (calls (p.from.start + k) o f (rw (item p k h) at c)).1

  found_at : (p : Run nat_range_steps) (y : Open) (a : List ℕ) → shown (Some y) ≡ some a
      → (i : ℕ) × (i < p.len) × (p.len ≡ i + 1) × IsFirstToGive p g f (Some y) None i
      → some a ≡ first found p.from.start (p.from.end - p.from.start)
  found_at p y a e h =
      let few : p.len ≤ p.from.end - p.from.start = (range_runs p p.seen).0 in
      let w = h.3 keeps in
      finds found p.from.start p.from.end (some a) (
        p.from.start + h.0,
        omega arith,
        omega (arith, h.1),
        given p h.0 h.1 (Some y) w.0 ∙ e,
        λ k b c.
            let j : k - p.from.start < p.len = omega (arith, h.1) in
            let e : p.from.start + (k - p.from.start) ≡ k = omega arith in
            rw e at (given p (k - p.from.start) j None (w.1 (k - p.from.start) (omega arith))),
      )

  run_finds : (p : Run nat_range_steps) (r : std.Option Open)
      → MatchOption r (IsTrue p.whole × AllItemsGive p g f None) (λ y. (i : ℕ) × (i < p.len) × (p.len ≡ i + 1) × IsFirstToGive p g f (Some y) None i)
      → shown r ≡ first found p.from.start (p.from.end - p.from.start)
  run_finds p None h =
      let long : p.len ≡ p.from.end - p.from.start = (range_runs p p.seen).1 h.0 in
      finds found p.from.start p.from.end none (λ k b c.
      let i : k - p.from.start < p.len = omega arith in
      let e : p.from.start + (k - p.from.start) ≡ k = omega arith in
      rw e at (given p (k - p.from.start) i None (rw (item p (k - p.from.start) i) (rw (item p (k - p.from.start) i) at (h.1 keeps (k - p.from.start))))))
  run_finds p (Some (Pair a b)) h = found_at p (Pair a b) (a ∷ b ∷ []) refl h
  run_finds p (Some (Triple a b c)) h = found_at p (Triple a b c) (a ∷ b ∷ c ∷ []) refl h

  pub found_mapped : (s : Range ℕ) (r : std.Option Open)
      → SomeRun nat_range_steps s (λ p. MatchOption r (IsTrue p.whole × AllItemsGive p g f None) (λ y. (i : ℕ) × (i < p.len) × (p.len ≡ i + 1) × IsFirstToGive p g f (Some y) None i))
      → shown r ≡ first found s.start (s.end - s.start)
  found_mapped s r h = subst (λ (s : Range ℕ). shown r ≡ first found s.start (s.end - s.start)) h.1 (run_finds h.0 r h.2)

-- ---- by the family

-- what is asked of the rows
abbrev pub wanted : Family → List Row → Option (List ℕ)
wanted General rows = none
wanted Horn rows = open_pair low rows
wanted Dual rows = open_pair high rows
wanted Bijunctive rows = open_triple rows

pub open_by : (rows : List Row) (number : ℕ) (f g : Family) (o : Option (List ℕ)) → f ≡ family_of number → f ≡ g → o ≡ wanted g rows → o ≡ open_rows number rows
unfolding open_rows
open_by rows number f g o e d q = q ∙ rw (← d, e) (go number)
  where
    go : (number : ℕ) → wanted (family_of number) rows ≡ by_family number none (open_pair low rows) (open_pair high rows) (open_triple rows)
    go zero = refl
    go (suc zero) = refl
    go (suc (suc zero)) = refl
    go (suc (suc (suc number))) = refl
