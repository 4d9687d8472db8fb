-- A page goes through a front part of what comes after its cursor, stops only when none is left or the steps or the rows are full,
-- and leaves exactly what comes after its last prefix.
use Prim.Native.Nat.{ℕ, zero, suc, ◌-◌, ◌≤◌}
use native.Mathlib.Omega.{arith}
use mathlib.Core.Path.{◌≡◌, refl, sym, ap, ◌∙◌}
use mathlib.Core.Bool.{Bool, true, false, true≢false}
use mathlib.Core.Logic.{◌≢◌}
use mathlib.Core.List.{List, [], ◌∷◌, ◌++◌}
use lib.Dec.{T}
use lib.ListN.{length, length-append}
use lib.Seq.{append_snoc}
use Rattle.meaning.specs.Lists.{cons_if, keep, last_or, All}
use Rattle.meaning.proofs.ListLaws.{keep_keep, last_split}
use Rattle.meaning.proofs.All.{All-keep, All-at, keep_holds}
use Rattle.meaning.proofs.Ascending.{ascends_keep, ascends_after}
use Rattle.meaning.specs.Rows.{Row, Sizes, begins, before}
use Rattle.meaning.proofs.Order.{before_irreflexive, before_asymmetric, before_transitive}
use Rattle.meaning.specs.Listing.{visits, shown, less, front, after, page}
use Rattle.meaning.proofs.Tree.{visits_tree}
use Rattle.meaning.proofs.Visited.{visits_ascending, Reached, tree_sound}

module _ (is_shown : Row → Bool) where
  -- what a page leaves
  abbrev pub rest : ℕ → ℕ → List Row → List Row
  rest room budget [] = []
  rest zero budget (x ∷ xs) = x ∷ xs
  rest (suc room) zero (x ∷ xs) = x ∷ xs
  rest (suc room) (suc budget) (x ∷ xs) = rest (less (is_shown x) room) budget xs

  pub front_rest : (room budget : ℕ) (L : List Row) → front is_shown room budget L ++ rest room budget L ≡ L
  front_rest room budget [] = refl
  front_rest zero budget (x ∷ xs) = refl
  front_rest (suc room) zero (x ∷ xs) = refl
  front_rest (suc room) (suc budget) (x ∷ xs) = ap (λ (l : List Row). x ∷ l) (front_rest (less (is_shown x) room) budget xs)

  -- no more steps than the budget, no more rows than there is room for
  pub front_steps : (room budget : ℕ) (L : List Row) → length (front is_shown room budget L) ≤ budget
  front_steps room budget [] = omega arith
  front_steps zero budget (x ∷ xs) = omega arith
  front_steps (suc room) zero (x ∷ xs) = omega arith
  front_steps (suc room) (suc budget) (x ∷ xs) = omega (arith, front_steps (less (is_shown x) room) budget xs)

  pub front_rows : (room budget : ℕ) (L : List Row) → length (keep is_shown (front is_shown room budget L)) ≤ room
  front_rows room budget [] = omega arith
  front_rows zero budget (x ∷ xs) = omega arith
  front_rows (suc room) zero (x ∷ xs) = omega arith
  front_rows (suc room) (suc budget) (x ∷ xs) = go (is_shown x) (λ b. front_rows (less b room) budget xs)
    where
      go : (b : Bool) → ((b : Bool) → length (keep is_shown (front is_shown (less b room) budget xs)) ≤ less b room)
          → length (cons_if b x (keep is_shown (front is_shown (less b room) budget xs))) ≤ suc room
      go true ih = omega (arith, ih true)
      go false ih = ih false

  -- where something is left and the steps do not fill the budget, the rows fill the room
  pub front_stops : (room budget : ℕ) (L : List Row) → rest room budget L ≢ [] → length (front is_shown room budget L) ≢ budget
      → length (keep is_shown (front is_shown room budget L)) ≡ room
  front_stops room budget [] h k = absurd (h refl)
  front_stops zero budget (x ∷ xs) h k = refl
  front_stops (suc room) zero (x ∷ xs) h k = absurd (k refl)
  front_stops (suc room) (suc budget) (x ∷ xs) h k = go (is_shown x) (λ b. front_stops (less b room) budget xs) h (λ e. k (ap suc e))
    where
      go : (b : Bool)
          → ((b : Bool) → rest (less b room) budget xs ≢ [] → length (front is_shown (less b room) budget xs) ≢ budget
          → length (keep is_shown (front is_shown (less b room) budget xs)) ≡ less b room)
          → rest (less b room) budget xs ≢ [] → length (front is_shown (less b room) budget xs) ≢ budget
          → length (cons_if b x (keep is_shown (front is_shown (less b room) budget xs))) ≡ suc room
      go true ih h k = ap suc (ih true h k)
      go false ih h k = ih false h k

  -- with room and budget, at least one less is left than there was
  pub rest_less : (room budget : ℕ) (L : List Row) → 1 ≤ room → 1 ≤ budget → length (rest room budget L) ≤ length L - 1
  rest_less room budget [] r b = omega arith
  rest_less zero budget (x ∷ xs) r b = absurd (omega arith)
  rest_less (suc room) zero (x ∷ xs) r b = absurd (omega arith)
  rest_less (suc room) (suc budget) (x ∷ xs) r b =
      let e = ap length (front_rest (less (is_shown x) room) budget xs) in
      omega (arith, simp length-append at e)

  pub front_none : (room budget : ℕ) (L : List Row) → 1 ≤ room → 1 ≤ budget → front is_shown room budget L ≡ [] → L ≡ []
  front_none room budget [] r b e = refl
  front_none zero budget (x ∷ xs) r b e = absurd (omega arith)
  front_none (suc room) zero (x ∷ xs) r b e = absurd (omega arith)
  front_none (suc room) (suc budget) (x ∷ xs) r b e = cc

module _ (ns : Sizes) (d : Row → Bool) where
  -- what comes after the last of a front part is what is left
  pub after_last : (c : Row) (F G : List Row) → F ++ G ≡ after ns d c → after ns d (last_or c F) ≡ G
  after_last c [] G e = sym e
  after_last c (x ∷ F) G e =
      let q = last_or x F in
      let s = last_split x F in
      let w : after ns d c ≡ s.0 ++ (q ∷ G) = sym e ∙ ap (λ (l : List Row). l ++ G) s.1 ∙ append_snoc s.0 q G in
      let cq = All-at (λ y. before c y ≡ true) s.0 q G (rw w at (keep_holds (before c) (visits ns d))) in
      sym (keep_keep (before q) (before c) (λ z h. before_transitive c q z cq h) (visits ns d))
      ∙ rw w (ascends_after before before_asymmetric before_irreflexive s.0 q G
      (rw w at (ascends_keep before (before c) (visits ns d) (visits_ascending ns d))))

  module _ (room budget : ℕ) (c : Row) where
    -- THEOREM: after a page's last prefix comes exactly what the page left
    pub page_rest : after ns d (page ns d room budget c).last ≡ rest (shown ns d) room budget (after ns d c)
    page_rest = after_last c (front (shown ns d) room budget (after ns d c)) (rest (shown ns d) room budget (after ns d c)) (front_rest (shown ns d) room budget (after ns d c))

    -- THEOREM: a page that is not finished has made at least one step
    pub page_moves : 1 ≤ room → 1 ≤ budget → (page ns d room budget c).finished ≡ false → 1 ≤ (page ns d room budget c).steps
    page_moves r b f = go (front (shown ns d) room budget (after ns d c)) refl
      where
        go : (F : List Row) → front (shown ns d) room budget (after ns d c) ≡ F → 1 ≤ length (front (shown ns d) room budget (after ns d c))
        go [] e =
            let none : after ns d c ≡ [] = front_none (shown ns d) room budget (after ns d c) r b e in
            absurd (true≢false (sym (rw (e, none)) ∙ f))
        go (x ∷ F) e = rw e (omega arith)

    -- the last prefix that a page visits is a visited one, within the sizes
    pub page_reached : (x : Row) (F : List Row) → front (shown ns d) room budget (after ns d c) ≡ x ∷ F → Reached ns d (last_or x F)
    page_reached x F e =
        let G : List Row = rest (shown ns d) room budget (after ns d c) in
        let s = last_split x F in
        let whole : after ns d c ≡ (s.0 ++ (last_or x F ∷ [])) ++ G =
        sym (front_rest (shown ns d) room budget (after ns d c)) ∙ ap (λ (l : List Row). l ++ G) (e ∙ s.1) in
        let sound : All (Reached ns d) (visits ns d) = rw (visits_tree ns d) (tree_sound ns d) in
        All-at (Reached ns d) s.0 (last_or x F) G
        (rw (whole ∙ append_snoc s.0 (last_or x F) G) at (All-keep (Reached ns d) (before c) (visits ns d) sound))

    pub page_begins : T (begins ns c) → T (begins ns (page ns d room budget c).last)
    page_begins h = go (front (shown ns d) room budget (after ns d c)) refl
      where
        go : (F : List Row) → front (shown ns d) room budget (after ns d c) ≡ F → T (begins ns (last_or c F))
        go [] e = h
        go (x ∷ F) e = (page_reached x F e).1
