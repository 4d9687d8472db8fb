-- Refusing: the refusals of a page in their order, the faults of the book, and the sizes of edition 1.
use Prim.Native.Nat.{ℕ, ◌≤◌, ◌<◌}
use native.Mathlib.Omega.{arith}
use mathlib.Core.Path.{◌≡◌, refl, sym, ap, ◌∙◌}
use mathlib.Core.Bool.{Bool, true, false}
use mathlib.Core.List.{List}
use mathlib.Core.Logic.{◌⊎◌, inl, inr}
use lib.ListN.{length, take, replicate}
use borrow.Author.Tests.{eq-eqb, ne_eqb, lt-ltb, le-ltb}
use Rattle.meaning.specs.Rows.{Row, Sizes, alike, Limited}
use Rattle.meaning.specs.Bytes.{rules_in}
use Rattle.meaning.specs.Listing.{dead}
use Rattle.meaning.proofs.Alike.{alike_lent, alike_length}
use Rattle.books.specs.declared.Fault.{Fault}
use Rattle.books.specs.declared.Head.{Head}
use Rattle.books.specs.Format.{Book, read_of}
use Rattle.std.specs.Prelude.{Result, Err}
use Rattle.books.proofs.laws.Holds.{holds_start}
use Rattle.books.proofs.laws.Accepted.{headed}
use Rattle.listing.specs.declared.cursor.Cursor.{Cursor}
use Rattle.listing.specs.declared.paging.Unlisted.TheVariants.{BadCursor, NoRoom, BadBudget, Faulty}
use Rattle.meaning.proofs.Limits.{lent_sized}
use Rattle.listing.specs.Inner.{Tested, Good, Standard}
use Rattle.listing.specs.Cursors.{cursor_ok}
use Rattle.listing.proofs.laws.Prefixes.{good_of}
use Rattle.listing.proofs.laws.Standing.{stand_all}
use Rattle.listing.specs.Pages.{P, refused, listed_in, page_in, page_by, page_of}

-- ---- the refusals

module _ (ns : Sizes) (d : Row → Bool) (c : Cursor) (budget : ℕ) (o : List ℕ) (t : Bool) (k : Tested ns c t) where
  pub page_bad : t ≡ false → refused c BadCursor o ≡ page_in ns d c budget o
  unfolding page_in
  page_bad h = rw (sym k.is ∙ h)

  module _ (h : t ≡ true) where
    ok : cursor_ok ns c ≡ true
    ok = sym k.is ∙ h

    pub page_no_room : length o < length ns → refused c NoRoom o ≡ page_in ns d c budget o
    unfolding page_in
    page_no_room r = rw (ok, lt-ltb (length o) (length ns) r)

    module _ (r : length ns ≤ length o) where
      pub page_no_budget : (budget ≡ 0) ⊎ ((budget ≡ 0 → ⊥) × (65535 < budget)) → refused c BadBudget o ≡ page_in ns d c budget o
      unfolding page_in
      page_no_budget (inl e) = rw (ok, le-ltb (length o) (length ns) r, eq-eqb budget 0 e)
      page_no_budget (inr m) = rw (ok, le-ltb (length o) (length ns) r, ne_eqb budget 0 m.0, lt-ltb 65535 budget m.1)

      module _ (e : budget ≡ 0 → ⊥) where
        pub page_big_budget : 65535 < budget → refused c BadBudget o ≡ page_in ns d c budget o
        page_big_budget m = page_no_budget (inr (e, m))

        pub page_listed : budget ≤ 65535 → (x : P) → x ≡ listed_in ns d c budget o → x ≡ page_in ns d c budget o
        unfolding page_in
        page_listed m x q = q ∙ sym (rw (ok, le-ltb (length o) (length ns) r, ne_eqb budget 0 e, le-ltb 65535 budget m))

        pub page_starts : length ns ≤ 16 → Good ns c × (length ns ≤ length o) × (1 ≤ budget)
        page_starts s = (good_of ns c s (k.sixteen h) ok, r, omega arith)

-- ---- by what reading the book gives

module _ (b : List ℕ) (r : Result Head Fault) (e : r ≡ read_of b) where
  pub page_unread : (c : Cursor) (budget : ℕ) (o : List ℕ) (f : Fault) → r ≡ Err f → refused c (Faulty f) o ≡ page_of b c budget o
  unfolding page_of page_by
  page_unread c budget o f q = rw (sym e ∙ q)

  -- a book of edition 1: the first l of sixteen bytes n are the sizes
  module _ (n l family rules : ℕ) (q : r ≡ Book n l family rules) where
    h : read_of b ≡ Book n l family rules
    h = sym e ∙ q

    pub page_limits : Limited n l
    page_limits = let f = (headed b n l family rules h).well_formed in record { some = f.n_low; few = f.n_high; wide = f.l_low; narrow = f.l_high }

    lent : take l (replicate 16 n) ≡ alike n l
    lent = alike_lent n l page_limits.narrow

    pub page_standard : Standard b rules (take l (replicate 16 n))
    page_standard =
        let w = headed b n l family rules h in
        let z = lent_sized n l page_limits n refl in
        record {
          limited = z;
          settings = rw lent (omega (arith, alike_length n l, page_limits.wide));
          stand = stand_all b (alike n l) family 7 rules (rw lent at z) (holds_start b n l family rules h);
          count = w.count_is;
          few = omega (arith, w.well_formed.few, w.count);
        }

    pub page_read : (c : Cursor) (budget : ℕ) (o : List ℕ) (x : P) → x ≡ page_in (take l (replicate 16 n)) (dead (rules_in b)) c budget o → x ≡ page_of b c budget o
    unfolding page_of page_by
    page_read c budget o x p = p ∙ ap (λ (ns : Sizes). page_in ns (dead (rules_in b)) c budget o) lent ∙ sym (rw h)
