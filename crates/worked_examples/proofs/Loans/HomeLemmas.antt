-- Ledgers whose homes are among a few places: which places are free, and whose pages are on loan to a place.
use Rattle.std.proofs.Common.{◌≡◌, ℕ, Bool, true, false, List, [], ◌∷◌, Option, Some, None, refl, sym, ap, ◌∙◌}
use Rattle.std.specs.Prelude.{map, not, ◌&&◌, ◌||◌, if◌then◌else◌}
use Rattle.std.specs.List.{list_any}
use Rattle.std.specs.Option.{option_map}
use Rattle.std.proofs.lemmas.Bool.{false≢true}
use Rattle.std.proofs.lemmas.Option.{none-some}
use Rattle.xk_base.specs.declared.ids.Number.{Number}
use Rattle.xk_base.specs.declared.ids.Place.{Place}
use Rattle.xk_base.specs.declared.pages.LoanKind.{LoanKind}
use Rattle.ledger_model.specs.Ledger.{Ledger, Orphan, Page, PageLoan, Homed, loan_at}
use Rattle.ledger_model.specs.Places.{first_place, in_run, is_user_place, moved, same_place}
use Rattle.ledger_model.specs.Reach.{holder_role, is_free, is_free_role, is_held_at, lender_of, lent_role, role_at}
use Rattle.ledger_model.specs.Steps.{lend, pass, passed, with_loan, write, written_page}
use Rattle.machine_model.specs.Messaging.LoanSets.{end_loans, freed_but}
use Rattle.ledger_model.proofs.LedgerLemmas.{lender_of-None, lender_of-loan, loan_at-page, is_held_at-Some, is_held_at-true}
use Rattle.ledger_model.proofs.Loans.NumberingLemmas.{first_place-none, first_place-only}
use Rattle.ledger_model.proofs.PlaceLemmas.{same_place-true, same_place-at}
use Rattle.worked_examples.specs.Playing.{PlacedPage, page_in, listed_ledger}

-- every home is one of the list
pub record IsCovered (homes : List Place) (l : Ledger) : Type 0 where
  pub each : (p : Place) (page : Page) → l.home p ≡ Some page → list_any (same_place p) homes ≡ true

abbrev pub places_in : List PlacedPage → List Place
places_in pages = map (λ page. page.place) pages

or_true : (a b : Bool) → b ≡ true → (a || b) ≡ true
or_true true b e = refl
or_true false b e = e

found_in : (pages : List PlacedPage) (p : Place) (page : Page) → page_in pages p ≡ Some page → list_any (same_place p) (places_in pages) ≡ true
found_in [] p page e = absurd (none-some page e)
found_in (first ∷ rest) p page e = go (same_place first.place p) refl (found_in rest p page)
  where
    go : (b : Bool) → same_place first.place p ≡ b → (page_in rest p ≡ Some page → list_any (same_place p) (places_in rest) ≡ true)
        → list_any (same_place p) (places_in (first ∷ rest)) ≡ true
    go true q later =
        ap (λ b. b || list_any (same_place p) (places_in rest)) (same_place-at p first.place (sym (same_place-true first.place p q)))
    go false q later =
        or_true (same_place p first.place) (list_any (same_place p) (places_in rest))
        (later (sym (ap (λ b. if b then Some first.page else page_in rest p) q) ∙ e))

pub covered_listed : (pages : List PlacedPage) → IsCovered (places_in pages) (listed_ledger pages)
unfolding listed_ledger
covered_listed pages = record { each = found_in pages }

home_before : (b : Bool) (f : Page → Page) (o : Option Page) (page : Page) → (if b then option_map f o else o) ≡ Some page
    → (old : Page) × (o ≡ Some old)
home_before true f None page e = absurd (none-some page e)
home_before true f (Some old) page e = (old, refl)
home_before false f o page e = (page, e)

pub covered_lend : (homes : List Place) (from : Place) (n : ℕ) (to : Place) (kind : LoanKind) (number : Number) (l : Ledger)
    → IsCovered homes l → IsCovered homes (lend from n to kind number l)
unfolding lend
covered_lend homes from n to kind number l covered = record {
  each = λ p page e.
      let old : (a : Page) × (l.home p ≡ Some a) =
      home_before (in_run from n p) (with_loan (record { holder = moved from to p; kind = kind; number = number })) (l.home p) page e in
      covered.each p old.0 old.1;
}

pub covered_write : (homes : List Place) (place : Place) (offset : ℕ) (bytes : List ℕ) (l : Ledger)
    → IsCovered homes l → IsCovered homes (write (Homed place) offset bytes l)
unfolding write
covered_write homes place offset bytes l covered = record {
  each = λ p page e.
      let old : (a : Page) × (l.home p ≡ Some a) = home_before (same_place p place) (written_page offset bytes) (l.home p) page e in
      covered.each p old.0 old.1;
}

pub covered_end : (homes : List Place) (ends : Number → Bool) (l : Ledger) → IsCovered homes l → IsCovered homes (end_loans ends l)
unfolding end_loans
covered_end homes ends l covered = record {
  each = λ p page e.
      let old : (a : Page) × (l.home p ≡ Some a) = home_before true (freed_but ends) (l.home p) page e in covered.each p old.0 old.1;
}

pub covered_pass : (homes : List Place) (number : Number) (from to : Place) (l : Ledger)
    → IsCovered homes l → IsCovered homes (pass number from to l)
unfolding pass
covered_pass homes number from to l covered = record {
  each = λ p page e.
      let old : (a : Page) × (l.home p ≡ Some a) = home_before true (passed number from to) (l.home p) page e in
      covered.each p old.0 old.1;
}

-- ---- tests over the list

or_left : (a b : Bool) → (a || b) ≡ false → a ≡ false
or_left true b e = e
or_left false b e = refl

or_right : (a b : Bool) → (a || b) ≡ false → b ≡ false
or_right true b e = absurd (false≢true (sym e))
or_right false b e = e

none_passes : (homes : List Place) (test : Place → Bool) (p : Place) → list_any (same_place p) homes ≡ true
    → list_any test homes ≡ false → test p ≡ false
none_passes [] test p here none = absurd (false≢true here)
none_passes (h ∷ homes) test p here none = go (same_place p h) refl (none_passes homes test p)
  where
    go : (b : Bool) → same_place p h ≡ b
        → (list_any (same_place p) homes ≡ true → list_any test homes ≡ false → test p ≡ false) → test p ≡ false
    go true q later = ap test (same_place-true p h q) ∙ or_left (test h) (list_any test homes) none
    go false q later =
        later (sym (ap (λ b. b || list_any (same_place p) homes) q) ∙ here) (or_right (test h) (list_any test homes) none)

-- ---- lenders

pub no_lender : (procs : ℕ) (homes : List Place) (l : Ledger) (place : Place) → IsCovered homes l
    → list_any (λ h. is_held_at place (loan_at l h)) homes ≡ false → lender_of procs l place ≡ None
no_lender procs homes l place covered none = lender_of-None procs l place (λ q loan e same.
    let page : (x : Page) × (l.home q ≡ Some x) × (x.loan ≡ Some loan) = loan_at-page l q loan e in
    false≢true (sym (none_passes homes (λ h. is_held_at place (loan_at l h)) q (covered.each q page.0 page.1) none)
    ∙ is_held_at-Some place (loan_at l q) loan e same))

-- the one home whose page is on loan to the place
pub lender_found : (procs : ℕ) (homes : List Place) (l : Ledger) (place home : Place) → IsCovered homes l
    → is_user_place procs home ≡ true → is_held_at place (loan_at l home) ≡ true
    → list_any (λ h. not (same_place h home) && is_held_at place (loan_at l h)) homes ≡ false
    → lender_of procs l place ≡ Some home
unfolding lender_of
lender_found procs homes l place home covered lies held only =
    first_place-only procs (λ h. is_held_at place (loan_at l h)) home lies held (λ q h.
    let found : (x : PageLoan) × (loan_at l q ≡ Some x) × (x.holder ≡ place) = is_held_at-true place (loan_at l q) h in
    let page : (x : Page) × (l.home q ≡ Some x) × (x.loan ≡ Some found.0) = loan_at-page l q found.0 found.1 in
    same_place-true q home (is_same (same_place q home) (is_held_at place (loan_at l q)) h
    (none_passes homes (λ x. not (same_place x home) && is_held_at place (loan_at l x)) q (covered.each q page.0 page.1) only)))
  where
    is_same : (a b : Bool) → b ≡ true → (not a && b) ≡ false → a ≡ true
    is_same true b e f = refl
    is_same false b e f = absurd (false≢true (sym f ∙ e))

-- what stands at one place of orphans, where it is known
pub known_orphan : (l : Ledger) (place : Place) (o : Option Orphan) → l.orphan place ≡ o
    → l ≡ record l { orphan = λ q. if same_place q place then o else l.orphan q }
known_orphan l place o e = ap (λ f. record l { orphan = f }) (λ i q. go q (same_place q place) refl i)
  where
    go : (q : Place) (b : Bool) → same_place q place ≡ b → l.orphan q ≡ (if b then o else l.orphan q)
    go q true same = ap l.orphan (same_place-true q place same) ∙ e
    go q false same = refl

-- ---- free places

pub free_place : (procs : ℕ) (homes : List Place) (l : Ledger) (place : Place) → IsCovered homes l
    → l.home place ≡ None → l.orphan place ≡ None → list_any (λ h. is_held_at place (loan_at l h)) homes ≡ false
    → is_free procs l place ≡ true
unfolding is_free role_at
free_place procs homes l place covered home orphan none =
    rw (home, orphan, no_lender procs homes l place covered none) refl

-- by its lender
role_by_lender : (procs : ℕ) (l : Ledger) (place : Place) (o : Option Place) → l.home place ≡ None → l.orphan place ≡ None
    → lender_of procs l place ≡ o → is_free procs l place ≡ is_free_role (holder_role l o)
unfolding is_free role_at
role_by_lender procs l place o home orphan lender = rw (home, orphan, lender) refl

none_lends : (procs : ℕ) (l : Ledger) (place : Place) → lender_of procs l place ≡ None
    → first_place procs (λ q. is_held_at place (loan_at l q)) ≡ None
unfolding lender_of
none_lends procs l place e = e

-- a place to which a page is on loan isn't
pub used_place : (procs : ℕ) (l : Ledger) (place home : Place) → l.home place ≡ None → l.orphan place ≡ None
    → is_user_place procs home ≡ true → is_held_at place (loan_at l home) ≡ true → is_free procs l place ≡ false
used_place procs l place home none no_orphan lies held = go (lender_of procs l place) refl
  where
    go : (o : Option Place) → lender_of procs l place ≡ o → is_free procs l place ≡ false
    go None e =
        absurd (false≢true (sym (first_place-none procs (λ q. is_held_at place (loan_at l q)) (none_lends procs l place e) home lies) ∙ held))
    go (Some q) e =
        let loan : (x : PageLoan) × (loan_at l q ≡ Some x) × (x.holder ≡ place) = lender_of-loan procs l place q e in
        role_by_lender procs l place (Some q) none no_orphan e ∙ ap (λ o. is_free_role (lent_role q o)) loan.1
