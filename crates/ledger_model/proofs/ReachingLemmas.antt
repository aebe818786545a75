-- What a process reaches: the table at each kind of place, on both sides of a loan, and what a write does there.
use Rattle.std.proofs.Common.{◌≡◌, ◌≢◌, ℕ, ◌<◌, Bool, true, false, List, Option, Some, None, refl, sym, ap, subst, ◌∙◌, inl, inr}
use Rattle.std.specs.Prelude.{if◌then◌else◌}
use Rattle.std.specs.Option.{option_map}
use Rattle.std.proofs.lemmas.Bool.{cond-true, cond-false}
use Rattle.std.proofs.lemmas.Option.{none-some, same_Some}
use Rattle.xk_base.specs.declared.ids.Number.{Number}
use Rattle.xk_base.specs.declared.ids.Place.{Place}
use Rattle.xk_base.specs.declared.pages.Access.{Access}
use Rattle.xk_base.specs.declared.pages.LoanKind.{LoanKind}
use Rattle.ledger_model.specs.Conditions.{CanLend}
use Rattle.ledger_model.specs.Lawful.{IsLawful}
use Rattle.ledger_model.specs.Ledger.{Ledger, Contents, Console, Bytes, Page, PageLoan, Orphan, PageName, Homed, Orphaned, loan_at, contents_of}
use Rattle.ledger_model.specs.Places.{same_place, place_after}
use Rattle.ledger_model.specs.Reach.{lender_of, FreePlace, HomePlace, HolderPlace, OrphanPlace, home_may, lender_may, holder_may, reach, is_free}
use Rattle.ledger_model.specs.Steps.{lend, with_loan, write, written, written_contents, written_page, written_orphan}
use Rattle.ledger_model.proofs.LedgerLemmas.{cases_Option, loan_at-page, lender_of-none, lender_of-None, lender_of-loan, role_at-home, role_at-orphan, role_at-holder, role_at-lender, role_at-free, IsFreeAt, is_free-true, is_free-from, reach-role}
use Rattle.ledger_model.proofs.Stepping.LendingLemmas.{lend_page, lend_lawful, lend_loan_inside, loan_to}
use Rattle.ledger_model.proofs.PlaceLemmas.{in_run-after, moved-after, same_place-refl, same_place-apart}

-- ---- the table

pub reach-home : (procs : ℕ) (l : Ledger) (p : Place) (page : Page) (access : Access) → l.home p ≡ Some page
    → reach procs l p access ≡ (if home_may page.right page.loan access then Some (Homed p) else None)
reach-home procs l p page access e = reach-role procs l p access (HomePlace page) (role_at-home procs l p page e)

pub reach-holder : (procs capacity : ℕ) (l : Ledger) (p : Place) (loan : PageLoan) (access : Access)
    → IsLawful procs capacity l → loan_at l p ≡ Some loan
    → reach procs l loan.holder access ≡ (if holder_may loan.kind access then Some (Homed p) else None)
reach-holder procs capacity l p loan access h e = reach-role procs l loan.holder access (HolderPlace p loan) (role_at-holder procs capacity l p loan h e)

pub reach-orphan : (procs capacity : ℕ) (l : Ledger) (p : Place) (orphan : Orphan) (access : Access)
    → IsLawful procs capacity l → l.orphan p ≡ Some orphan
    → reach procs l p access ≡ (if holder_may orphan.kind access then Some (Orphaned p) else None)
reach-orphan procs capacity l p orphan access h e = reach-role procs l p access (OrphanPlace orphan) (role_at-orphan procs l p orphan (h.orphan_no_home p orphan e) e)

pub reach-free : (procs : ℕ) (l : Ledger) (p : Place) (access : Access) → is_free procs l p ≡ true
    → reach procs l p access ≡ None
reach-free procs l p access e =
    let free : IsFreeAt procs l p = is_free-true procs l p e in
    reach-role procs l p access FreePlace (role_at-free procs l p free.home free.orphan free.lender)

-- a free place is no home, no orphan's place and no holder place
pub is_free-parts : (procs capacity : ℕ) (l : Ledger) (p : Place) → IsLawful procs capacity l
    → is_free procs l p ≡ true
    → (l.home p ≡ None) × (l.orphan p ≡ None) × ((q : Place) (loan : PageLoan) → loan_at l q ≡ Some loan → loan.holder ≢ p)
is_free-parts procs capacity l p h e =
    let free : IsFreeAt procs l p = is_free-true procs l p e in (
      free.home,
      free.orphan,
      λ q loan f.
          let page : (a : Page) × (l.home q ≡ Some a) × (a.loan ≡ Some loan) = loan_at-page l q loan f in
          lender_of-none procs l p q loan free.lender (h.home_lies q page.0 page.1) f,
    )

pub is_free-all : (procs : ℕ) (l : Ledger) (p : Place) → l.home p ≡ None → l.orphan p ≡ None
    → ((q : Place) (loan : PageLoan) → loan_at l q ≡ Some loan → loan.holder ≢ p) → is_free procs l p ≡ true
is_free-all procs l p a b c = is_free-from procs l p (record { home = a; orphan = b; lender = lender_of-None procs l p c })

-- ---- both sides of a loan

pub lend_reach_lender : (procs : ℕ) (from : Place) (n : ℕ) (to : Place) (kind : LoanKind) (number : Number) (l : Ledger)
    → CanLend procs l from n to kind number
    → (i : ℕ) (page : Page) (access : Access) → i < n → l.home (place_after from i) ≡ Some page
    → reach procs (lend from n to kind number l) (place_after from i) access ≡ (if lender_may kind page.right access then Some (Homed (place_after from i)) else None)
lend_reach_lender procs from n to kind number l can i page access b e =
    reach-home procs (lend from n to kind number l) (place_after from i) (with_loan (loan_to from to kind number (place_after from i)) page) access
    (lend_page procs from n to kind number l can (place_after from i) page (in_run-after from n i b) e)

pub lend_reach_holder : (procs capacity : ℕ) (from : Place) (n : ℕ) (to : Place) (kind : LoanKind) (number : Number) (l : Ledger)
    → IsLawful procs capacity l → CanLend procs l from n to kind number
    → (i : ℕ) (access : Access) → i < n
    → reach procs (lend from n to kind number l) (place_after to i) access ≡ (if holder_may kind access then Some (Homed (place_after from i)) else None)
lend_reach_holder procs capacity from n to kind number l h can i access b =
    subst (λ q. reach procs (lend from n to kind number l) q access ≡ (if holder_may kind access then Some (Homed (place_after from i)) else None)) (moved-after from to i)
    (reach-holder procs capacity (lend from n to kind number l) (place_after from i) (loan_to from to kind number (place_after from i)) access
    (lend_lawful procs from n to kind number l can capacity h)
    (lend_loan_inside procs from n to kind number l can (place_after from i) (in_run-after from n i b)))

-- ---- a page that is reached is there

pub reached_contents : (procs : ℕ) (l : Ledger) (p : Place) (access : Access) (name : PageName)
    → reach procs l p access ≡ Some name → (c : Contents) × (contents_of l name ≡ Some c)
reached_contents procs l p access name e = elim (cases_Option (l.home p)) [
  | inr page ↦
      let at : name ≡ Homed p =
      named (home_may page.0.right page.0.loan access) (Homed p) (sym (reach-home procs l p page.0 access page.1) ∙ e) in
      (page.0.contents, ap (contents_of l) at ∙ ap (option_map (λ (x : Page). x.contents)) page.1)
  | inl no_home ↦ elim (cases_Option (l.orphan p)) [
    | inr orphan ↦
        let at : name ≡ Orphaned p = named (holder_may orphan.0.kind access) (Orphaned p)
        (sym (reach-role procs l p access (OrphanPlace orphan.0) (role_at-orphan procs l p orphan.0 no_home orphan.1)) ∙ e) in
        (Bytes orphan.0.bytes, ap (contents_of l) at ∙ ap (option_map (λ (x : Orphan). Bytes x.bytes)) orphan.1)
    | inl no_orphan ↦ elim (cases_Option (lender_of procs l p)) [
      | inr q ↦
          let held : (loan : PageLoan) × (loan_at l q.0 ≡ Some loan) × (loan.holder ≡ p) =
          lender_of-loan procs l p q.0 q.1 in
          let page : (a : Page) × (l.home q.0 ≡ Some a) × (a.loan ≡ Some held.0) = loan_at-page l q.0 held.0 held.1 in
          let at : name ≡ Homed q.0 = named (holder_may held.0.kind access) (Homed q.0)
          (sym (reach-role procs l p access (HolderPlace q.0 held.0) (role_at-lender procs l p q.0 held.0 no_home no_orphan q.1 held.1)) ∙ e) in
          (page.0.contents, ap (contents_of l) at ∙ ap (option_map (λ (x : Page). x.contents)) page.1)
      | inl none ↦ absurd (none-some name (sym (reach-role procs l p access FreePlace (role_at-free procs l p no_home no_orphan none)) ∙ e))
    ]
  ]
]
  where
    named : (b : Bool) (x : PageName) → (if b then Some x else None) ≡ Some name → name ≡ x
    named true x f = sym (same_Some x name f)
    named false x f = absurd (none-some name f)

-- ---- write

pub write_changed : (name : PageName) (offset : ℕ) (bytes old : List ℕ) (l : Ledger)
    → contents_of l name ≡ Some (Bytes old)
    → contents_of (write name offset bytes l) name ≡ Some (Bytes (written old offset bytes))
unfolding write
write_changed (Homed p) offset bytes old l e =
    ap (option_map (λ (x : Page). x.contents)) (cond-true (same_place p p) (option_map (written_page offset bytes) (l.home p)) (l.home p) (same_place-refl p))
    ∙ (of_page (l.home p) ∙ ap (option_map (written_contents offset bytes)) e)
  where
    of_page : (o : Option Page)
        → option_map (λ (x : Page). x.contents) (option_map (written_page offset bytes) o) ≡ option_map (written_contents offset bytes) (option_map (λ (x : Page). x.contents) o)
    of_page None = refl
    of_page (Some x) = refl
write_changed (Orphaned p) offset bytes old l e =
    ap (option_map (λ (x : Orphan). Bytes x.bytes)) (cond-true (same_place p p) (option_map (written_orphan offset bytes) (l.orphan p)) (l.orphan p) (same_place-refl p))
    ∙ (of_orphan (l.orphan p) ∙ ap (option_map (written_contents offset bytes)) e)
  where
    of_orphan : (o : Option Orphan)
        → option_map (λ (x : Orphan). Bytes x.bytes) (option_map (written_orphan offset bytes) o) ≡ option_map (written_contents offset bytes) (option_map (λ (x : Orphan). Bytes x.bytes) o)
    of_orphan None = refl
    of_orphan (Some x) = refl

pub write_others : (name other : PageName) (offset : ℕ) (bytes : List ℕ) (l : Ledger) → other ≢ name
    → contents_of (write name offset bytes l) other ≡ contents_of l other
unfolding write
write_others (Homed p) (Homed q) offset bytes l ne =
    ap (option_map (λ (x : Page). x.contents)) (cond-false (same_place q p) (option_map (written_page offset bytes) (l.home q)) (l.home q) (same_place-apart q p (λ e. ne (ap Homed e))))
write_others (Homed p) (Orphaned q) offset bytes l ne = refl
write_others (Orphaned p) (Homed q) offset bytes l ne = refl
write_others (Orphaned p) (Orphaned q) offset bytes l ne =
    ap (option_map (λ (x : Orphan). Bytes x.bytes)) (cond-false (same_place q p) (option_map (written_orphan offset bytes) (l.orphan q)) (l.orphan q) (same_place-apart q p (λ e. ne (ap Orphaned e))))

-- a store to the console changes nothing
pub write_console : (name : PageName) (offset : ℕ) (bytes : List ℕ) (l : Ledger) → contents_of l name ≡ Some Console
    → contents_of (write name offset bytes l) name ≡ Some Console
unfolding write
write_console (Homed p) offset bytes l e =
    ap (option_map (λ (x : Page). x.contents)) (cond-true (same_place p p) (option_map (written_page offset bytes) (l.home p)) (l.home p) (same_place-refl p))
    ∙ (of_page (l.home p) ∙ ap (option_map (written_contents offset bytes)) e)
  where
    of_page : (o : Option Page)
        → option_map (λ (x : Page). x.contents) (option_map (written_page offset bytes) o) ≡ option_map (written_contents offset bytes) (option_map (λ (x : Page). x.contents) o)
    of_page None = refl
    of_page (Some x) = refl
write_console (Orphaned p) offset bytes l e = by_orphan (l.orphan p) refl
  where
    by_orphan : (o : Option Orphan) → l.orphan p ≡ o
        → contents_of (write (Orphaned p) offset bytes l) (Orphaned p) ≡ Some Console
    by_orphan None q = absurd (none-some Console (sym (ap (option_map (λ (x : Orphan). Bytes x.bytes)) q) ∙ e))
    by_orphan (Some x) q = let no : Bytes x.bytes ≡ Console = same_Some (Bytes x.bytes) Console (sym (ap (option_map (λ (y : Orphan). Bytes y.bytes)) q) ∙ e) in cc
