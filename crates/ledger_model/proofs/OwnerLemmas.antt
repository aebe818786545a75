-- One owner, at most one loan; the places of a number; the pages of an orphaned loan.
use Rattle.std.proofs.Common.{◌≡◌, ◌≢◌, ℕ, ◌<◌, Bool, true, false, Option, Some, None, refl, sym, ap, ◌∙◌, ◌⊎◌, inl, inr}
use Rattle.std.specs.Prelude.{if◌then◌else◌}
use Rattle.std.specs.Option.{option_map}
use Rattle.std.proofs.lemmas.Option.{none-some, same_Some}
use Rattle.xk_base.specs.declared.ids.Number.{Number}
use Rattle.xk_base.specs.declared.ids.Place.{Place}
use Rattle.xk_base.specs.declared.pages.Access.{Access}
use Rattle.ledger_model.specs.Lawful.{IsLawful}
use Rattle.ledger_model.specs.Ledger.{Ledger, Page, PageLoan, Orphan, PageName, Homed, Orphaned, loan_at}
use Rattle.ledger_model.specs.Loans.{loans, LoanRun, without_lender, Stands, IsFresh}
use Rattle.ledger_model.specs.Places.{place_after}
use Rattle.ledger_model.specs.Reach.{reach, is_free, home_may, holder_may, lender_of, HolderPlace, OrphanPlace, FreePlace}
use Rattle.ledger_model.specs.Steps.{orphan_loan, end_loan, page_without, orphan_without, freed}
use Rattle.ledger_model.proofs.Stepping.EndingLemmas.{end_loan_fresh, end_loan_loan}
use Rattle.ledger_model.proofs.LedgerLemmas.{cases_Option, loan_at-page, lender_of-loan, role_at-orphan, role_at-lender, role_at-free, reach-role}
use Rattle.ledger_model.proofs.Loans.OfNumberLemmas.{stands-home, stands-orphan, of_number-None, loan_without-old, orphan_without-Some, orphan_of_run-inside}
use Rattle.ledger_model.proofs.Stepping.OrphaningLemmas.{orphan_loan_stands, orphan_loan_lawful, orphan_loan_home, page_without-gone}
use Rattle.ledger_model.proofs.PlaceLemmas.{in_run-after, moved-after}
use Rattle.ledger_model.proofs.ReachingLemmas.{reach-home, reach-orphan, is_free-all}

-- ---- the places of one number

-- the i-th page of a loan with a lender is on loan to the i-th place of its holder
pub stands_home_at : (l : Ledger) (r : LoanRun) (from : Place) (i : ℕ) → Stands (loans l) r → r.lender ≡ Some from
    → i < r.count
    → loan_at l (place_after from i) ≡ Some (record { holder = place_after r.holder i; kind = r.kind; number = r.number })
unfolding loans
stands_home_at l r from i stands e b =
    stands-home (loans l) r from (place_after from i) stands e (in_run-after from r.count i b)
    ∙ ap (λ q. Some (record { holder = q; kind = r.kind; number = r.number })) (moved-after from r.holder i)

-- the i-th place of a loan without a lender is that of an orphan
pub stands_orphan_at : (l : Ledger) (r : LoanRun) (i : ℕ) → Stands (loans l) r → r.lender ≡ None → i < r.count
    → (orphan : Orphan) × (l.orphan (place_after r.holder i) ≡ Some orphan) × (orphan.kind ≡ r.kind) × (orphan.number ≡ r.number)
stands_orphan_at l r i stands e b = stands-orphan l r (place_after r.holder i) stands e (in_run-after r.holder r.count i b)

-- ---- the pages of an orphaned loan

-- they are reached by the holder alone, and are no pages of their lender any more
pub orphan_loan_reach : (procs capacity : ℕ) (l : Ledger) (r : LoanRun) (from : Place) (i : ℕ) (access : Access)
    → IsLawful procs capacity l → Stands (loans l) r → r.lender ≡ Some from → i < r.count
    → reach procs (orphan_loan procs r.number l) (place_after r.holder i) access ≡ (if holder_may r.kind access then Some (Orphaned (place_after r.holder i)) else None)
orphan_loan_reach procs capacity l r from i access h stands e b =
    let o : (orphan : Orphan) × ((orphan_loan procs r.number l).orphan (place_after r.holder i) ≡ Some orphan) × (orphan.kind ≡ r.kind) × (orphan.number ≡ r.number) =
    stands_orphan_at (orphan_loan procs r.number l) (without_lender r) i (orphan_loan_stands procs capacity l r from h stands e) refl b in
    reach-orphan procs capacity (orphan_loan procs r.number l) (place_after r.holder i) o.0 access (orphan_loan_lawful procs capacity r.number l h) o.1
    ∙ ap (λ k. if holder_may k access then Some (Orphaned (place_after r.holder i)) else None) o.2

pub orphan_loan_left : (procs : ℕ) (l : Ledger) (r : LoanRun) (from : Place) (i : ℕ) → Stands (loans l) r
    → r.lender ≡ Some from → i < r.count
    → (orphan_loan procs r.number l).home (place_after from i) ≡ None
orphan_loan_left procs l r from i stands e b =
    let loan : PageLoan = record { holder = place_after r.holder i; kind = r.kind; number = r.number } in
    let page : (a : Page) × (l.home (place_after from i) ≡ Some a) × (a.loan ≡ Some (record { holder = place_after r.holder i; kind = r.kind; number = r.number })) =
    loan_at-page l (place_after from i) (record { holder = place_after r.holder i; kind = r.kind; number = r.number }) (stands_home_at l r from i stands e b) in
    orphan_loan_home procs r.number l (place_after from i)
    ∙ (ap (page_without r.number) page.1 ∙ page_without-gone r.number page.0 (record { holder = place_after r.holder i; kind = r.kind; number = r.number }) page.2 refl)

-- ---- the end of a loan frees its holder's places

still_old : (number : Number) (l : Ledger) (q : Place) (x : PageLoan) → loan_at (end_loan number l) q ≡ Some x
    → (loan_at l q ≡ Some x) × (x.number ≢ number)
unfolding loans
still_old number l q x e =
    let fresh : IsFresh (loans (end_loan number l)) number = end_loan_fresh number l in
    (loan_without-old number (loan_at l q) x (sym (end_loan_loan number l q) ∙ e), of_number-None number (loan_at (end_loan number l) q) x (fresh.homes q) e)

no_orphan_left : (l : Ledger) (r : LoanRun) (i : ℕ) → Stands (loans l) r → i < r.count → r.lender ≡ None
    → (end_loan r.number l).orphan (place_after r.holder i) ≡ None
unfolding end_loan loans
no_orphan_left l r i stands b e =
    (orphan_without-Some r.number (l.orphan (place_after r.holder i)) (record { kind = r.kind; number = r.number })
    (stands.orphans (place_after r.holder i) ∙ orphan_of_run-inside r (place_after r.holder i) e (in_run-after r.holder r.count i b))).1

no_orphan_new : (number : Number) (l : Ledger) (p : Place) → l.orphan p ≡ None → (end_loan number l).orphan p ≡ None
unfolding end_loan
no_orphan_new number l p e = ap (orphan_without number) e

no_home_new : (number : Number) (l : Ledger) (p : Place) → l.home p ≡ None → (end_loan number l).home p ≡ None
unfolding end_loan
no_home_new number l p e = ap (option_map (freed number)) e

pub end_loan_frees : (procs capacity : ℕ) (l : Ledger) (r : LoanRun) (i : ℕ) → IsLawful procs capacity l
    → Stands (loans l) r → i < r.count → is_free procs (end_loan r.number l) (place_after r.holder i) ≡ true
end_loan_frees procs capacity l r i h stands b = by_lender r.lender refl
  where
    q : Place
    q = place_after r.holder i

    by_lender : (x : Option Place) → r.lender ≡ x
        → is_free procs (end_loan r.number l) (place_after r.holder i) ≡ true
    by_lender (Some from) e =
        let loan : PageLoan = record { holder = place_after r.holder i; kind = r.kind; number = r.number } in
        let at : loan_at l (place_after from i) ≡ Some (record { holder = place_after r.holder i; kind = r.kind; number = r.number }) =
        stands_home_at l r from i stands e b in
        is_free-all procs (end_loan r.number l) (place_after r.holder i)
        (no_home_new r.number l (place_after r.holder i) (h.holder_no_home (place_after from i) (record { holder = place_after r.holder i; kind = r.kind; number = r.number }) at))
        (no_orphan_new r.number l (place_after r.holder i) (h.holder_no_orphan (place_after from i) (record { holder = place_after r.holder i; kind = r.kind; number = r.number }) at))
        (λ p x f same.
        let old : (loan_at l p ≡ Some x) × (x.number ≢ r.number) = still_old r.number l p x f in
        let one : p ≡ place_after from i =
        h.holders_differ p (place_after from i) x (record { holder = place_after r.holder i; kind = r.kind; number = r.number }) old.0 at same in
        old.1 (ap (λ (y : PageLoan). y.number) (same_Some x (record { holder = place_after r.holder i; kind = r.kind; number = r.number }) (sym old.0 ∙ (ap (loan_at l) one ∙ at)))))
    by_lender None e =
        let o : (orphan : Orphan) × (l.orphan (place_after r.holder i) ≡ Some orphan) × (orphan.kind ≡ r.kind)
        × (orphan.number ≡ r.number) =
        stands_orphan_at l r i stands e b in
        is_free-all procs (end_loan r.number l) (place_after r.holder i)
        (no_home_new r.number l (place_after r.holder i) (h.orphan_no_home (place_after r.holder i) o.0 o.1))
        (no_orphan_left l r i stands b e)
        (λ p x f same.
        let old : (loan_at l p ≡ Some x) × (x.number ≢ r.number) = still_old r.number l p x f in
        none-some o.0 (sym (h.holder_no_orphan p x old.0) ∙ (ap l.orphan same ∙ o.1)))

-- ---- two numbers share no place

pub numbers_share_no_holder : (procs capacity : ℕ) (l : Ledger) (r s : LoanRun) (i j : ℕ) → IsLawful procs capacity l
    → Stands (loans l) r → Stands (loans l) s → r.number ≢ s.number
    → i < r.count → j < s.count → place_after r.holder i ≢ place_after s.holder j
numbers_share_no_holder procs capacity l r s i j h x y ne b c same = by_lenders r.lender s.lender refl refl
  where
    by_lenders : (o p : Option Place) → r.lender ≡ o → s.lender ≡ p → ⊥
    by_lenders (Some from) (Some other) e f =
        let at : loan_at l (place_after from i) ≡ Some (record { holder = place_after r.holder i; kind = r.kind; number = r.number }) =
        stands_home_at l r from i x e b in
        let also : loan_at l (place_after other j) ≡ Some (record { holder = place_after s.holder j; kind = s.kind; number = s.number }) =
        stands_home_at l s other j y f c in
        let one : place_after from i ≡ place_after other j =
        h.holders_differ (place_after from i) (place_after other j) (record { holder = place_after r.holder i; kind = r.kind; number = r.number }) (record { holder = place_after s.holder j; kind = s.kind; number = s.number }) at also same in
        ne (ap (λ (z : PageLoan). z.number) (same_Some (record { holder = place_after r.holder i; kind = r.kind; number = r.number }) (record { holder = place_after s.holder j; kind = s.kind; number = s.number }) (sym at ∙ (ap (loan_at l) one ∙ also))))
    by_lenders (Some from) None e f =
        let at : loan_at l (place_after from i) ≡ Some (record { holder = place_after r.holder i; kind = r.kind; number = r.number }) =
        stands_home_at l r from i x e b in
        let o : (orphan : Orphan) × (l.orphan (place_after s.holder j) ≡ Some orphan) × (orphan.kind ≡ s.kind)
        × (orphan.number ≡ s.number) =
        stands_orphan_at l s j y f c in
        none-some o.0 (sym (h.holder_no_orphan (place_after from i) (record { holder = place_after r.holder i; kind = r.kind; number = r.number }) at) ∙ (ap l.orphan same ∙ o.1))
    by_lenders None (Some other) e f =
        let also : loan_at l (place_after other j) ≡ Some (record { holder = place_after s.holder j; kind = s.kind; number = s.number }) =
        stands_home_at l s other j y f c in
        let o : (orphan : Orphan) × (l.orphan (place_after r.holder i) ≡ Some orphan) × (orphan.kind ≡ r.kind)
        × (orphan.number ≡ r.number) =
        stands_orphan_at l r i x e b in
        none-some o.0 (sym (h.holder_no_orphan (place_after other j) (record { holder = place_after s.holder j; kind = s.kind; number = s.number }) also) ∙ (ap l.orphan (sym same) ∙ o.1))
    by_lenders None None e f =
        let o : (orphan : Orphan) × (l.orphan (place_after r.holder i) ≡ Some orphan) × (orphan.kind ≡ r.kind)
        × (orphan.number ≡ r.number) =
        stands_orphan_at l r i x e b in
        let p : (orphan : Orphan) × (l.orphan (place_after s.holder j) ≡ Some orphan) × (orphan.kind ≡ s.kind)
        × (orphan.number ≡ s.number) =
        stands_orphan_at l s j y f c in
        ne (sym o.3 ∙ (ap (λ (z : Orphan). z.number) (same_Some o.0 p.0 (sym o.1 ∙ (ap l.orphan same ∙ p.1))) ∙ p.3))

pub numbers_share_no_home : (l : Ledger) (r s : LoanRun) (from other : Place) (i j : ℕ) → Stands (loans l) r
    → Stands (loans l) s → r.lender ≡ Some from → s.lender ≡ Some other → r.number ≢ s.number
    → i < r.count → j < s.count → place_after from i ≢ place_after other j
numbers_share_no_home l r s from other i j x y e f ne b c same =
    let at : loan_at l (place_after from i) ≡ Some (record { holder = place_after r.holder i; kind = r.kind; number = r.number }) =
    stands_home_at l r from i x e b in
    let also : loan_at l (place_after other j) ≡ Some (record { holder = place_after s.holder j; kind = s.kind; number = s.number }) =
    stands_home_at l s other j y f c in
    ne (ap (λ (z : PageLoan). z.number) (same_Some (record { holder = place_after r.holder i; kind = r.kind; number = r.number }) (record { holder = place_after s.holder j; kind = s.kind; number = s.number }) (sym at ∙ (ap (loan_at l) same ∙ also))))

-- ---- a page is reached from its home and from its holder place alone

pub reached_from : (procs : ℕ) (l : Ledger) (p : Place) (access : Access) (name : PageName)
    → reach procs l p access ≡ Some name
    → (name ≡ Homed p) ⊎ ((name ≡ Orphaned p) ⊎ ((q : Place) × (loan : PageLoan) × (loan_at l q ≡ Some loan) × (loan.holder ≡ p) × (name ≡ Homed q)))
reached_from procs l p access name e = elim (cases_Option (l.home p)) [
  | inr page ↦ inl (named (home_may page.0.right page.0.loan access) (Homed p) (sym (reach-home procs l p page.0 access page.1) ∙ e))
  | inl no_home ↦ elim (cases_Option (l.orphan p)) [
    | inr orphan ↦ inr (inl (named (holder_may orphan.0.kind access) (Orphaned p) (sym (reach-role procs l p access (OrphanPlace orphan.0) (role_at-orphan procs l p orphan.0 no_home orphan.1)) ∙ e)))
    | inl no_orphan ↦ elim (cases_Option (lender_of procs l p)) [
      | inr q ↦
          let held : (x : PageLoan) × (loan_at l q.0 ≡ Some x) × (x.holder ≡ p) = lender_of-loan procs l p q.0 q.1 in
          inr (inr (
            q.0,
            held.0,
            held.1,
            held.2,
            named (holder_may held.0.kind access) (Homed q.0)
                (sym (reach-role procs l p access (HolderPlace q.0 held.0) (role_at-lender procs l p q.0 held.0 no_home no_orphan q.1 held.1)) ∙ e),
          ))
      | inl none ↦ absurd (none-some name (sym (reach-role procs l p access FreePlace (role_at-free procs l p no_home no_orphan none)) ∙ e))
    ]
  ]
]
  where
    named : (b : Bool) (x : PageName) → (if b then Some x else None) ≡ Some name → name ≡ x
    named true x f = sym (same_Some x name f)
    named false x f = absurd (none-some name f)
