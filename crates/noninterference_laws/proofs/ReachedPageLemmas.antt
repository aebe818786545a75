-- What a place is from which a process reaches a page; and that who may write a page sees it alone.
use Rattle.std.proofs.Common.{◌≡◌, ℕ, Bool, true, false, Some, None, refl, sym, ap, ◌∙◌, inl, inr}
use Rattle.std.specs.Prelude.{if◌then◌else◌}
use Rattle.std.proofs.lemmas.Bool.{false≢true}
use Rattle.std.proofs.lemmas.Option.{none-some, same_Some}
use Rattle.xk_base.specs.declared.ids.Place.{Place}
use Rattle.xk_base.specs.declared.pages.Access.{Access}
use Rattle.xk_base.specs.declared.pages.Access.TheVariants.{Load, Store}
use Rattle.xk_base.specs.declared.pages.LoanKind.{LoanKind}
use Rattle.xk_base.specs.declared.pages.LoanKind.TheVariants.{Exclusive, Shared}
use Rattle.xk_base.specs.declared.pages.Right.{Right}
use Rattle.ledger_model.specs.Ledger.{Homed, Ledger, Orphan, Orphaned, Page, PageLoan, PageName, loan_at, loan_of}
use Rattle.ledger_model.specs.Reach.{FreePlace, HolderPlace, HomePlace, OrphanPlace, holder_may, home_may, lender_may, lender_of, reach}
use Rattle.ledger_model.proofs.LedgerLemmas.{cases_Option, lender_of-loan, reach-role, role_at-free, role_at-home, role_at-lender, role_at-orphan}
use Rattle.noninterference_laws.specs.Integrity.{StoredByOneAlone}

-- the page is reached as that of a home, of a loan's holder, or of an orphan
pub data ReachedAs (l : Ledger) (p : Place) (access : Access) (name : PageName) : Type 0 where
  AtHome : (page : Page) → l.home p ≡ Some page → name ≡ Homed p → home_may page.right page.loan access ≡ true → ReachedAs l p access name
  AtHolder : (home : Place) (loan : PageLoan) → loan_at l home ≡ Some loan → loan.holder ≡ p → name ≡ Homed home
      → holder_may loan.kind access ≡ true → ReachedAs l p access name
  AtOrphan : (orphan : Orphan) → l.orphan p ≡ Some orphan → name ≡ Orphaned p → holder_may orphan.kind access ≡ true
      → ReachedAs l p access name

-- a test that chose a name holds, and the name is that
chosen : (b : Bool) (x name : PageName) → (if b then Some x else None) ≡ Some name → (name ≡ x) × (b ≡ true)
chosen true x name e = (sym (same_Some x name e), refl)
chosen false x name e = absurd (none-some name e)

pub reached_as : (procs : ℕ) (l : Ledger) (p : Place) (access : Access) (name : PageName) → reach procs l p access ≡ Some name
    → ReachedAs l p access name
reached_as procs l p access name e = elim (cases_Option (l.home p)) [
  | inr page ↦
      let at = chosen (home_may page.0.right page.0.loan access) (Homed p) name
      (sym (reach-role procs l p access (HomePlace page.0) (role_at-home procs l p page.0 page.1)) ∙ e) in
      AtHome page.0 page.1 at.0 at.1
  | inl no_home ↦ elim (cases_Option (l.orphan p)) [
    | inr orphan ↦
        let at = chosen (holder_may orphan.0.kind access) (Orphaned p) name
        (sym (reach-role procs l p access (OrphanPlace orphan.0) (role_at-orphan procs l p orphan.0 no_home orphan.1)) ∙ e) in
        AtOrphan orphan.0 orphan.1 at.0 at.1
    | inl no_orphan ↦ elim (cases_Option (lender_of procs l p)) [
      | inr q ↦
          let held : (loan : PageLoan) × (loan_at l q.0 ≡ Some loan) × (loan.holder ≡ p) = lender_of-loan procs l p q.0 q.1 in
          let at = chosen (holder_may held.0.kind access) (Homed q.0) name
          (sym (reach-role procs l p access (HolderPlace q.0 held.0) (role_at-lender procs l p q.0 held.0 no_home no_orphan q.1 held.1)) ∙ e) in
          AtHolder q.0 held.0 held.1 held.2 at.0 at.1
      | inl none ↦ absurd (none-some name (sym (reach-role procs l p access FreePlace (role_at-free procs l p no_home no_orphan none)) ∙ e))
    ]
  ]
]

-- ---- names of pages

is_homed : PageName → Bool
is_homed (Homed p) = true
is_homed (Orphaned p) = false

place_named : PageName → Place
place_named (Homed p) = p
place_named (Orphaned p) = p

pub homed_once : (p q : Place) → Homed p ≡ Homed q → p ≡ q
unfolding place_named
homed_once p q e = ap place_named e

pub not_both : (p q : Place) → Homed p ≡ Orphaned q → ⊥
unfolding is_homed
not_both p q e = false≢true (sym (ap is_homed e))

-- ---- stored by one alone

orphaned_once : (p q : Place) → Orphaned p ≡ Orphaned q → p ≡ q
unfolding place_named
orphaned_once p q e = ap place_named e

-- a page that is on loan is stored to at no home
not_stored_at_home : (right : Right) (kind : LoanKind) → lender_may kind right Store ≡ true → ⊥
not_stored_at_home right Shared e = false≢true e
not_stored_at_home right Exclusive e = false≢true e

-- where its holder may store, its home may not load
not_loaded_at_home : (right : Right) (kind : LoanKind) → holder_may kind Store ≡ true → lender_may kind right Load ≡ true → ⊥
not_loaded_at_home right Shared e f = false≢true e
not_loaded_at_home right Exclusive e f = false≢true f

module _ (l : Ledger) (p q : Place) (name : PageName) where
  alone : ReachedAs l p Store name → ReachedAs l q Load name → p ≡ q
  alone (AtHome page there is may) (AtHome other also same loads) = homed_once p q (sym is ∙ same)
  alone (AtHome page there is may) (AtHolder home loan lent held same loads) =
      let at : p ≡ home = homed_once p home (sym is ∙ same) in
      let its : page.loan ≡ Some loan = sym (ap loan_of there) ∙ (ap (loan_at l) at ∙ lent) in
      absurd (not_stored_at_home page.right loan.kind (ap (λ o. home_may page.right o Store) (sym its) ∙ may))
  alone (AtHome page there is may) (AtOrphan orphan also same loads) = absurd (not_both p q (sym is ∙ same))
  alone (AtHolder home loan lent held is may) (AtHome page there same loads) =
      let at : home ≡ q = homed_once home q (sym is ∙ same) in
      let its : page.loan ≡ Some loan = sym (ap loan_of there) ∙ (ap (loan_at l) (sym at) ∙ lent) in
      absurd (not_loaded_at_home page.right loan.kind may (ap (λ o. home_may page.right o Load) (sym its) ∙ loads))
  alone (AtHolder home loan lent held is may) (AtHolder other loan_too lent_too held_too same loads) =
      let at : home ≡ other = homed_once home other (sym is ∙ same) in
      let one : loan ≡ loan_too = same_Some loan loan_too (sym lent ∙ (ap (loan_at l) at ∙ lent_too)) in
      sym held ∙ (ap (λ (x : PageLoan). x.holder) one ∙ held_too)
  alone (AtHolder home loan lent held is may) (AtOrphan orphan also same loads) = absurd (not_both home q (sym is ∙ same))
  alone (AtOrphan orphan there is may) (AtHome page also same loads) = absurd (not_both q p (sym same ∙ is))
  alone (AtOrphan orphan there is may) (AtHolder home loan lent held same loads) = absurd (not_both home p (sym same ∙ is))
  alone (AtOrphan orphan there is may) (AtOrphan other also same loads) = orphaned_once p q (sym is ∙ same)

pub stored_alone : StoredByOneAlone
stored_alone procs l p q page stores loads =
    alone l p q page (reached_as procs l p Store page stores) (reached_as procs l q Load page loads)
