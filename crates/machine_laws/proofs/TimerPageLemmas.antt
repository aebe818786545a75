-- Nothing of a lawful ledger stands outside all windows, as the timer's page does.
use Rattle.std.proofs.Common.{◌≡◌, ℕ, ◌/◌, true, false, Option, Some, None, refl, sym, ap, ◌∙◌}
use Rattle.std.specs.Prelude.{is_some}
use Rattle.std.proofs.lemmas.Bool.{and_parts, eqb-true, false≢true}
use Rattle.xk_base.specs.declared.ids.Pid.{Pid}
use Rattle.xk_base.specs.declared.ids.Place.{Place}
use Rattle.xk_base.specs.declared.pages.Access.{Access}
use Rattle.xk_base.specs.declared.windows.Window.TheVariants.{Message}
use Rattle.xk_base.specs.Tables.Circle.{is_pid}
use Rattle.xk_base.specs.Numbers.Windows.{in_window, page_of, window_at}
use Rattle.xk_base.specs.UserMemory.{in_timer_page}
use Rattle.ledger_model.specs.Lawful.{IsLawful}
use Rattle.ledger_model.specs.Ledger.{Ledger, Orphan, Page, PageLoan, loan_at}
use Rattle.ledger_model.specs.Places.{is_place_in, is_user_place}
use Rattle.ledger_model.specs.Reach.{FreePlace, lender_of, reach}
use Rattle.ledger_model.proofs.LedgerLemmas.{lender_of-loan, reach-role, role_at-free}
use Rattle.machine_model.specs.Runs.Matched.{Matched}
use Rattle.machine_model.specs.State.Machine.{Machine}
use Rattle.machine_model.specs.State.Views.{page_reached}

-- ---- outside the windows

module _ (procs : ℕ) (p : Place) where
  not_user : is_some (window_at p.vpn.0) ≡ false → is_user_place procs p ≡ true → ⊥
  not_user out e = false≢true (sym out ∙ (and_parts (is_pid procs p.pid.0) (is_some (window_at p.vpn.0)) e).1)

  not_holder : in_window Message p.vpn.0 ≡ false → is_place_in procs Message p ≡ true → ⊥
  not_holder out e = false≢true (sym out ∙ (and_parts (is_pid procs p.pid.0) (in_window Message p.vpn.0) e).1)

-- ---- nothing stands there

module _ (procs capacity : ℕ) (l : Ledger) (h : IsLawful procs capacity l) (p : Place) (out : is_some (window_at p.vpn.0) ≡ false)
    (out_of : in_window Message p.vpn.0 ≡ false) where
  no_home : (o : Option Page) → l.home p ≡ o → l.home p ≡ None
  no_home None e = e
  no_home (Some page) e = absurd (not_user procs p out (h.home_lies p page e))

  no_orphan : (o : Option Orphan) → l.orphan p ≡ o → l.orphan p ≡ None
  no_orphan None e = e
  no_orphan (Some orphan) e = absurd (not_holder procs p out_of (h.orphan_lies p orphan e))

  no_lender : (o : Option Place) → lender_of procs l p ≡ o → lender_of procs l p ≡ None
  no_lender None e = e
  no_lender (Some q) e =
      let held : (loan : PageLoan) × (loan_at l q ≡ Some loan) × (loan.holder ≡ p) = lender_of-loan procs l p q e in
      absurd (not_holder procs held.0.holder (ap (λ (x : Place). in_window Message x.vpn.0) held.2 ∙ out_of) (h.holder_lies q held.0 held.1))

  pub unreached : (access : Access) → reach procs l p access ≡ None
  unreached access =
      reach-role procs l p access FreePlace
      (role_at-free procs l p (no_home (l.home p) refl) (no_orphan (l.orphan p) refl) (no_lender (lender_of procs l p) refl))

-- No process reaches a page of the ledger at an address of the timer's page, whether it has claimed the timer's interrupt or not.
pub page_is_apart : (m : Machine) (pid : Pid) (access : Access) (address : ℕ) → Matched m → in_timer_page address ≡ true
    → page_reached m pid access address ≡ None
page_is_apart m pid access address h inside =
    let at : address / 4096 ≡ 0xF0001 = eqb-true (address / 4096) 0xF0001 inside in
    unreached m.processes m.capacity m.ledger h.body.ledger.lawful (page_of pid address)
    (ap (λ v. is_some (window_at v)) at) (ap (in_window Message) at) access
