-- New pages at free places of a living process, outside the Message window: the ledger that has them may stand in the place of the
-- machine's.
use Rattle.std.proofs.Common.{◌≡◌, ◌≢◌, ℕ, Bool, true, false, Option, Some, None, refl, sym, ap, ◌∙◌}
use Rattle.std.specs.Prelude.{if◌then◌else◌}
use Rattle.std.proofs.lemmas.Bool.{false≢true, and_parts}
use Rattle.xk_base.specs.declared.ids.Place.{Place}
use Rattle.xk_base.specs.declared.pages.Right.{Right}
use Rattle.xk_base.specs.declared.windows.Window.TheVariants.{Message}
use Rattle.xk_base.specs.Numbers.Windows.{in_window}
use Rattle.xk_base.specs.Tables.Circle.{is_pid}
use Rattle.ledger_model.specs.Conditions.{CanMake}
use Rattle.ledger_model.specs.Ledger.{Bytes, Orphan, Page, PageLoan, loan_at}
use Rattle.ledger_model.specs.Places.{in_run, is_place_in}
use Rattle.ledger_model.specs.Reach.{is_free}
use Rattle.ledger_model.specs.Steps.{make, new_page, zero_page}
use Rattle.ledger_model.proofs.Stepping.MakingLemmas.{make_lawful, make_loans}
use Rattle.ledger_model.proofs.ReachingLemmas.{is_free-all}
use Rattle.machine_model.specs.State.Machine.{Machine}
use Rattle.machine_model.specs.Runs.Matched.{Matched}
use Rattle.machine_laws.proofs.Calling.PageChangeLemmas.{IsLikeLedger, MayStand, stands_now}

in_its_window : (procs : ℕ) (p : Place) → is_place_in procs Message p ≡ true → in_window Message p.vpn.0 ≡ true
in_its_window procs p e = (and_parts (is_pid procs p.pid.0) (in_window Message p.vpn.0) e).1

-- a place outside the Message window is free where no page has its home there
pub free_outside : (m : Machine) (p : Place) → Matched m → m.ledger.home p ≡ None → in_window Message p.vpn.0 ≡ false
    → is_free m.processes m.ledger p ≡ true
free_outside m p h home out = is_free-all m.processes m.ledger p home (no_orphan (m.ledger.orphan p) refl) no_holder
  where
    no_orphan : (o : Option Orphan) → m.ledger.orphan p ≡ o → o ≡ None
    no_orphan None e = refl
    no_orphan (Some orphan) e =
        absurd (false≢true (sym out ∙ in_its_window m.processes p (h.body.ledger.lawful.orphan_lies p orphan e)))

    no_holder : (q : Place) (loan : PageLoan) → loan_at m.ledger q ≡ Some loan → loan.holder ≢ p
    no_holder q loan e same =
        absurd (false≢true (sym out ∙ (ap (λ (x : Place). in_window Message x.vpn.0) (sym same)
        ∙ in_its_window m.processes loan.holder (h.body.ledger.lawful.holder_lies q loan e))))

-- what holds of the new places and of those of the pages that there were, holds of the places of pages afterwards
pub made_stands : (m : Machine) (first : Place) (n : ℕ) (right : Right) (P : Place → Type 0)
    → ((p : Place) → in_run first n p ≡ true → P p) → ((p : Place) (page : Page) → m.ledger.home p ≡ Some page → P p)
    → (p : Place) (page : Page) → (make first n right m.ledger).home p ≡ Some page → P p
unfolding make
made_stands m first n right P new old p page e = go (in_run first n p) refl e
  where
    go : (b : Bool) → in_run first n p ≡ b → (if b then Some (new_page right (Bytes zero_page)) else m.ledger.home p) ≡ Some page → P p
    go true inside q = new p inside
    go false inside q = old p page q

pub like_made : (m : Machine) (first : Place) (n : ℕ) (right : Right) → Matched m → CanMake m.processes m.capacity m.ledger first n
    → ((p : Place) → in_run first n p ≡ true → MayStand m p) → IsLikeLedger m (make first n right m.ledger)
like_made m first n right h can may = record {
  lawful = make_lawful m.processes m.capacity first n right m.ledger h.body.ledger.lawful can;
  same = make_loans m.processes m.capacity first n right m.ledger can;
  stand = made_stands m first n right (MayStand m) may (stands_now m h);
}
