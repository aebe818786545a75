-- What may be sent from a ledger, and where its pages arrive.
use Rattle.std.specs.Prelude.{ℕ, IsTrue, if◌then◌else◌, Result, Ok, Err}
use Rattle.xk_base.specs.declared.errors.XousError.{XousError}
use Rattle.xk_base.specs.declared.errors.XousError.TheVariants.{BadAddress, ShareViolation}
use Rattle.xk_base.specs.declared.ids.Place.{Place}
use Rattle.xk_base.specs.declared.messages.MemKind.{MemKind}
use Rattle.xk_base.specs.declared.windows.Window.TheVariants.{Message}
use Rattle.ledger_model.specs.Ledger.{Ledger}
use Rattle.ledger_model.specs.Places.{in_run, is_place_in}
use Rattle.ledger_model.specs.Reach.{is_free}
use Rattle.ledger_model.specs.RunTests.{any_free, any_not_sent}
use Rattle.loan_flags.specs.Sending.{is_mutable}

-- each place of the run has a page, and none is on loan, is the console, or is to be lent mutably and has no w
abbrev pub send_answer : ℕ → Ledger → Place → ℕ → MemKind → Result (Unit {0}) XousError
send_answer procs ledger from n kind =
    if any_free procs ledger from n then Err BadAddress else (
    if any_not_sent procs ledger from n (is_mutable kind) then Err ShareViolation else Ok tt)

-- n free places of the Message window
pub record IsFreeArrival (procs : ℕ) (ledger : Ledger) (to : Place) (n : ℕ) : Type 0 where
  pub free : (p : Place) → IsTrue (in_run to n p) → IsTrue (is_free procs ledger p)
  pub lies : (p : Place) → IsTrue (in_run to n p) → IsTrue (is_place_in procs Message p)
