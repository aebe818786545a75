-- What the calls that remove and reduce pages answer and do. Each test is made of all places of the run before the next,
-- and on a refusal nothing changes.
use Rattle.std.specs.Prelude.{◌≡◌, ◌≢◌, ℕ, IsFalse, if◌then◌else◌, Some, None, Result, Ok, Err}
use Rattle.xk_base.specs.declared.errors.XousError.{XousError}
use Rattle.xk_base.specs.declared.errors.XousError.TheVariants.{BadAddress, ShareViolation, AccessDenied}
use Rattle.xk_base.specs.declared.ids.Pid.{Pid}
use Rattle.xk_base.specs.declared.ids.Place.{Place}
use Rattle.xk_base.specs.declared.pages.Right.{Right}
use Rattle.ledger_model.specs.Conditions.{is_lent}
use Rattle.ledger_model.specs.Ledger.{Ledger, PageLoan, loan_at}
use Rattle.ledger_model.specs.Places.{in_run}
use Rattle.ledger_model.specs.RunTests.{any_free, any_on_loan, any_lacks}
use Rattle.ledger_model.specs.Steps.{remove, reduce}

-- ---- answers

-- each place of the run has a page, and none is on loan
abbrev pub remove_answer : ℕ → Ledger → Place → ℕ → Result (Unit {0}) XousError
remove_answer procs ledger first n =
    if any_free procs ledger first n then Err BadAddress else (
    if any_on_loan procs ledger first n then Err ShareViolation else Ok tt)

-- no page of the run is on loan; places without a page are passed over
abbrev pub clear_answer : ℕ → Ledger → Place → ℕ → Result (Unit {0}) XousError
clear_answer procs ledger first n = if any_on_loan procs ledger first n then Err ShareViolation else Ok tt

-- each place of the run has a page, none is on loan, and none lacks what the right asks for
abbrev pub reduce_answer : ℕ → Ledger → Place → ℕ → Right → Result (Unit {0}) XousError
reduce_answer procs ledger first n right =
    if any_free procs ledger first n then Err BadAddress else (
    if any_on_loan procs ledger first n then Err ShareViolation else (
    if any_lacks right ledger first n then Err AccessDenied else Ok tt))

-- ---- what they do

-- the pages of the run go
abbrev pub after_remove : Result (Unit {0}) XousError → Place → ℕ → Ledger → Ledger
after_remove (Ok done) first n ledger = remove (in_run first n) ledger
after_remove (Err error) first n ledger = ledger

-- the pages of the run have that right
abbrev pub after_reduce : Result (Unit {0}) XousError → Place → ℕ → Right → Ledger → Ledger
after_reduce (Ok done) first n right ledger = reduce (in_run first n) right ledger
after_reduce (Err error) first n right ledger = ledger

-- no loan or orphan has a lender or holder of that process
pub record HasNoLoan (ledger : Ledger) (pid : Pid) : Type 0 where
  pub lender : (p : Place) → p.pid.0 ≡ pid.0 → IsFalse (is_lent (ledger.home p))
  pub holder : (p : Place) (loan : PageLoan) → loan_at ledger p ≡ Some loan → loan.holder.pid.0 ≢ pid.0
  pub orphan : (p : Place) → p.pid.0 ≡ pid.0 → ledger.orphan p ≡ None
