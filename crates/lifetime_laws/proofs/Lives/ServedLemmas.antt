-- A served call, as the cause of what becomes of pages.
use Rattle.std.proofs.Common.{◌≡◌, ℕ, true, false, List, Option, Some, None, refl, sym, ap, ◌∙◌, is_some}
use Rattle.std.proofs.lemmas.Bool.{false≢true}
use Rattle.xk_base.specs.declared.ids.Pid.{Pid}
use Rattle.xk_base.specs.declared.ids.Place.{Place}
use Rattle.xk_base.specs.declared.ids.ThreadId.{ThreadId}
use Rattle.syscall_codec.specs.CallWords.{call_number}
use Rattle.ledger_model.specs.Conditions.{is_lent}
use Rattle.ledger_model.specs.Ledger.{Ledger, Page, PageLoan}
use Rattle.machine_model.specs.Runs.Moments.{ByStep, Moment}
use Rattle.machine_model.specs.State.Changes.{Change}
use Rattle.machine_model.specs.State.Machine.{Machine}
use Rattle.machine_model.specs.Stepping.Acts.{is_call_served}
use Rattle.loan_laws.proofs.Fates.LikeLemmas.{IsLike}
use Rattle.loan_laws.proofs.Fates.ServedFateLemmas.{IsCaller, served_call}
use Rattle.lifetime_laws.specs.Causes.{IsCallOf}
use Rattle.lifetime_laws.specs.Lives.{PagesLive}

-- the moment of a step that leads to this state
abbrev pub stepped : Machine → Moment
stepped n = record { cause = ByStep; machine = n }

-- the pages live in the step, where the call is served with this change
abbrev pub HasServedLife : Machine → ThreadId → List ℕ → Change → Type 0
HasServedLife m who w change = (n : Machine) → IsLike n change.machine → is_call_served m who w ≡ true → PagesLive m (stepped n)

-- processes of one number are one
pub same_pid : (a b : Pid) → a.0 ≡ b.0 → a ≡ b
same_pid a b e = λ i. record { 0 = e i }

-- the call is one of each process that has the caller's pid
abbrev pub call_of : (m : Machine) (who : ThreadId) (w : List ℕ) (n : Machine) (pid : Pid) (number : ℕ) → IsCaller m who w → is_call_served m who w ≡ true
    → who.pid.0 ≡ pid.0 → call_number w ≡ number → IsCallOf pid number m (stepped n)
call_of m who w n pid number calls accepted own named =
    record { words = w; served = served_call m who w n pid calls accepted (same_pid who.pid pid own); named = named }

-- a page that isn't lent has no loan
no_loan : (o : Option PageLoan) → is_some o ≡ false → o ≡ None
no_loan None e = refl
no_loan (Some loan) e = absurd (false≢true (sym e))

pub unlent_page : (l : Ledger) (p : Place) (page : Page) → l.home p ≡ Some page → is_lent (l.home p) ≡ false → page.loan ≡ None
unlent_page l p page there e = no_loan page.loan (sym (ap is_lent there) ∙ e)
