-- A message that a server of the caller's process holds: a loan of its number is that of the message, so that its holder is of the process.
use Rattle.std.proofs.Common.{◌≡◌, Bool, true, get_or, ap, ◌∙◌, subst}
use Rattle.xk_base.specs.declared.ids.Number.{Number}
use Rattle.xk_base.specs.declared.ids.ThreadId.{ThreadId}
use Rattle.xk_base.specs.declared.messages.Message.{Message}
use Rattle.ledger_model.specs.Loans.{LoanRun, loans}
use Rattle.machine_model.specs.Messaging.Messages.{is_lend_of}
use Rattle.machine_model.specs.Runs.LoanSpan.{IsOut}
use Rattle.machine_model.specs.Runs.Matched.{IsMessageLent, Matched}
use Rattle.machine_model.specs.State.Machine.{Machine}
use Rattle.machine_model.proofs.Matching.CountLemmas.{all_right}
use Rattle.machine_laws.proofs.Returning.GivenBackLemmas.{found_at}
use Rattle.machine_laws.proofs.Threading.ThreadStepLemmas.{turned_to}
use Rattle.call_effects.specs.Held.{IsHeld}
use Rattle.loan_laws.proofs.Lending.LendMessageLemmas.{IsRunOf, run_of_message}

-- the loan of its number is that of the message
pub held_run : (m : Machine) (number : Number) (who : ThreadId) (test : Message → Bool) (x : Message) → Matched m
    → (at : IsHeld (turned_to who m) test x) → is_lend_of number x ≡ true → (a : LoanRun) → IsOut number m a → IsRunOf at.server x a
held_run m number who test x h at lends a out =
    let place = found_at test at.server.held x at.found in
    subst (λ y. IsRunOf at.server y a) place.3
    (run_of_message m number at.server (get_or at.server.held place.0 place.1)
    (all_right (IsMessageLent (loans m.ledger) at.server) at.server.queued at.server.held (h.body.loans.lends at.serial.0 at.server at.there)
    place.0 place.1 place.2)
    (ap (is_lend_of number) place.3 ∙ lends) a out)
