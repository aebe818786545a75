-- The calls that end a process, a server or a loan change no byte.
use Rattle.std.proofs.Common.{ℕ, List}
use Rattle.std.specs.Prelude.{◌==◌}
use Rattle.ledger_model.specs.Steps.{end_loan}
use Rattle.machine_model.specs.Calling.ServerCalls.{named_server, named_sid}
use Rattle.machine_model.specs.Ending.Closing.{closed, is_message_at, servers_closed}
use Rattle.machine_model.specs.Ending.Ends.{death}
use Rattle.machine_model.specs.Messaging.LoanSets.{end_loans}
use Rattle.machine_model.specs.Messaging.ReturnCalls.{named_number}
use Rattle.machine_model.specs.Runs.Matched.{Matched}
use Rattle.machine_model.specs.State.Machine.{Machine}
use Rattle.call_effects.specs.Rows.MessageRows.{return_memory_row}
use Rattle.call_effects.specs.Rows.ServerRows.{destroy_row}
use Rattle.call_effects.specs.Rows.ThreadRows.{terminate_row}
use Rattle.call_effects.proofs.ServedLemmas.{OfPlan}
use Rattle.confidentiality_laws.proofs.Keeping.CallLemmas.{PlanKeeps, RowKeeps}
use Rattle.confidentiality_laws.proofs.Keeping.DeathLemmas.{death_keeps}
use Rattle.confidentiality_laws.proofs.Keeping.LedgerStepLemmas.{end_loan_only, end_loans_only}
use Rattle.confidentiality_laws.proofs.Keeping.StandingPageLemmas.{goes_keep}

pub return_memory_keeps : RowKeeps return_memory_row
return_memory_keeps m w = λ none.
    goes_keep m.ledger (end_loan (named_number w) m.ledger) (end_loan_only (named_number w) m.ledger)

pub destroy_keeps : RowKeeps destroy_row
unfolding closed
destroy_keeps m w = λ none.
    let gone = is_message_at (λ n. n == (named_server m (named_sid w)).0) m in
    goes_keep m.ledger (end_loans gone m.ledger) (end_loans_only gone m.ledger)

pub terminate_keeps : (m : Machine) (w : List ℕ) → Matched m → OfPlan (PlanKeeps m) (terminate_row m w)
unfolding death servers_closed closed
terminate_keeps m w h = death_keeps m.cursor.pid m h.body.ledger.lawful
