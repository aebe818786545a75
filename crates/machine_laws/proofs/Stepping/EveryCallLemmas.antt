-- Each call of a Ready thread keeps the machine matched, once its step is counted.
use Rattle.std.proofs.Common.{◌≡◌, ℕ, true, List, [], ◌∷◌, refl}
use Rattle.syscall_codec.specs.CallNumbers.{forward_message}
use Rattle.syscall_codec.specs.CallWords.{call_number}
use Rattle.machine_model.specs.Calling.Calls.{call, call_table, unhandled_call}
use Rattle.machine_model.specs.Calling.Questions.{Question, asked, questions}
use Rattle.machine_model.specs.Messaging.ForwardCalls.{forward_call}
use Rattle.machine_model.specs.Runs.Matched.{Matched}
use Rattle.machine_model.specs.State.Changes.{Call}
use Rattle.machine_model.specs.State.Machine.{Machine}
use Rattle.machine_model.specs.State.Order.{ready_at}
use Rattle.machine_model.proofs.Calling.TableLemmas.{OfRows, of_questions, of_row, ◌also◌}
use Rattle.machine_laws.proofs.Calling.AnsweredCallLemmas.{Keeps}
use Rattle.machine_laws.proofs.Calling.CallRowLemmas.{KeepsNumber, Means, row_is_meant}
use Rattle.machine_laws.proofs.Calling.CallStepLemmas.{decrease_number_keeps, increase_number_keeps, map_number_keeps}
use Rattle.machine_laws.proofs.Calling.CallStepLemmas.{unmap_number_keeps, update_number_keeps}
use Rattle.machine_laws.proofs.Calling.ThreadCallLemmas.{unhandled_number_keeps, question_number_keeps, yield_number_keeps}
use Rattle.machine_laws.proofs.Calling.ThreadMakingLemmas.{create_number_keeps, join_number_keeps}
use Rattle.machine_laws.proofs.Dying.DeathStepLemmas.{terminate_number_keeps}
use Rattle.machine_laws.proofs.Forwarding.ForwardCallLemmas.{forward_number_keeps}
use Rattle.machine_laws.proofs.Interrupting.IrqClaimLemmas.{claim_number_keeps, free_number_keeps}
use Rattle.machine_laws.proofs.Receiving.ReceiveStepLemmas.{receive_number_keeps, try_receive_number_keeps}
use Rattle.machine_laws.proofs.Returning.ReturnMemoryLemmas.{return_number_keeps}
use Rattle.machine_laws.proofs.Returning.ReturnScalarLemmas.{return_scalar1_number_keeps, return_scalar2_number_keeps}
use Rattle.machine_laws.proofs.Sending.SendStepLemmas.{send_number_keeps, try_send_number_keeps}
use Rattle.machine_laws.proofs.Serving.ConnectCallLemmas.{connect_number_keeps, try_connect_number_keeps}
use Rattle.machine_laws.proofs.Serving.CreateServerLemmas.{create_server_number_keeps}
use Rattle.machine_laws.proofs.Serving.DestroyCallLemmas.{destroy_number_keeps}

-- calls of the number of this row keep the machine matched
abbrev RowKeeps : ℕ → Call → Type 0
RowKeeps n served = Means n served → KeepsNumber n

question_keeps_number : (n : ℕ) (question : Question) → RowKeeps n (asked question)
question_keeps_number n question means m h ready w = question_number_keeps m h ready w n question means

unhandled_keeps_number : (n : ℕ) → RowKeeps n unhandled_call
unhandled_keeps_number n means m h ready w = unhandled_number_keeps m h ready w n means

every_row_keeps : OfRows (λ n. true) RowKeeps call_table
every_row_keeps =
    (λ means. map_number_keeps)
    also (λ means. yield_number_keeps)
    also (λ means. claim_number_keeps)
    also (λ means. free_number_keeps)
    also (λ means. increase_number_keeps)
    also (λ means. decrease_number_keeps)
    also (λ means. update_number_keeps)
    also (λ means. create_server_number_keeps)
    also (λ means. receive_number_keeps)
    also (λ means. send_number_keeps)
    also (λ means. connect_number_keeps)
    also (λ means. create_number_keeps)
    also (λ means. unmap_number_keeps)
    also (λ means. return_number_keeps)
    also (λ means. terminate_number_keeps)
    also (λ means. try_send_number_keeps)
    also (λ means. try_connect_number_keeps)
    also (λ means. return_scalar1_number_keeps)
    also (λ means. return_scalar2_number_keeps)
    also (λ means. try_receive_number_keeps)
    also (λ means. join_number_keeps)
    also (λ means. destroy_number_keeps)
    also of_questions (λ n. true) RowKeeps asked question_keeps_number questions ((forward_message, forward_call) ∷ [])
    ((λ means. forward_number_keeps), tt)

pub every_call_keeps : (m : Machine) → Matched m → ready_at m m.cursor ≡ true → (w : List ℕ) → Keeps m (call m w)
every_call_keeps m h ready w =
    let n : ℕ = call_number w in
    of_row (λ n. true) RowKeeps n refl unhandled_call (unhandled_keeps_number n) call_table every_row_keeps (row_is_meant n) m h ready w refl
