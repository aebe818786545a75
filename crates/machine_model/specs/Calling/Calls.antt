-- The table of system calls: what each number means. A call is the eight words in a0 to a7 of the cursor's thread.
use Rattle.std.specs.Prelude.{ℕ, Bool, not, ◌&&◌, ◌==◌, List, [], ◌∷◌}
use Rattle.xk_base.specs.declared.errors.XousError.{XousError}
use Rattle.xk_base.specs.declared.errors.XousError.TheVariants.{UnhandledSyscall, InvalidSyscall}
use Rattle.syscall_codec.specs.CallNumbers.{map_memory, yield_turn, claim_interrupt, free_interrupt, increase_heap, decrease_heap}
use Rattle.syscall_codec.specs.CallNumbers.{update_memory_flags, create_server_with_address, receive_message, send_message, connect}
use Rattle.syscall_codec.specs.CallNumbers.{create_thread, unmap_memory, return_memory, terminate_process, try_send_message, try_connect}
use Rattle.syscall_codec.specs.CallNumbers.{return_scalar1, return_scalar2, try_receive_message, join_thread, destroy_server, forward_message}
use Rattle.syscall_codec.specs.CallNumbers.{is_call_number}
use Rattle.syscall_codec.specs.CallWords.{call_number, is_refused_to_handler}
use Rattle.machine_model.specs.State.Changes.{Refused, Call, unless_refused}
use Rattle.machine_model.specs.Calling.InterruptCalls.{claim_call, free_call}
use Rattle.machine_model.specs.State.Machine.{Machine}
use Rattle.machine_model.specs.Calling.MemoryCalls.{map_call, unmap_call, update_call, increase_call, decrease_call}
use Rattle.machine_model.specs.Messaging.ForwardCalls.{forward_call}
use Rattle.machine_model.specs.Messaging.ReceiveCalls.{receive_call, try_receive_call}
use Rattle.machine_model.specs.Messaging.ReturnCalls.{return_memory_call, return_scalar1_call, return_scalar2_call}
use Rattle.machine_model.specs.Messaging.SendCalls.{send_call, try_send_call}
use Rattle.machine_model.specs.Calling.ServerCalls.{create_server_call, connect_call, try_connect_call, destroy_call}
use Rattle.machine_model.specs.Calling.ThreadCalls.{yield_call, create_call, join_call, terminate_call}
use Rattle.machine_model.specs.Calling.Questions.{asked, questions, with_questions}
use Rattle.machine_model.specs.Calling.Tables.{row_of}

-- one row for each number
abbrev pub call_table : List (ℕ × Call)
call_table =
    (map_memory, map_call)
    ∷ (yield_turn, yield_call)
    ∷ (claim_interrupt, claim_call)
    ∷ (free_interrupt, free_call)
    ∷ (increase_heap, increase_call)
    ∷ (decrease_heap, decrease_call)
    ∷ (update_memory_flags, update_call)
    ∷ (create_server_with_address, create_server_call)
    ∷ (receive_message, receive_call)
    ∷ (send_message, send_call)
    ∷ (connect, connect_call)
    ∷ (create_thread, create_call)
    ∷ (unmap_memory, unmap_call)
    ∷ (return_memory, return_memory_call)
    ∷ (terminate_process, terminate_call)
    ∷ (try_send_message, try_send_call)
    ∷ (try_connect, try_connect_call)
    ∷ (return_scalar1, return_scalar1_call)
    ∷ (return_scalar2, return_scalar2_call)
    ∷ (try_receive_message, try_receive_call)
    ∷ (join_thread, join_call)
    ∷ (destroy_server, destroy_call)
    ∷ with_questions asked questions ((forward_message, forward_call) ∷ [])

-- the call of a number that is in no row
abbrev pub unhandled_call : Call
unhandled_call m w = Refused UnhandledSyscall

-- the call of a number in a table
abbrev pub call_at : ℕ → List (ℕ × Call) → Call
call_at = row_of unhandled_call

-- what any call is refused for, before its own list: its number is unknown; the interrupt thread makes a call that can wait
abbrev pub any_refusals : Machine → List ℕ → List (Bool × XousError)
any_refusals m w =
    (not (is_call_number (call_number w)), UnhandledSyscall)
    ∷ (m.cursor.tid.0 == 1 && is_refused_to_handler w, InvalidSyscall)
    ∷ []

-- what comes of a call
unfoldable pub call : Call
call m w = unless_refused (any_refusals m w) (call_at (call_number w) call_table m w)
