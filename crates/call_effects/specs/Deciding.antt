-- The table of system calls once more, with the verdict of each: what is decided of a call, and the law that this is what the
-- machine makes of it.
use Rattle.std.specs.Prelude.{◌≡◌, ℕ, List, [], ◌∷◌}
use Rattle.xk_base.specs.declared.errors.XousError.TheVariants.{UnhandledSyscall}
use Rattle.syscall_codec.specs.CallNumbers.{map_memory, yield_turn, claim_interrupt, free_interrupt, increase_heap, decrease_heap}
use Rattle.syscall_codec.specs.CallNumbers.{update_memory_flags, create_server_with_address, receive_message, send_message, connect}
use Rattle.syscall_codec.specs.CallNumbers.{create_thread, unmap_memory, return_memory, terminate_process, try_send_message, try_connect}
use Rattle.syscall_codec.specs.CallNumbers.{return_scalar1, return_scalar2, try_receive_message, join_thread, destroy_server, forward_message}
use Rattle.syscall_codec.specs.CallWords.{call_number}
use Rattle.machine_model.specs.Calling.Calls.{any_refusals, call}
use Rattle.machine_model.specs.Calling.Questions.{questions, with_questions}
use Rattle.machine_model.specs.Calling.Tables.{row_of}
use Rattle.machine_model.specs.State.Machine.{Machine}
use Rattle.call_effects.specs.Rows.InterruptRows.{claim_row, free_row}
use Rattle.call_effects.specs.Rows.MemoryRows.{decrease_row, increase_row, map_row, unmap_row, update_row}
use Rattle.call_effects.specs.Rows.MessageRows.{forward_row, receive_row, return_memory_row, return_scalar1_row, return_scalar2_row}
use Rattle.call_effects.specs.Rows.MessageRows.{send_row, try_receive_row, try_send_row}
use Rattle.call_effects.specs.Rows.ServerRows.{connect_row, create_server_row, destroy_row, try_connect_row}
use Rattle.call_effects.specs.Rows.QuestionRows.{question_row}
use Rattle.call_effects.specs.Rows.ThreadRows.{create_row, join_row, terminate_row, yield_row}
use Rattle.call_effects.specs.Verdicts.{RefusedIf, Refuses, Row, meant}

-- one row for each number
abbrev pub rows : List (ℕ × Row)
rows =
    (map_memory, map_row)
    ∷ (yield_turn, yield_row)
    ∷ (claim_interrupt, claim_row)
    ∷ (free_interrupt, free_row)
    ∷ (increase_heap, increase_row)
    ∷ (decrease_heap, decrease_row)
    ∷ (update_memory_flags, update_row)
    ∷ (create_server_with_address, create_server_row)
    ∷ (receive_message, receive_row)
    ∷ (send_message, send_row)
    ∷ (connect, connect_row)
    ∷ (create_thread, create_row)
    ∷ (unmap_memory, unmap_row)
    ∷ (return_memory, return_memory_row)
    ∷ (terminate_process, terminate_row)
    ∷ (try_send_message, try_send_row)
    ∷ (try_connect, try_connect_row)
    ∷ (return_scalar1, return_scalar1_row)
    ∷ (return_scalar2, return_scalar2_row)
    ∷ (try_receive_message, try_receive_row)
    ∷ (join_thread, join_row)
    ∷ (destroy_server, destroy_row)
    ∷ with_questions question_row questions ((forward_message, forward_row) ∷ [])

-- the row of a number that is in none
abbrev pub unhandled_row : Row
unhandled_row m w = Refuses UnhandledSyscall

-- the row of a number
abbrev pub row_at : ℕ → List (ℕ × Row) → Row
row_at = row_of unhandled_row

-- the verdict on a call: what any call is refused for, and then its row
unfoldable pub decide : Row
decide m w = RefusedIf (any_refusals m w) (row_at (call_number w) rows m w)

-- ---- the law

-- what comes of each call is what its verdict means
abbrev pub CallsAreMeant : Type 0
CallsAreMeant = (m : Machine) (words : List ℕ) → call m words ≡ meant m (decide m words)
