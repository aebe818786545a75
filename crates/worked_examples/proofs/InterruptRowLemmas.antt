-- The row of pending interrupts, by evaluation.
use Rattle.std.proofs.Common.{◌≡◌, Some, refl}
use Rattle.xk_base.specs.Tables.Circle.{listed_ids}
use Rattle.xk_base.specs.Tables.Counting.{least_below, listed_below}
use Rattle.rv32_words.specs.Reading.{insn_at}
use Rattle.ledger_model.specs.Reach.{reach, role_at}
use Rattle.machine_model.specs.Calling.Calls.{call}
use Rattle.machine_model.specs.Calling.InterruptCalls.{claim_call}
use Rattle.machine_model.specs.Ending.Ends.{handler_ended}
use Rattle.machine_model.specs.Hart.Atomics.{execute_at, execute, atomic_at}
use Rattle.machine_model.specs.Hart.Instructions.{execute_base}
use Rattle.machine_model.specs.State.Changes.{settled, call_settled}
use Rattle.machine_model.specs.State.Order.{actor}
use Rattle.machine_model.specs.State.Views.{memory_of}
use Rattle.machine_model.specs.Stepping.Events.{raised}
use Rattle.machine_model.specs.Stepping.Interrupts.{delivered, lowest_pending}
use Rattle.machine_model.specs.Stepping.Step.{step, step_by}
use Rattle.machine_model.specs.Worked.Rows.{small_machine, id_of}
use Rattle.worked_examples.specs.Playing.{told_by, left_by, expected, code, listed_ledger, coded_machine, IsToldAs}
use Rattle.worked_examples.specs.Interrupts.{pending_row, handling, begun_thread}

pub pending_told : IsToldAs pending_row (coded_machine 1)
unfolding told_by expected coded_machine small_machine listed_ledger code step step_by actor memory_of reach role_at execute_at execute execute_base atomic_at insn_at call claim_call call_settled settled raised handler_ended delivered lowest_pending least_below listed_below listed_ids
pending_told = refl

pub handler_starts : handling.threads (id_of 2 1) ≡ Some begun_thread
unfolding left_by coded_machine small_machine listed_ledger code step step_by actor memory_of reach role_at execute_at execute execute_base atomic_at insn_at call claim_call call_settled settled raised delivered lowest_pending least_below listed_below listed_ids
handler_starts = refl

pub handler_is_next : handling.cursor ≡ id_of 2 1
unfolding left_by coded_machine small_machine listed_ledger code step step_by actor memory_of reach role_at execute_at execute execute_base atomic_at insn_at call claim_call call_settled settled raised delivered lowest_pending least_below listed_below listed_ids
handler_is_next = refl

-- the row
pub ruleset interrupt_rules = (pending_told, handler_starts, handler_is_next)
