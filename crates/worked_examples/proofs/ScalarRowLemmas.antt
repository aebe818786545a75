-- Rows of scalars, by evaluation.
use Rattle.std.proofs.Common.{refl}
use Rattle.xk_base.specs.Tables.Circle.{listed_ids, next_id}
use Rattle.xk_base.specs.Tables.Counting.{least_below, listed_below, count_below}
use Rattle.rv32_words.specs.Reading.{insn_at}
use Rattle.ledger_model.specs.Reach.{reach, role_at}
use Rattle.machine_model.specs.Calling.Calls.{call}
use Rattle.machine_model.specs.Calling.ServerCalls.{create_server_call, connect_call}
use Rattle.machine_model.specs.Calling.ThreadCalls.{create_call, free_tid}
use Rattle.machine_model.specs.Hart.Atomics.{execute_at, execute, atomic_at}
use Rattle.machine_model.specs.Hart.Instructions.{execute_base}
use Rattle.machine_model.specs.Messaging.ReceiveCalls.{receive_call}
use Rattle.machine_model.specs.Messaging.Receivers.{receiver}
use Rattle.machine_model.specs.Messaging.ReturnCalls.{holder_of, return_scalar1_call, return_scalar2_call}
use Rattle.machine_model.specs.Messaging.SendCalls.{send_call, try_send_call}
use Rattle.machine_model.specs.State.Changes.{settled, call_settled}
use Rattle.machine_model.specs.State.Order.{actor, turn, next_ready}
use Rattle.machine_model.specs.State.Servers.{with_sid, live_servers}
use Rattle.machine_model.specs.State.Views.{memory_of}
use Rattle.machine_model.specs.Stepping.Step.{step, step_by}
use Rattle.machine_model.specs.Worked.Rows.{small_machine}
use Rattle.worked_examples.specs.Playing.{told_by, expected, code, listed_ledger, coded_machine, IsToldAs}
use Rattle.worked_examples.specs.Scalars.{two_values_row, two_receivers_row, full_server_row}

pub two_values : IsToldAs two_values_row (coded_machine 2)
unfolding told_by expected coded_machine small_machine listed_ledger code step step_by actor memory_of reach role_at execute_at execute execute_base atomic_at insn_at call call_settled settled least_below listed_below listed_ids count_below with_sid live_servers create_server_call connect_call send_call receiver receive_call holder_of return_scalar2_call
two_values = refl

pub two_receivers : IsToldAs two_receivers_row (coded_machine 2)
unfolding told_by expected coded_machine small_machine listed_ledger code step step_by actor memory_of reach role_at execute_at execute execute_base atomic_at insn_at call call_settled settled least_below listed_below listed_ids count_below with_sid live_servers create_server_call connect_call create_call free_tid send_call receiver receive_call
two_receivers = refl

pub server_full : IsToldAs full_server_row (coded_machine 2)
unfolding told_by expected coded_machine small_machine listed_ledger code step step_by actor memory_of reach role_at execute_at execute
    execute_base atomic_at insn_at call call_settled settled least_below listed_below listed_ids count_below with_sid live_servers
    create_server_call connect_call create_call free_tid send_call try_send_call receiver receive_call holder_of return_scalar1_call turn
    next_ready next_id
server_full = refl
