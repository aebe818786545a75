-- Worked rows, by evaluation.
use Rattle.std.proofs.Common.{◌≡◌, refl}
use Rattle.xk_base.specs.Tables.Counting.{least_below, listed_below, count_below}
use Rattle.xk_base.specs.Tables.Circle.{listed_ids, next_id}
use Rattle.machine_model.specs.Calling.Calls.{call}
use Rattle.machine_model.specs.State.Changes.{settled, call_settled}
use Rattle.machine_model.specs.Ending.Closing.{any_server, closed, destroyed, servers_closed, senders_queued_gone, senders_held_gone}
use Rattle.machine_model.specs.Ending.Ends.{death, forgotten, handler_ended}
use Rattle.machine_model.specs.Stepping.Events.{raised, killed}
use Rattle.machine_model.specs.Calling.InterruptCalls.{claim_call, free_call}
use Rattle.machine_model.specs.Stepping.Interrupts.{delivered, lowest_pending}
use Rattle.machine_model.specs.State.Order.{turn, next_ready}
use Rattle.machine_model.specs.Messaging.ReceiveCalls.{receive_call, try_receive_call}
use Rattle.machine_model.specs.Messaging.Receivers.{receiver}
use Rattle.machine_model.specs.Messaging.ReturnCalls.{holder_of, return_scalar1_call, return_scalar2_call}
use Rattle.machine_model.specs.Worked.Rows.{small_machine, told_all}
use Rattle.machine_model.specs.Messaging.SendCalls.{send_call, try_send_call}
use Rattle.machine_model.specs.Calling.ServerCalls.{create_server_call, connect_call, try_connect_call, destroy_call}
use Rattle.machine_model.specs.Worked.ServerRows.{pending_row, pending_told, scalar_row, scalar_told, waiting_row, waiting_told, stale_row, stale_told, senderless_row, senderless_told, kill_row, kill_told, full_row, full_told, interrupt_row, interrupt_told, death_row, death_told}
use Rattle.machine_model.specs.State.Servers.{with_sid, live_servers}
use Rattle.machine_model.specs.Calling.ThreadCalls.{create_call, free_tid}

pub pending_is_a_set : told_all pending_row (small_machine 1) ≡ pending_told
unfolding told_all small_machine call claim_call call_settled settled raised handler_ended delivered lowest_pending least_below listed_below listed_ids
pending_is_a_set = refl

pub scalars_answered : told_all scalar_row (small_machine 2) ≡ scalar_told
unfolding told_all small_machine call call_settled settled least_below listed_below listed_ids count_below with_sid live_servers create_server_call connect_call send_call receiver receive_call holder_of return_scalar1_call
scalars_answered = refl

pub waiting_got : told_all waiting_row (small_machine 2) ≡ waiting_told
unfolding told_all small_machine call call_settled settled least_below listed_below listed_ids count_below with_sid live_servers create_server_call connect_call try_connect_call send_call receiver receive_call try_receive_call turn next_ready next_id
waiting_got = refl

pub stale_connection : told_all stale_row (small_machine 3) ≡ stale_told
unfolding told_all small_machine call call_settled settled least_below listed_below listed_ids count_below with_sid live_servers create_server_call connect_call send_call receiver killed death servers_closed closed any_server senders_queued_gone senders_held_gone forgotten
stale_connection = refl

pub senderless_forgotten : told_all senderless_row (small_machine 2) ≡ senderless_told
unfolding told_all small_machine call call_settled settled least_below listed_below listed_ids count_below with_sid live_servers create_server_call connect_call send_call receiver receive_call try_receive_call holder_of return_scalar2_call destroy_call destroyed killed death servers_closed closed any_server senders_queued_gone senders_held_gone forgotten
senderless_forgotten = refl

pub server_killed : told_all kill_row (small_machine 3) ≡ kill_told
unfolding told_all small_machine call call_settled settled least_below listed_below listed_ids count_below with_sid live_servers create_server_call connect_call send_call receiver receive_call create_call free_tid killed death servers_closed closed any_server senders_queued_gone senders_held_gone forgotten
server_killed = refl

pub server_full : told_all full_row (small_machine 2) ≡ full_told
unfolding told_all small_machine call call_settled settled least_below listed_below listed_ids count_below with_sid live_servers create_server_call connect_call send_call try_send_call receiver receive_call turn next_ready next_id
server_full = refl

pub interrupts_claimed : told_all interrupt_row (small_machine 2) ≡ interrupt_told
unfolding told_all small_machine call claim_call free_call call_settled settled least_below listed_below listed_ids
interrupts_claimed = refl

pub deaths_answered : told_all death_row (small_machine 2) ≡ death_told
unfolding told_all small_machine call call_settled settled least_below listed_below listed_ids count_below with_sid live_servers create_server_call connect_call send_call receiver receive_call create_call free_tid holder_of return_scalar1_call destroy_call destroyed killed death servers_closed closed any_server senders_queued_gone senders_held_gone forgotten
deaths_answered = refl
