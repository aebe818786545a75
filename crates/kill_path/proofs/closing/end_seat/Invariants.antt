use Rattle.std.proofs.Common.{◌≡◌, length}
use Rattle.ledger_model.specs.Loans.{loans}
use Rattle.machine_model.specs.Messaging.LoanSets.{end_loans}
use Rattle.msg_queue.specs.Seats.{changed_at, seat_of}
use Rattle.xk_parts.specs.Seats.{messages_at}
use Rattle.vm_memory.specs.Memory.{ledger}
use Rattle.xk_base.specs.declared.limits.TheConstants.{SERVER_LIMIT}
use Rattle.kill_path.specs.Ending.{AreEndable, emptied, is_number_in, with_senders}
use Rattle.kill_path.specs.Keeping.{Stays}
use Rattle.kill_path.specs.Noted.{noted}
use Rattle.kill_path.proofs.closing.end_seat.Given as goal

-- once the messages that are left have ended, all have
abbrev pub invariant-loop-ended : goal.invariant-loop-ended
invariant-loop-ended g l = record {
  stays : Stays g.W.SwapStore l.initial.mem l.mem;
  seats : length l.queues ≡ SERVER_LIMIT;
  messages : AreEndable (loans (ledger g.W.SwapStore.held l.mem)) (messages_at (seat_of l.queues l.seat));
  ledger : end_loans (is_number_in (messages_at (seat_of l.queues l.seat))) (ledger g.W.SwapStore.held l.mem)
      ≡ end_loans (is_number_in (messages_at (seat_of l.initial.queues l.seat))) (ledger g.W.SwapStore.held l.initial.mem);
  noted : with_senders (messages_at (seat_of l.queues l.seat)) (noted l.answered)
      ≡ with_senders (messages_at (seat_of l.initial.queues l.seat)) (noted l.initial.answered);
  queues : changed_at l.seat emptied l.queues ≡ changed_at l.seat emptied l.initial.queues;
}

abbrev pub decreases-loop-ended : goal.decreases-loop-ended
decreases-loop-ended g l = length (messages_at (seat_of l.queues l.seat))
