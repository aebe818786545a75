use Rattle.std.proofs.Common.{◌≡◌, ℕ}
use Rattle.std.specs.Prelude.{◌≢◌}
use Rattle.ledger_model.specs.Loans.{loans}
use Rattle.msg_queue.specs.Seats.{seat_of}
use Rattle.xk_parts.specs.Seats.{messages_at}
use Rattle.vm_memory.specs.Memory.{ledger, processes}
use Rattle.kill_path.specs.Keeping.{Stays}
use Rattle.kill_path.specs.Leaving.{LeavesAlike, standing}
use Rattle.xk_parts.specs.Sound.{AreOpen}
use Rattle.kill_path.proofs.Messages.LeaveFoundLemmas.{sent_count}
use Rattle.kill_path.proofs.leaving.leave_seat.Given as goal

-- what the death makes of what is left is what it made at first, and the other seats are as they were
abbrev pub invariant-loop-number : goal.invariant-loop-number
invariant-loop-number g l = record {
  stays : Stays g.W.SwapStore l.initial.mem l.mem;
  messages : AreOpen (loans (ledger g.W.SwapStore.held l.mem)) l.servers l.queues;
  alike : LeavesAlike (processes l.initial.mem) l.pid (standing (ledger g.W.SwapStore.held l.initial.mem) l.servers l.initial.queues)
      (standing (ledger g.W.SwapStore.held l.mem) l.servers l.queues);
  others : (other : ℕ) → other ≢ l.seat → seat_of l.queues other ≡ seat_of l.initial.queues other;
}

abbrev pub decreases-loop-number : goal.decreases-loop-number
decreases-loop-number g l = sent_count l.pid (messages_at (seat_of l.queues l.seat))
