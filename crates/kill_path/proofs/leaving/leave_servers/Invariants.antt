use Rattle.std.proofs.Common.{ℕ, ◌<◌}
use Rattle.ledger_model.specs.Loans.{loans}
use Rattle.msg_queue.specs.Seats.{seat_of}
use Rattle.vm_memory.specs.Memory.{ledger, processes}
use Rattle.kill_path.specs.Keeping.{Stays}
use Rattle.kill_path.specs.Leaving.{AreOfOthers, LeavesAlike, standing}
use Rattle.xk_parts.specs.Sound.{AreOpen}
use Rattle.kill_path.proofs.leaving.leave_servers.Given as goal

-- what the death makes of what is left is what it made at first, and at the seats so far no message of the process is left
abbrev pub invariant-loop-seat : goal.invariant-loop-seat
invariant-loop-seat g l = record {
  stays : Stays g.W.SwapStore l.initial.mem l.mem;
  messages : AreOpen (loans (ledger g.W.SwapStore.held l.mem)) l.servers l.queues;
  alike : LeavesAlike (processes l.initial.mem) l.pid (standing (ledger g.W.SwapStore.held l.initial.mem) l.servers l.initial.queues)
      (standing (ledger g.W.SwapStore.held l.mem) l.servers l.queues);
  left : (k : ℕ) → k < l.seat → AreOfOthers l.pid (seat_of l.queues k);
}
