-- How processes, threads and interrupt handlers end.
use Rattle.std.specs.Prelude.{ℕ, ◌+◌, Bool, true, false, not, ◌&&◌, ◌==◌, nat_eq, nat_le, is_some, [], if◌then◌else◌, Option, Some, None}
use Rattle.xk_base.specs.declared.ids.Pid.{Pid}
use Rattle.xk_base.specs.declared.ids.ThreadId.{ThreadId}
use Rattle.xk_base.specs.declared.ids.Tid.{Tid}
use Rattle.xk_base.specs.declared.limits.TheConstants.{TID_LIMIT, TIMER_INTERRUPT}
use Rattle.xk_base.specs.Tables.Counting.{least_below, put_at}
use Rattle.syscall_codec.specs.ReplyWords.{scalar1_words}
use Rattle.ledger_model.specs.Steps.{forget}
use Rattle.machine_model.specs.State.Changes.{Change, only}
use Rattle.machine_model.specs.Ending.Closing.{servers_closed, senders_queued_gone, senders_held_gone}
use Rattle.machine_model.specs.Stepping.Interrupts.{is_claim_of, delivered, disarmed_if}
use Rattle.machine_model.specs.State.Machine.{Machine, Process, Thread, ThreadState, Joining, Idle}
use Rattle.machine_model.specs.State.Threads.{Answers, both_answers, thread_id, put_thread, change_thread, with_state}

-- ---- processes

-- what a dead process leaves: no heap and no connection
abbrev pub dead_process : Process
dead_process = record { alive = false; heap = 0; connections = [] }

-- the pages, threads, connections, claims and pending interrupts of the process go, the timer is disarmed where it had claimed
-- its interrupt, and the process is dead
unfoldable pub forgotten : Pid → Machine → Machine
forgotten pid m = record m {
  ledger = forget pid m.ledger;
  threads = λ id. if id.pid.0 == pid.0 then None else m.threads id;
  process = put_at nat_eq m.process pid.0 dead_process;
  claims = λ k. if is_claim_of pid (m.claims k) then None else m.claims k;
  pending = λ k. m.pending k && not (is_claim_of pid (m.claims k));
  compare = disarmed_if (is_claim_of pid (m.claims TIMER_INTERRUPT)) m.compare;
}

-- The process dies, in this order: its servers close, and their senders are answered, those of the process itself too; the
-- messages that its threads have queued at other servers are taken out; those that others hold become senderless; and the
-- process is forgotten.
unfoldable pub death : Pid → Machine → Change
death pid m =
    let left = servers_closed pid m in
    record left { machine = forgotten pid (senders_held_gone pid (senders_queued_gone pid left.machine)); gone = Some pid }

-- ---- threads

-- a thread of this state waits for the end of that thread of its process
abbrev pub is_joining : Tid → ThreadState → Bool
is_joining tid (Joining other) = other.0 == tid.0
is_joining tid _ = false

-- a thread of the same process waits for the end of `who`
abbrev pub waits_for_end : ThreadId → ThreadId → Option Thread → Bool
waits_for_end who id None = false
waits_for_end who id (Some thread) = (id.pid.0 == who.pid.0) && is_joining who.tid thread.state

-- each thread that joined `who` is answered the a0 of its end
abbrev pub joiners_answered : Machine → ThreadId → ℕ → Answers
joiners_answered m who a0 id = if waits_for_end who id (m.threads id) then Some (scalar1_words a0) else None

-- the process has a thread above tid 1
unfoldable pub has_threads : Machine → Pid → Bool
has_threads m pid = is_some (least_below (TID_LIMIT + 1) (λ tid. nat_le 2 tid && is_some (m.threads (thread_id pid tid))))

-- the process dies with its last thread above tid 1
abbrev pub end_with_last_thread : Bool → Pid → Machine → Change
end_with_last_thread true pid m = only m
end_with_last_thread false pid m = death pid m

-- the thread `who`, whose a0 is given, ends; who joined it is answered in the same step
unfoldable pub thread_ended : ThreadId → ℕ → Machine → Change
thread_ended who a0 m =
    let without = put_thread who None m in
    let left = end_with_last_thread (has_threads without who.pid) who.pid without in
    record left { answers = both_answers (joiners_answered m who a0) left.answers }

-- ---- handlers

-- the interrupt handler of the process ends: its thread is Idle, with the pc and the registers as they are, and the next
-- delivery is tried
unfoldable pub handler_ended : Pid → Machine → Change
handler_ended pid m = delivered pid (change_thread (thread_id pid 1) (with_state Idle) m)
