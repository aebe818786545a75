-- Interrupts: who claimed which, how one is raised and how a pending one is delivered.
use Rattle.std.specs.Prelude.{ℕ, Bool, true, false, ◌&&◌, ◌==◌, nat_eq, if◌then◌else◌, Option, Some, None}
use Rattle.std.specs.Option.{option_map_or}
use Rattle.xk_base.specs.declared.ids.Pid.{Pid}
use Rattle.xk_base.specs.declared.ids.ThreadId.{ThreadId}
use Rattle.xk_base.specs.declared.limits.TheConstants.{INTERRUPT_LIMIT}
use Rattle.xk_base.specs.Tables.Counting.{least_below, put_at}
use Rattle.machine_model.specs.State.Changes.{Change, Delivery, only}
use Rattle.machine_model.specs.State.Machine.{Machine, Claim, ThreadState, Idle}
use Rattle.machine_model.specs.State.Threads.{thread_id, put_thread, no_answers, handler_thread}

abbrev pub is_claim_of : Pid → Option Claim → Bool
is_claim_of pid None = false
is_claim_of pid (Some claim) = claim.pid.0 == pid.0

abbrev pub is_idle : ThreadState → Bool
is_idle Idle = true
is_idle _ = false

-- the timer's compare value, which becomes none where the claim on its interrupt ends
abbrev pub disarmed_if : Bool → Option ℕ → Option ℕ
disarmed_if ended None = None
disarmed_if ended (Some compare) = if ended then None else Some compare

-- the process's interrupt thread is there and runs no handler
abbrev pub is_free_for_interrupt : Machine → Pid → Bool
is_free_for_interrupt m pid = option_map_or (λ t. is_idle t.state) (m.threads (thread_id pid 1)) false

-- the lowest pending number that the process claimed
unfoldable pub lowest_pending : Machine → Pid → Option ℕ
lowest_pending m pid = least_below INTERRUPT_LIMIT (λ k. m.pending k && is_claim_of pid (m.claims k))

-- number k, which was claimed so, is taken out of the pending set and its handler starts
abbrev pub handler_started : Machine → Pid → ℕ → Option Claim → Change
handler_started m pid k None = only m
handler_started m pid k (Some claim) = record {
  machine = put_thread (thread_id pid 1) (Some (handler_thread k claim)) (record m { pending = put_at nat_eq m.pending k false });
  answers = no_answers;
  delivery = Some (record { pid = pid; number = k });
  gone = None;
}

-- the handler of that number starts, where there is one to deliver
abbrev pub delivered_lowest : Machine → Pid → Option ℕ → Change
delivered_lowest m pid None = only m
delivered_lowest m pid (Some k) = handler_started m pid k (m.claims k)

-- delivery is tried: where the process's tid 1 is Idle and it has a pending number, the handler of the lowest starts
unfoldable pub delivered : Pid → Machine → Change
delivered pid m = delivered_lowest m pid (if is_free_for_interrupt m pid then lowest_pending m pid else None)

-- where a handler starts, the cursor becomes its thread
abbrev pub cursor_after : Option Delivery → ThreadId → ThreadId
cursor_after None cursor = cursor
cursor_after (Some delivery) cursor = thread_id delivery.pid 1

abbrev pub with_handler_next : Change → Change
with_handler_next change = record change {
  machine = record change.machine { cursor = cursor_after change.delivery change.machine.cursor };
}

-- number k, which was claimed so, is raised: it is pending, and delivery is tried for the process that claimed it
abbrev pub pended : ℕ → Claim → Machine → Change
pended k claim m = with_handler_next (delivered claim.pid (record m { pending = put_at nat_eq m.pending k true }))
