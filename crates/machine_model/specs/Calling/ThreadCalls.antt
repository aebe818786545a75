-- The calls on threads and on the caller's process. Each is its list of refusals in their order, where it has one, then its
-- change and its reply, and then the call from its words. The caller is the thread of the cursor.
use Rattle.std.specs.Prelude.{ℕ, ◌+◌, ◌%◌, Bool, not, ◌&&◌, ◌||◌, ◌==◌, nat_le, is_none, is_some, unwrap_or, List, [], ◌∷◌, Option, Some}
use Rattle.xk_base.specs.declared.errors.XousError.{XousError}
use Rattle.xk_base.specs.declared.errors.XousError.TheVariants.{BadAlignment, ThreadNotAvailable, InvalidThread}
use Rattle.xk_base.specs.declared.ids.Pid.{Pid}
use Rattle.xk_base.specs.declared.limits.TheConstants.{TID_LIMIT}
use Rattle.syscall_codec.specs.CallWords.{thread_entry, thread_sp, thread_arguments, join_tid}
use Rattle.xk_base.specs.Tables.Counting.{least_below}
use Rattle.syscall_codec.specs.ReplyWords.{plain_words, thread_words}
use Rattle.machine_model.specs.State.Changes.{Change, Served, Call, only, answering, unless_refused}
use Rattle.machine_model.specs.Ending.Ends.{death}
use Rattle.machine_model.specs.State.Machine.{Machine, Joining}
use Rattle.machine_model.specs.State.Order.{turn}
use Rattle.machine_model.specs.State.Threads.{answer_to, thread_id, put_thread, change_thread, with_state, new_thread}

-- ---- Yield: the caller is answered, and its turn ends

unfoldable pub yield_call : Call
yield_call m w = Served (answering (answer_to m.cursor plain_words) (turn m))

-- ---- CreateThread

-- the least tid above 1 of which the process has no thread
unfoldable pub free_tid : Machine → Pid → Option ℕ
free_tid m pid = least_below (TID_LIMIT + 1) (λ tid. nat_le 2 tid && is_none (m.threads (thread_id pid tid)))

abbrev pub create_refusals : Machine → ℕ → List (Bool × XousError)
create_refusals m entry =
    (not (entry % 4 == 0), BadAlignment)
    ∷ (is_none (free_tid m m.cursor.pid), ThreadNotAvailable)
    ∷ []

-- a new thread gets the least free tid, which there is
abbrev pub create_served : Machine → ℕ → ℕ → List ℕ → Change
create_served m entry sp arguments =
    let tid = unwrap_or (free_tid m m.cursor.pid) 0 in
    answering (answer_to m.cursor (thread_words tid))
    (put_thread (thread_id m.cursor.pid tid) (Some (new_thread entry sp arguments)) m)

unfoldable pub create_call : Call
create_call m w =
    unless_refused (create_refusals m (thread_entry w)) (Served (create_served m (thread_entry w) (thread_sp w) (thread_arguments w)))

-- ---- JoinThread

-- the process has a thread of that tid above 1
abbrev pub has_thread : Machine → Pid → ℕ → Bool
has_thread m pid tid = nat_le 2 tid && nat_le tid TID_LIMIT && is_some (m.threads (thread_id pid tid))

abbrev pub join_refusals : Machine → ℕ → List (Bool × XousError)
join_refusals m tid =
    (not (has_thread m m.cursor.pid tid) || tid == m.cursor.tid.0, InvalidThread)
    ∷ []

-- the caller waits; the answer comes with the end of that thread
abbrev pub join_served : Machine → ℕ → Change
join_served m tid = only (change_thread m.cursor (with_state (Joining (record { 0 = tid }))) m)

unfoldable pub join_call : Call
join_call m w = unless_refused (join_refusals m (join_tid w)) (Served (join_served m (join_tid w)))

-- ---- TerminateProcess: the caller's process dies

unfoldable pub terminate_call : Call
terminate_call m w = Served (death m.cursor.pid m)
