-- The threads as a finite map from (pid, tid). Of n processes only ids with the pids 2 to n + 1 and the tids 1 to
-- `TID_LIMIT` ever have a thread.
use Rattle.std.specs.Prelude.{ℕ, ◌+◌, ◌-◌, ◌==◌, Bool, false, List, Option, Some, None, is_some, is_none, if◌then◌else◌}
use Rattle.std.specs.Option.{option_map}
use Rattle.xk_base.specs.declared.ids.Pid.{Pid}
use Rattle.xk_base.specs.declared.ids.Serial.{Serial}
use Rattle.xk_base.specs.declared.ids.ThreadId.{ThreadId}
use Rattle.xk_base.specs.declared.ids.Tid.{Tid}
use Rattle.xk_base.specs.declared.limits.TheConstants.{TID_LIMIT}
use Rattle.xk_base.specs.Tables.Circle.{id_by_tid, is_thread_id, thread_ids, place_of, next_id, listed_ids}
use Rattle.xk_base.specs.Tables.Counting.{count_below, least_below}
use Rattle.xk_base.specs.Tables.RowMap.{row_map}
use Rattle.thread_table.specs.declared.thread.Thread.{Thread}
use Rattle.thread_table.specs.States.{is_ready_state, is_receiving_state}

-- each thread by its id
abbrev pub ThreadMap : Type 0
ThreadMap = ThreadId → Option Thread

-- no thread
abbrev pub no_threads : ThreadMap
no_threads id = None

-- the threads of n processes that stand in a list in the ascending order of their ids
abbrev pub thread_map : ℕ → List (Option Thread) → ThreadMap
thread_map n threads id = if is_thread_id n id then row_map threads (place_of id) else None

-- there is such a thread, and it may do the next step
abbrev pub is_ready : Option Thread → Bool
is_ready None = false
is_ready (Some t) = is_ready_state t.state

-- the id with that tid of the process in a row, counted from 0
abbrev pub id_in_row : ℕ → ℕ → ThreadId
id_in_row row tid = record { pid = record { 0 = row + 2 }; tid = record { 0 = tid } }

-- the thread of that id may do the next step
abbrev pub is_ready_in : ThreadMap → ℕ → ℕ → Bool
is_ready_in m row tid = is_ready (m (id_in_row row tid))

-- there is such a thread, and it waits for a message at the server
abbrev pub is_receiving : Serial → Option Thread → Bool
is_receiving serial None = false
is_receiving serial (Some t) = is_receiving_state serial t.state

-- the threads without those of one process
abbrev pub without_process : Pid → ThreadMap → ThreadMap
without_process pid m id = if id.pid.0 == pid.0 then None else m id

-- the tids above that of the interrupt thread, counted from 0
abbrev pub tid_above : ℕ → Tid
tid_above k = record { 0 = k + 2 }

-- the id of the process with that tid
abbrev pub thread_above : Pid → ℕ → ThreadId
thread_above pid k = record { pid = pid; tid = tid_above k }

-- how many threads a process may have beside the interrupt thread
abbrev pub tids_above : ℕ
tids_above = TID_LIMIT - 1

-- the least tid above that of the interrupt thread that no thread of the process has
abbrev pub free_tid : Pid → ThreadMap → Option Tid
free_tid pid m = option_map tid_above (least_below tids_above (λ k. is_none (m (thread_above pid k))))

-- how many threads the process has beside the interrupt thread
abbrev pub live_threads : Pid → ThreadMap → ℕ
live_threads pid m = count_below tids_above (λ k. is_some (m (thread_above pid k)))

-- of the threads that wait for a message at the server the one with the least tid; where two processes have one with
-- that tid, that of the least pid
abbrev pub receiver : ℕ → Serial → ThreadMap → Option ThreadId
receiver n serial m = option_map (id_by_tid n) (least_below (thread_ids n) (λ k. is_receiving serial (m (id_by_tid n k))))

-- the first thread strictly after `c` in the circle of ids that may do a step, `c` itself last
abbrev pub next_ready : ℕ → ThreadMap → ThreadId → Option ThreadId
next_ready n m c = next_id n (λ d. is_ready (m d)) c

-- the ids of threads in ascending order, each once
abbrev pub live_ids : ℕ → ThreadMap → List ThreadId
live_ids n m = listed_ids n (λ d. is_some (m d))
