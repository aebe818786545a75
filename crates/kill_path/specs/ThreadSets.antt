-- Sets of threads, by a bit for each of all ids.
use Rattle.std.specs.Prelude.{ℕ, ◌-◌, Bool, false, ◌&&◌, ◌==◌, List, slice_index}
use Rattle.std.specs.Int.{bit_at}
use Rattle.xk_base.specs.Tables.Circle.{is_thread_id}
use Rattle.xk_base.specs.declared.ids.Pid.{Pid}
use Rattle.xk_base.specs.declared.ids.ThreadId.{ThreadId}
use Rattle.xk_base.specs.declared.limits.TheConstants.{PROCESS_LIMIT}

abbrev pub ThreadSet : Type 0
ThreadSet = ThreadId → Bool

abbrev pub nobody : ThreadSet
nobody id = false

-- the id of the process with the tid
abbrev pub thread_of : Pid → ℕ → ThreadId
thread_of pid tid = record { pid = pid; tid = record { 0 = tid } }

-- those of the set that are of the process
abbrev pub of_process : Pid → ThreadSet → ThreadSet
of_process pid set id = (id.pid.0 == pid.0) && set id

-- the threads whose bit is set in the word of their process
abbrev pub marked : List ℕ → ThreadSet
marked words id = is_thread_id PROCESS_LIMIT id && (bit_at (slice_index words (id.pid.0 - 2)) id.tid.0 == 1)
