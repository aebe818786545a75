-- The ids of threads of n processes: the pids are 2 to n + 1, and each process has the tids 1 to `TID_LIMIT`.
-- Their ascending order is (2, 1), (2, 2), .., (2, TID_LIMIT), (3, 1) and so on. Bent into a circle, the first
-- follows the last.
use Rattle.std.specs.Prelude.{ℕ, ◌+◌, ◌-◌, ◌*◌, ◌/◌, ◌%◌, ◌<◌, ◌≤◌, ◌==◌, min, Bool, false, ◌&&◌, nat_le, nat_lt, Option, List, map}
use Rattle.std.specs.Option.{option_map, option_map_or}
use Rattle.xk_base.specs.declared.ids.Pid.{Pid}
use Rattle.xk_base.specs.declared.ids.ThreadId.{ThreadId}
use Rattle.xk_base.specs.declared.limits.TheConstants.{TID_LIMIT}
use Rattle.xk_base.specs.Tables.Counting.{least_below, listed_below}

-- the pid is that of one of n processes
abbrev pub is_pid : ℕ → ℕ → Bool
is_pid n pid = nat_le 2 pid && nat_lt pid (n + 2)

-- .. as a fact
abbrev pub IsPid : ℕ → ℕ → Type 0
IsPid n pid = (2 ≤ pid) × (pid < n + 2)

-- the tid is one that a thread may have
abbrev pub is_tid : ℕ → Bool
is_tid tid = nat_le 1 tid && nat_le tid TID_LIMIT

-- .. as a fact
abbrev pub IsTid : ℕ → Type 0
IsTid tid = (1 ≤ tid) × (tid ≤ TID_LIMIT)

-- the id is one of a thread of n processes
abbrev pub is_thread_id : ℕ → ThreadId → Bool
is_thread_id n id = is_pid n id.pid.0 && is_tid id.tid.0

-- two ids are the same
abbrev pub same_thread : ThreadId → ThreadId → Bool
same_thread a b = (a.pid.0 == b.pid.0) && (a.tid.0 == b.tid.0)

-- there is a thread, and it is one of the process
abbrev pub is_thread_of : Pid → Option ThreadId → Bool
is_thread_of pid thread = option_map_or (λ who. who.pid.0 == pid.0) thread false

-- how many ids of threads n processes have
abbrev pub thread_ids : ℕ → ℕ
thread_ids n = n * TID_LIMIT

-- the id at place k of the ascending order, counted from 0
abbrev pub id_at : ℕ → ThreadId
id_at k = record { pid = record { 0 = k / TID_LIMIT + 2 }; tid = record { 0 = k % TID_LIMIT + 1 } }

-- how many ids stand at or before `c` in the ascending order
abbrev pub ids_until : ThreadId → ℕ
ids_until c = (c.pid.0 - 2) * TID_LIMIT + min c.tid.0 TID_LIMIT

-- the place of an id in the ascending order: the places of the ids are 0, 1, 2 and so on
abbrev pub place_of : ThreadId → ℕ
place_of id = (id.pid.0 - 2) * TID_LIMIT + (id.tid.0 - 1)

-- the id that is k + 1 behind `c` in the circle: 0 gives the one that follows `c`
abbrev pub id_behind : ℕ → ThreadId → ℕ → ThreadId
id_behind n c k = id_at ((ids_until c + k) % thread_ids n)

-- the first id strictly after `c` in the circle that passes the test, `c` itself last; none where none passes
unfoldable pub next_id : ℕ → (ThreadId → Bool) → ThreadId → Option ThreadId
next_id n test c = option_map (id_behind n c) (least_below (thread_ids n) (λ k. test (id_behind n c k)))

-- how many ids stand between `c` and `d` in the circle, going on from `c`; c itself is the farthest
abbrev pub steps_to : ℕ → ThreadId → ThreadId → ℕ
steps_to n c d = (place_of d + thread_ids n - ids_until c) % thread_ids n

-- the ids that pass the test, in ascending order, each once
unfoldable pub listed_ids : ℕ → (ThreadId → Bool) → List ThreadId
listed_ids n test = map id_at (listed_below (thread_ids n) (λ k. test (id_at k)))

-- the ids of n processes once more, ordered by tid first: (2, 1), (3, 1), .., (n + 1, 1), (2, 2) and so on
abbrev pub id_by_tid : ℕ → ℕ → ThreadId
id_by_tid n k = record { pid = record { 0 = k % n + 2 }; tid = record { 0 = k / n + 1 } }
