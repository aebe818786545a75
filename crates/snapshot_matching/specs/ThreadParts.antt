-- What the invariant of the machine asks of threads, as tests of the rows.
use Rattle.std.specs.Prelude.{◌≡◌, ℕ, ◌%◌, ◌==◌, ◌&&◌, ◌||◌, not, nat_le, nat_lt, Bool, IsTrue, List, length, Option, Some}
use Rattle.std.specs.List.{list_any}
use Rattle.xk_base.specs.declared.ids.Pid.{Pid}
use Rattle.xk_base.specs.declared.ids.ThreadId.{ThreadId}
use Rattle.xk_base.specs.Tables.Circle.{is_thread_id}
use Rattle.machine_model.specs.State.Machine.{Process, Thread, Idle}
use Rattle.machine_model.specs.Runs.Matched.{is_alive, HasHandlerThread, HasThreadAbove}
use Rattle.snapshot_rows.specs.declared.state.ProcRow.{ProcRow}
use Rattle.snapshot_rows.specs.declared.state.ThreadRow.{ThreadRow}
use Rattle.snapshot_rows.specs.declared.state.ServerRow.{ServerRow}
use Rattle.snapshot_rows.specs.Machines.{thread_at_id, processes_of}
use Rattle.snapshot_rows.specs.declared.states.TheConstants.{READY, RECEIVING, JOINING, IDLE}

-- it isn't Joining, or waits for another thread of its process, above tid 1
abbrev pub joins_another : List ThreadRow → ThreadRow → Bool
joins_another rows t =
    not (t.state == JOINING)
    || (not (t.waits == t.tid) && (nat_le 2 t.waits && list_any (λ other. other.pid == t.pid && other.tid == t.waits) rows))

-- the server that a thread waits at: of its process, with an empty queue
abbrev pub is_awaited : ThreadRow → ServerRow → Bool
is_awaited t s = s.serial == t.waits && (s.pid == t.pid && length s.queued == 0)

-- it isn't Receiving, or waits at such a server
abbrev pub awaits_server : List ServerRow → ThreadRow → Bool
awaits_server servers t = not (t.state == RECEIVING) || list_any (is_awaited t) servers

-- a thread of an id that there may be, and of a living process
abbrev pub is_thread_living : ℕ → List ProcRow → ThreadRow → Bool
is_thread_living n procs t = is_thread_id n (thread_at_id t.pid t.tid) && (processes_of procs t.pid).alive

-- its pc is the address of an instruction, and only tid 1 of a living process is Idle
abbrev pub is_thread_right : List ProcRow → ThreadRow → Bool
is_thread_right procs t = t.pc % 4 == 0 && (nat_lt t.state IDLE || (t.tid == 1 && (processes_of procs t.pid).alive))

-- every pc is the address of an instruction, and only tid 1 of a living process is Idle: part 6 of threads, each for itself
pub record AreThreadsRight (process : ℕ → Process) (threads : ThreadId → Option Thread) : Type 0 where
  pub pcs : (id : ThreadId) (t : Thread) → threads id ≡ Some t → t.pc % 4 ≡ 0
  pub idle : (id : ThreadId) (t : Thread) → threads id ≡ Some t → t.state ≡ Idle → (id.tid.0 ≡ 1) × IsTrue (is_alive process id.pid)

-- the process has a tid 1 that is Ready or Idle, and a thread above
abbrev pub has_threads : List ThreadRow → ℕ → Bool
has_threads rows pid =
    list_any (λ t. (t.pid == pid && t.tid == 1) && (t.state == READY || not (nat_lt t.state IDLE))) rows
    && list_any (λ t. t.pid == pid && nat_le 2 t.tid) rows

-- .. where it is alive
abbrev pub is_served : List ProcRow → List ThreadRow → ℕ → Bool
is_served procs rows pid = not (processes_of procs pid).alive || has_threads rows pid

-- part 6 of living processes
pub record AreLivingServed (process : ℕ → Process) (threads : ThreadId → Option Thread) : Type 0 where
  pub handler : (pid : Pid) → IsTrue (is_alive process pid) → HasHandlerThread threads pid
  pub above : (pid : Pid) → IsTrue (is_alive process pid) → HasThreadAbove threads pid
