-- What the invariant of the machine asks of processes, their heaps and claims, as tests of the rows.
use Rattle.std.specs.Prelude.{◌≡◌, ℕ, ◌+◌, ◌/◌, ◌%◌, ◌≤◌, ◌==◌, ◌&&◌, ◌||◌, not, nat_le, nat_lt, Bool, true, IsFalse, List, [], ◌∷◌, length}
use Rattle.std.specs.List.{list_any, list_all}
use Rattle.xk_base.specs.declared.ids.Pid.{Pid}
use Rattle.xk_base.specs.declared.limits.TheConstants.{CONNECTION_LIMIT, PAGE_SIZE, PROCESS_LIMIT}
use Rattle.machine_model.specs.State.Machine.{Process}
use Rattle.machine_model.specs.Calling.MemoryCalls.{heap_limit}
use Rattle.snapshot_rows.specs.declared.state.ProcRow.{ProcRow}
use Rattle.snapshot_rows.specs.declared.state.ClaimRow.{ClaimRow}
use Rattle.snapshot_rows.specs.declared.state.PageRow.{PageRow}
use Rattle.snapshot_rows.specs.Machines.{processes_of}

-- ---- processes

-- it has at most 32 connections, and neither a connection nor a heap where it is dead
abbrev pub is_within_limits : ProcRow → Bool
is_within_limits p = nat_le (length p.serials) 32 && (p.alive == 1 || (p.heap == 0 && length p.serials == 0))

-- no serial stands twice
abbrev pub are_apart : List ℕ → Bool
are_apart [] = true
are_apart (serial ∷ serials) = not (list_any (λ other. other == serial) serials) && are_apart serials

-- at most 64 processes, within their limits, and of each no two connections lead to one server
abbrev pub are_processes_told : ℕ → List ProcRow → Bool
are_processes_told n procs = nat_le n PROCESS_LIMIT && (list_all is_within_limits procs && list_all (λ p. are_apart p.serials) procs)

-- part 8 of processes, each for itself
pub record AreProcessesLimited (process : ℕ → Process) : Type 0 where
  pub connections : (pid : Pid) → length (process pid.0).connections ≤ CONNECTION_LIMIT
  pub no_connection : (pid : Pid) → IsFalse (process pid.0).alive → (process pid.0).connections ≡ []
  pub no_heap : (pid : Pid) → IsFalse (process pid.0).alive → (process pid.0).heap ≡ 0

-- ---- heaps

-- its heap is of whole pages, up to 16 MiB
abbrev pub is_heap_whole : ProcRow → Bool
is_heap_whole p = p.heap % 4096 == 0 && nat_le p.heap 16777216

-- heaps are whole pages up to 16 MiB: part 7 without the pages
pub record AreHeapsWhole (process : ℕ → Process) : Type 0 where
  pub whole : (pid : Pid) → (process pid.0).heap % PAGE_SIZE ≡ 0
  pub within : (pid : Pid) → (process pid.0).heap ≤ heap_limit

-- a page of the Heap window
abbrev pub is_heap_page : PageRow → Bool
is_heap_page p = nat_le 0x20000 p.page && nat_le p.page 0x20fff

-- .. lies below the end of its process's heap
abbrev pub is_below_heap : List ProcRow → PageRow → Bool
is_below_heap procs p = not (is_heap_page p) || nat_lt p.page (0x20000 + (processes_of procs p.pid).heap / 4096)

-- ---- claims

-- a claim of an interrupt that there is, by a living process
abbrev pub is_claim_living : List ProcRow → ClaimRow → Bool
is_claim_living procs c = nat_lt c.number 32 && (processes_of procs c.pid).alive
