-- The processes as a finite map from the pid: n processes have the pids 2 to n + 1, and no other pid has a value.
use Rattle.std.specs.Prelude.{ℕ, ◌+◌, ◌-◌, map, nat_lt, slice_get, Bool, false, List, [], Option, Some, None, nat_eq, if◌then◌else◌}
use Rattle.std.specs.Option.{option_map}
use Rattle.xk_base.specs.declared.ids.Serial.{Serial}
use Rattle.xk_base.specs.Tables.Circle.{is_pid}
use Rattle.xk_base.specs.Tables.Counting.{listed_below, put_at}
use Rattle.process_table.specs.State.{ProcessState, new_process}

-- each process by its pid
abbrev pub ProcessMap : Type 0
ProcessMap = ℕ → Option ProcessState

-- the processes of a list in the order of their pids, which begin at 2
abbrev pub by_pid : List ProcessState → ProcessMap
by_pid ps pid = if nat_lt pid 2 then None else slice_get ps (pid - 2)

-- n new processes
abbrev pub new_processes : ℕ → ProcessMap
new_processes n pid = if is_pid n pid then Some new_process else None

-- the map after a change of one process
abbrev pub change : ℕ → (ProcessState → ProcessState) → ProcessMap → ProcessMap
change pid f m = put_at nat_eq m pid (option_map f (m pid))

-- the process is there and alive
abbrev pub is_alive : Option ProcessState → Bool
is_alive None = false
is_alive (Some p) = p.alive

-- the length of its heap in bytes; 0 where it isn't there
abbrev pub heap_of : Option ProcessState → ℕ
heap_of None = 0
heap_of (Some p) = p.heap

-- its connections; none where it isn't there
abbrev pub connections_of : Option ProcessState → List Serial
connections_of None = []
connections_of (Some p) = p.connections

-- the living processes of n in ascending order of pid, each once
abbrev pub living_pids : ℕ → ProcessMap → List ℕ
living_pids n m = map (λ k. k + 2) (listed_below n (λ k. is_alive (m (k + 2))))
