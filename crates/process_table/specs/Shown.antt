-- What a table of processes holds, as its callers see it.
use Rattle.std.specs.Prelude.{ℕ, length}
use Rattle.process_table.specs.declared.table.Processes.{Processes}
use Rattle.process_table.specs.ProcessMap.{ProcessMap, by_pid}

-- the number of processes that the table was made for; it stays
unfoldable pub process_count : Processes → ℕ
process_count t = length t.by_pid.items

-- the processes by pid
unfoldable pub processes_of : Processes → ProcessMap
processes_of t = by_pid t.by_pid.items
