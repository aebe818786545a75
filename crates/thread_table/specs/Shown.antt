-- What a table of threads holds, as its callers see it.
use Rattle.std.specs.Prelude.{ℕ}
use Rattle.thread_table.specs.declared.table.Threads.{Threads}
use Rattle.thread_table.specs.ThreadMap.{ThreadMap, thread_map}

-- the number of processes that the table was made for; it stays
unfoldable pub process_count : Threads → ℕ
process_count t = t.procs

-- the threads by id
unfoldable pub threads_of : Threads → ThreadMap
threads_of t = thread_map t.procs t.by_place.items
