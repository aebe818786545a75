-- Whose slice may come next, told from the rows of threads.
use Rattle.std.specs.Prelude.{◌==◌, ◌&&◌, Bool, false, List}
use Rattle.std.specs.List.{find}
use Rattle.std.specs.Option.{option_map_or}
use Rattle.snapshot_rows.specs.declared.state.ThreadRow.{ThreadRow}
use Rattle.xk_base.specs.declared.ids.ThreadId.{ThreadId}
use Rattle.snapshot_rows.specs.declared.states.TheConstants.{READY}

-- there is a row of this id, and it tells that the thread is Ready
abbrev pub is_ready_in : List ThreadRow → ThreadId → Bool
is_ready_in rows who = option_map_or (λ t. t.state == READY) (find (λ t. t.pid == who.pid.0 && t.tid == who.tid.0) rows) false
