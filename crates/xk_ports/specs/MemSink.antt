-- A sink in memory.
use Rattle.std.specs.Prelude.{ℕ, ◌-◌, ◌==◌, ◌||◌, Bool, List, length}
use Rattle.xk_ports.specs.Calls.{CallsState, is_next_to_fail}

-- a sink in memory: the bytes that were appended, how many it can hold, and its calls
pub record MemSinkState : Type 0 where
  pub bytes : List ℕ
  pub room : ℕ
  pub calls : CallsState

-- how many bytes still fit
abbrev pub room_left : MemSinkState → ℕ
room_left sink = sink.room - length sink.bytes

-- whether the next write fails: its number is listed, or no room is left
abbrev pub is_write_to_fail : MemSinkState → Bool
is_write_to_fail sink = is_next_to_fail sink.calls || room_left sink == 0
