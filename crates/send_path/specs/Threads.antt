-- The order of threads.
use Rattle.std.specs.Prelude.{Bool, ◌==◌, ◌&&◌, ◌||◌, nat_lt}
use Rattle.xk_base.specs.declared.ids.ThreadId.{ThreadId}

-- the one stands before the other in the ascending order of (pid, tid)
abbrev pub is_before : ThreadId → ThreadId → Bool
is_before one other = nat_lt one.pid.0 other.pid.0 || ((one.pid.0 == other.pid.0) && nat_lt one.tid.0 other.tid.0)
