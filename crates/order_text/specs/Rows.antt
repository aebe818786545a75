-- Rows of which text is told.
use Rattle.std.specs.Prelude.{◌≡◌, ℕ, ◌<◌, ◌≤◌, Some}
use Rattle.machine_model.specs.State.Machine.{Server}
use Rattle.snapshot_rows.specs.declared.state.State.{State}
use Rattle.snapshot_rows.specs.Machines.{servers_of}
use Rattle.snapshot_rows.specs.Order.{Ascend, server_key}
use Rattle.xk_base.specs.declared.limits.TheConstants.{PROCESS_LIMIT}

-- There are no more processes than may be, servers stand in order of their serials, and the next serial is above all of theirs: so it
-- is of the rows of each state file whose machine is matched.
pub record AreTellable (s : State) : Type 0 where
  pub few : s.n ≤ PROCESS_LIMIT
  pub servers : Ascend server_key s.servers
  pub below : (serial : ℕ) (server : Server) → servers_of s.servers serial ≡ Some server → serial < s.next_serial
