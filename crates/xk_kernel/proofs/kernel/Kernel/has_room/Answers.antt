use Rattle.std.proofs.Common.{ap, ◌∙◌}
use Rattle.xk_base.specs.Tables.Connections.{has_room}
use Rattle.xk_kernel.proofs.Calling.ServerCallLemmas.{connections_told}
use Rattle.xk_kernel.proofs.Memory.HeapLemmas.{caller_pid}
use Rattle.xk_kernel.proofs.kernel.Kernel.has_room.Goals as goal

-- src/kernel/server_calls.rt
pub room-requires : goal.room-requires
room-requires g c = caller_pid g.W.SwapStore c.args.self.now c.requires.whole

pub returns : goal.returns
returns g c = c.room.ensures ∙ ap (has_room c.args.serial) (connections_told g.W.SwapStore.held c.args.self.now)
