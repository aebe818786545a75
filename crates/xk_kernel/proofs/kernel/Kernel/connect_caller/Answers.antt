-- The caller's process is connected, as there is room.
use Rattle.std.proofs.Common.{◌≡◌, true, sym, ap, ◌∙◌}
use Rattle.xk_base.specs.Tables.Connections.{cid_for, has_room}
use Rattle.process_table.specs.ProcessMap.{connections_of}
use Rattle.process_table.specs.Shown.{processes_of}
use Rattle.xk_kernel.proofs.Calling.ServerCallLemmas.{connected_cid, connected_whole, connections_told, machine_connected, not_unconnected}
use Rattle.xk_kernel.proofs.Memory.HeapLemmas.{caller_pid}
use Rattle.xk_kernel.proofs.kernel.Kernel.connect_caller.Goals as goal

-- src/kernel/server_calls.rt
pub connect-requires : goal.connect-requires
connect-requires g c = caller_pid g.W.SwapStore c.args.self.now c.requires.whole

pub unreachable-requires : goal.unreachable-requires
unreachable-requires g c =
    let room : has_room c.args.serial (connections_of (processes_of c.args.self.now.procs c.args.self.now.cursor.pid.0)) ≡ true =
    ap (has_room c.args.serial) (connections_told g.W.SwapStore.held c.args.self.now) ∙ c.requires.room in
    not_unconnected c.args.serial (connections_of (processes_of c.args.self.now.procs c.args.self.now.cursor.pid.0)) _ (sym c.in-Err.is ∙ c.connect.ensures.answer) room

pub returns-clause-whole : goal.returns-clause-whole
returns-clause-whole g c =
    connected_whole g.W.SwapStore c.args.self.now c.requires.whole c.connect.new.self c.connect.ensures.count

pub returns-clause-answer : goal.returns-clause-answer
returns-clause-answer g c =
    let room : has_room c.args.serial (connections_of (processes_of c.args.self.now.procs c.args.self.now.cursor.pid.0)) ≡ true =
    ap (has_room c.args.serial) (connections_told g.W.SwapStore.held c.args.self.now) ∙ c.requires.room in
    connected_cid c.args.serial (connections_of (processes_of c.args.self.now.procs c.args.self.now.cursor.pid.0)) c.in-Ok.cid (sym c.in-Ok.is ∙ c.connect.ensures.answer) room
    ∙ ap (cid_for c.args.serial) (connections_told g.W.SwapStore.held c.args.self.now)

pub returns-clause-machine : goal.returns-clause-machine
returns-clause-machine g c =
    machine_connected g.W.SwapStore c.args.self.now c.requires.whole c.connect.new.self c.args.serial c.in-Ok.ensures.ok
