use Rattle.std.proofs.Common.{sym}
use Rattle.process_table.specs.ProcessMap.{connections_of}
use Rattle.process_table.specs.Shown.{processes_of}
use Rattle.server_table.specs.ServersOf.{servers_of}
use Rattle.send_path.proofs.Servers.ReachedLemmas.{reached}
use Rattle.send_path.proofs.seats.connected_server.Goals as goal

pub returns : goal.returns
returns c =
    reached (connections_of (processes_of c.args.procs.now c.args.pid.0)) c.args.cid.0 (servers_of c.args.servers.now)
    (record { serial = c.in_ok-serial.serial; pid = c.in_ok-pid.pid; seat = c.in_ok-seat.seat })
    (sym c.in_ok-serial.ensures)
    (sym c.in_ok-pid.ensures)
    (sym c.in_ok-seat.ensures.answer)
