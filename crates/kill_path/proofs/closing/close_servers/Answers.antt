use Rattle.std.proofs.Common.{sym}
use Rattle.server_table.proofs.Lemmas.{live_below}
use Rattle.server_table.specs.ServersOf.{servers_of}
use Rattle.vm_memory.specs.Memory.{ledger}
use Rattle.kill_path.specs.Closing.{Closable, closable}
use Rattle.kill_path.specs.Noted.{noted}
use Rattle.kill_path.proofs.Servers.CloseLemmas.{all_gone, fewer_owned, least_is_of, least_is_owned, none_is_owned, none_so_far, one_more_gone, owned_lives}
use Rattle.kill_path.proofs.KeepLemmas.{after_both, same_memory}
use Rattle.kill_path.proofs.closing.close_servers.Goals as goal

pub loop-serial-init : goal.loop-serial-init
loop-serial-init g c =
    let old : Closable = closable (ledger g.W.SwapStore.held c.args.mem.now) c.args.servers.now c.args.queues.now (noted c.args.answered.now) in
    record {
      stays = same_memory g.W.SwapStore c.args.mem.now c.requires.sound;
      messages = c.requires.messages;
      closed = none_so_far c.args.pid old;
    }

pub seat_of-seat-requires : goal.seat_of-seat-requires
seat_of-seat-requires g c =
    owned_lives c.args.pid ((servers_of c.loop-serial.servers).live c.in-Some.serial.0)
    (least_is_of c.loop-serial.servers c.args.pid c.in-Some.serial (sym c.in-Some.ensures))

pub loop-serial-smaller : goal.loop-serial-smaller
loop-serial-smaller g c =
    let now : Closable = closable (ledger g.W.SwapStore.held c.loop-serial.mem) c.loop-serial.servers c.loop-serial.queues (noted c.loop-serial.answered) in
    let new : Closable = closable (ledger g.W.SwapStore.held c.close_server.new.mem) c.close_server.new.servers c.close_server.new.queues (noted c.close_server.new.answered) in
    fewer_owned c.args.pid c.in-Some.serial.0 now new c.close_server.ensures.closed
    (least_is_owned c.loop-serial.servers c.loop-serial.queues c.args.pid c.in-Some.serial (sym c.in-Some.ensures))
    (live_below c.loop-serial.servers c.in-Some.serial.0 c.seat_of-seat.ensures.server c.seat_of-seat.ensures.live)

pub loop-serial-preserved : goal.loop-serial-preserved
loop-serial-preserved g c =
    let old : Closable = closable (ledger g.W.SwapStore.held c.args.mem.now) c.args.servers.now c.args.queues.now (noted c.args.answered.now) in
    let now : Closable = closable (ledger g.W.SwapStore.held c.loop-serial.mem) c.loop-serial.servers c.loop-serial.queues (noted c.loop-serial.answered) in
    let new : Closable = closable (ledger g.W.SwapStore.held c.close_server.new.mem) c.close_server.new.servers c.close_server.new.queues (noted c.close_server.new.answered) in
    record {
      stays = after_both g.W.SwapStore c.args.mem.now c.loop-serial.mem c.close_server.new.mem
          c.loop-serial.invariant.stays c.close_server.ensures.stays;
      messages = c.close_server.ensures.messages;
      closed = one_more_gone c.args.pid c.in-Some.serial old now new c.loop-serial.invariant.closed c.close_server.ensures.closed
          (least_is_owned c.loop-serial.servers c.loop-serial.queues c.args.pid c.in-Some.serial (sym c.in-Some.ensures));
    }

pub returns-clause-closed : goal.returns-clause-closed
returns-clause-closed g c =
    let old : Closable = closable (ledger g.W.SwapStore.held c.args.mem.now) c.args.servers.now c.args.queues.now (noted c.args.answered.now) in
    let now : Closable = closable (ledger g.W.SwapStore.held c.loop-serial.mem) c.loop-serial.servers c.loop-serial.queues (noted c.loop-serial.answered) in
    all_gone c.args.pid old now c.loop-serial.invariant.closed
    (none_is_owned c.loop-serial.servers c.loop-serial.queues c.args.pid (sym c.in_default.ensures))
