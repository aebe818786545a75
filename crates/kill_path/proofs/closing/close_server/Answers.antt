use Rattle.std.proofs.Common.{◌==◌, sym, subst}
use Rattle.ledger_model.specs.Loans.{loans}
use Rattle.msg_queue.specs.Seats.{changed_at}
use Rattle.kill_path.specs.Ending.{emptied}
use Rattle.send_path.proofs.Servers.SeatLemmas.{seat_in_limit}
use Rattle.vm_memory.specs.Memory.{ledger}
use Rattle.kill_path.specs.Closing.{AreClosed, closable}
use Rattle.kill_path.specs.Noted.{noted}
use Rattle.xk_parts.specs.Sound.{AreOpen}
use Rattle.kill_path.proofs.Servers.OpenLemmas.{can_end, open_left, server_closed}
use Rattle.kill_path.proofs.closing.close_server.Goals as goal

pub end_seat-requires-clause-seat : goal.end_seat-requires-clause-seat
end_seat-requires-clause-seat g c =
    seat_in_limit c.args.servers.now c.args.queues.now c.args.serial.0 c.args.seat c.requires.seat c.requires.messages.seats.all

pub end_seat-requires-clause-messages : goal.end_seat-requires-clause-messages
end_seat-requires-clause-messages g c =
    can_end c.args.servers.now c.args.queues.now c.args.serial.0 c.args.seat c.requires.seat (ledger g.W.SwapStore.held c.args.mem.now) c.requires.messages

pub returns-clause-closed : goal.returns-clause-closed
returns-clause-closed g c =
    subst (λ q. AreClosed (λ n. n == c.args.serial.0)
    (closable (ledger g.W.SwapStore.held c.args.mem.now) c.args.servers.now c.args.queues.now (noted c.args.answered.now))
    (closable (ledger g.W.SwapStore.held c.end_seat.new.mem) c.remove.new.self q (noted c.end_seat.new.answered)))
    (sym c.end_seat.ensures.queues)
    (server_closed c.args.servers.now c.remove.new.self c.args.queues.now c.args.serial.0 c.args.seat c.requires.seat c.remove.ensures
    (ledger g.W.SwapStore.held c.args.mem.now) c.requires.messages (noted c.args.answered.now) (noted c.end_seat.new.answered) c.end_seat.ensures.noted
    (ledger g.W.SwapStore.held c.end_seat.new.mem) c.end_seat.ensures.ledger)

pub returns-clause-messages : goal.returns-clause-messages
returns-clause-messages g c =
    subst (λ q. AreOpen (loans (ledger g.W.SwapStore.held c.end_seat.new.mem)) c.remove.new.self q) (sym c.end_seat.ensures.queues)
    (subst (λ l. AreOpen (loans l) c.remove.new.self (changed_at c.args.seat emptied c.args.queues.now)) (sym c.end_seat.ensures.ledger)
    (open_left c.args.servers.now c.remove.new.self c.args.queues.now c.args.serial.0 c.args.seat c.requires.seat c.remove.ensures
    (ledger g.W.SwapStore.held c.args.mem.now) c.requires.messages))
