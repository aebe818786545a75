use Rattle.save_path.proofs.NextServerLemmas.{least_all, least_next, least_none}
use Rattle.save_path.proofs.servers.next_server.Goals as goal

pub loop-seat-init : goal.loop-seat-init
loop-seat-init c = least_none c.args.servers.now c.args.from

pub loop-seat-preserved : goal.loop-seat-preserved
loop-seat-preserved c =
    rw c.lower-least.ensures
    (least_next c.args.servers.now c.args.from c.loop-seat.seat c.loop-seat.least c.at_seat.result c.loop-seat-test.true c.at_seat.ensures
    c.loop-seat.invariant)

pub returns : goal.returns
returns c = least_all c.args.servers.now c.args.from c.loop-seat.seat c.loop-seat.least c.loop-seat-test.false c.loop-seat.invariant
