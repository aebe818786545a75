use Rattle.std.proofs.Common.{◌≡◌, ◌<◌, subst, arith, inl, inr}
use Rattle.std.proofs.lemmas.Bool.{cases_lt}
use Rattle.server_table.proofs.Lemmas.{seat_within}
use Rattle.server_table.specs.ServersOf.{servers_of}
use Rattle.send_path.specs.Seats.{IsNotHeldAt}
use Rattle.send_path.proofs.Servers.SeatSearchLemmas.{found_seat}
use Rattle.send_path.proofs.holding.held_by.Goals as goal

pub loop-seat-preserved : goal.loop-seat-preserved
loop-seat-preserved c = λ j low. elim (cases_lt j c.loop-seat.seat) [
  | inl before ↦ c.loop-seat.invariant j before
  | inr above ↦
      let same : c.loop-seat.seat ≡ j = omega arith in
      subst (λ k. IsNotHeldAt c.args.pid c.args.number (servers_of c.args.servers.now) c.args.queues.now k) same c.in_default.ensures
]

pub returns : goal.returns
returns c = λ seat e at own.
    let found = found_seat c.args.servers.now seat e at in
    let within : seat < 64 = subst (λ k. k < 64) found.its (seat_within c.args.servers.now e.serial.0 found.server found.live) in
    c.loop-seat.invariant seat (omega arith) e at own
