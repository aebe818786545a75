use Rattle.std.proofs.Common.{◌≡◌, Some, sym, ap, ◌∙◌}
use Rattle.std.specs.Option.{option_map}
use Rattle.xk_base.specs.Tables.RowMap.{row_map}
use Rattle.server_table.specs.declared.table.ServerSeat.{ServerSeat}
use Rattle.server_table.specs.ServersOf.{servers_of}
use Rattle.server_table.specs.ServerState.{Server}
use Rattle.server_table.proofs.SerialLemmas.{by_serial_seat, by_serial_none, seat_with_found}
use Rattle.server_table.proofs.table.Servers.seat.Goals as goal

pub returns-in_err-seat_of-clause-answer : goal.returns-in_err-seat_of-clause-answer
unfolding servers_of
returns-in_err-seat_of-clause-answer c =
    c.from_residual.ensures
    ∙ sym (ap (option_map (λ (v : Server). v.seat)) (by_serial_none c.args.self.now.seats.items c.args.s.0 (sym c.in_err-seat_of.ensures.found)))

pub returns-clause-answer : goal.returns-clause-answer
unfolding servers_of
returns-clause-answer c =
    let found = sym c.in_ok-seat_of.ensures.found in
    let here : (e : ServerSeat) × (row_map c.args.self.now.seats.items c.in_ok-seat_of.field-0 ≡ Some e) × (e.serial.0 ≡ c.args.s.0) =
    seat_with_found c.args.self.now.seats.items c.args.s.0 c.in_ok-seat_of.field-0 found in
    sym (ap (option_map (λ (v : Server). v.seat)) (by_serial_seat c.args.self.now.seats.items c.args.s.0 c.in_ok-seat_of.field-0 here.0 found here.1))
