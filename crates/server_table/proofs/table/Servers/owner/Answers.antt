use Rattle.std.proofs.Common.{◌≡◌, length, Some, None, sym, ap, ◌∙◌, arith}
use Rattle.std.specs.Option.{option_map}
use Rattle.xk_base.specs.declared.limits.TheConstants.{SERVER_LIMIT}
use Rattle.xk_base.specs.Tables.RowMap.{row_map}
use Rattle.server_table.specs.ServersOf.{servers_of}
use Rattle.server_table.specs.ServerState.{Server}
use Rattle.server_table.proofs.SerialLemmas.{row_read, by_serial_seat, by_serial_blank, by_serial_none}
use Rattle.server_table.proofs.table.Servers.owner.Goals as goal

pub returns-in_err-seat : goal.returns-in_err-seat
unfolding servers_of
returns-in_err-seat c =
    c.from_residual.ensures
    ∙ sym (ap (option_map (λ (v : Server). v.pid)) (by_serial_none c.args.self.now.seats.items c.args.s.0 (sym c.in_err-seat.ensures.found)))

pub returns-in_err-index : goal.returns-in_err-index
unfolding servers_of
returns-in_err-index c =
    let size : length c.args.self.now.seats.items ≡ SERVER_LIMIT = omega arith in
    let here : row_map c.args.self.now.seats.items c.in_ok-seat.seat ≡ None =
    row_read c.args.self.now.seats.items c.in_ok-seat.seat c.index.result.now (omega (arith, c.in_ok-seat.ensures.within)) c.index.ensures ∙ c.in_err-index.was in
    c.from_residual-in_err-index.ensures
    ∙ sym (ap (option_map (λ (v : Server). v.pid)) (by_serial_blank c.args.self.now.seats.items c.args.s.0 c.in_ok-seat.seat (sym c.in_ok-seat.ensures.found) here))

pub returns : goal.returns
unfolding servers_of
returns c =
    let size : length c.args.self.now.seats.items ≡ SERVER_LIMIT = omega arith in
    let here : row_map c.args.self.now.seats.items c.in_ok-seat.seat ≡ Some c.in_ok-index.field-0 =
    row_read c.args.self.now.seats.items c.in_ok-seat.seat c.index.result.now (omega (arith, c.in_ok-seat.ensures.within)) c.index.ensures ∙ c.in_ok-index.was in
    sym (ap (option_map (λ (v : Server). v.pid)) (by_serial_seat c.args.self.now.seats.items c.args.s.0 c.in_ok-seat.seat c.in_ok-index.field-0 (sym c.in_ok-seat.ensures.found) here))
