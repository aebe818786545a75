use Rattle.std.proofs.Common.{◌≡◌, length, Some, None, true, sym, ap, ◌∙◌, arith}
use Rattle.xk_base.specs.declared.limits.TheConstants.{SERVER_LIMIT}
use Rattle.xk_base.specs.Tables.RowMap.{row_map}
use Rattle.server_table.specs.Seats.{seat_has_sid}
use Rattle.server_table.specs.ServersOf.{servers_of}
use Rattle.server_table.proofs.AnsweredLemmas.{with_sid_is, unnamed, named}
use Rattle.server_table.proofs.SerialLemmas.{row_read}
use Rattle.server_table.proofs.table.Servers.find.Goals as goal

pub returns-in_err-seat : goal.returns-in_err-seat
unfolding servers_of
returns-in_err-seat c =
    let size : length c.args.self.now.seats.items ≡ SERVER_LIMIT = omega arith in
    c.from_residual.ensures
    ∙ sym (unnamed c.args.self.now.seats.items c.args.self.now.next c.args.sid size (sym c.in_err-seat.ensures.found))

pub returns-in_err-index : goal.returns-in_err-index
returns-in_err-index c =
    let size : length c.args.self.now.seats.items ≡ SERVER_LIMIT = omega arith in
    let here : row_map c.args.self.now.seats.items c.in_ok-seat.seat ≡ None =
    row_read c.args.self.now.seats.items c.in_ok-seat.seat c.index.result.now (omega (arith, c.in_ok-seat.ensures.within)) c.index.ensures ∙ c.in_err-index.was in
    let passes : seat_has_sid c.args.sid None ≡ true = ap (seat_has_sid c.args.sid) (sym here) ∙ named c.args.self.now.seats.items c.args.sid c.in_ok-seat.seat (sym c.in_ok-seat.ensures.found) in
    cc

pub returns : goal.returns
unfolding servers_of
returns c =
    let size : length c.args.self.now.seats.items ≡ SERVER_LIMIT = omega arith in
    let here : row_map c.args.self.now.seats.items c.in_ok-seat.seat ≡ Some c.in_ok-index.field-0 =
    row_read c.args.self.now.seats.items c.in_ok-seat.seat c.index.result.now (omega (arith, c.in_ok-seat.ensures.within)) c.index.ensures ∙ c.in_ok-index.was in
    sym (with_sid_is c.args.self.now.seats.items c.args.self.now.next c.in_ok-seat.seat c.in_ok-index.field-0 c.args.sid c.args.self.now.apart size here
    (sym (ap (seat_has_sid c.args.sid) here) ∙ named c.args.self.now.seats.items c.args.sid c.in_ok-seat.seat (sym c.in_ok-seat.ensures.found)))
