use Rattle.std.proofs.Common.{◌≡◌, length, sym, ◌∙◌, arith}
use Rattle.xk_base.specs.declared.limits.TheConstants.{SERVER_LIMIT}
use Rattle.server_table.specs.ServersOf.{servers_of}
use Rattle.server_table.proofs.AnsweredLemmas.{at_seat_is}
use Rattle.server_table.proofs.SerialLemmas.{row_read}
use Rattle.server_table.proofs.table.Servers.at_seat.Goals as goal

pub returns : goal.returns
unfolding servers_of
returns c =
    let size : length c.args.self.now.seats.items ≡ SERVER_LIMIT = omega arith in
    sym (row_read c.args.self.now.seats.items c.args.seat c.index.result.now (omega arith) c.index.ensures)
    ∙ sym (at_seat_is c.args.self.now.seats.items c.args.self.now.next c.args.seat c.args.self.now.apart size)
