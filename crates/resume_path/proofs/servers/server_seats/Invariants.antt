use Rattle.std.proofs.Common.{◌≡◌, map, take}
use Rattle.resume_path.specs.Tables.{row_seat}
use Rattle.resume_path.proofs.servers.server_seats.Given as goal

abbrev pub invariant-rows : goal.invariant-rows
invariant-rows l = l.seats ≡ map row_seat (take l.row-index l.state.servers)
