use Rattle.std.proofs.Common.{◌≡◌, ◌≤◌, replicate, None, vec_capacity}
use Rattle.server_table.specs.declared.table.TheConstants.{SEATS}
use Rattle.server_table.proofs.table.Servers.new.Given as goal

abbrev pub invariant-loop-seat : goal.invariant-loop-seat
invariant-loop-seat l = record {
  made : l.seats.items ≡ replicate l._seat None;
  room : SEATS ≤ vec_capacity l.seats;
}
