use Rattle.std.proofs.Common.{◌≡◌, ◌<◌, ◌≤◌, ℕ, length, vec_capacity}
use Rattle.std.specs.Prelude.{slice_get}
use Rattle.xk_base.specs.Tables.RowMap.{row_map}
use Rattle.server_table.specs.declared.table.TheConstants.{SEATS}
use Rattle.server_table.proofs.table.Servers.resume.Given as goal

abbrev pub invariant-loop-seat : goal.invariant-loop-seat
invariant-loop-seat l = record {
  size : length l.seats.items ≡ l.seat;
  seated : (i : ℕ) → i < l.seat → row_map l.seats.items i ≡ slice_get l.rows i;
  room : SEATS ≤ vec_capacity l.seats;
}
