-- What the rows of a state are in the tables of a kernel.
use Rattle.std.specs.Prelude.{◌==◌, List, map}
use Rattle.irq_claims.specs.declared.claims.Claim.{Claim}
use Rattle.process_table.specs.State.{ProcessState}
use Rattle.server_table.specs.declared.table.ServerSeat.{ServerSeat}
use Rattle.snapshot_rows.specs.declared.state.ClaimRow.{ClaimRow}
use Rattle.snapshot_rows.specs.declared.state.ProcRow.{ProcRow}
use Rattle.snapshot_rows.specs.declared.state.ServerRow.{ServerRow}
use Rattle.xk_base.specs.Tables.Sids.{serial_of}
use Rattle.xk_base.specs.declared.ids.Serial.{Serial}

-- a process with these connections
abbrev pub with_connections : List Serial → ProcessState → ProcessState
with_connections connections p = record p { connections = connections }

-- the process of a row
abbrev pub row_process : ProcRow → ProcessState
row_process row = record { alive = row.alive == 1; heap = row.heap; connections = map serial_of row.serials }

-- the server of a row, as it stands at its seat
abbrev pub row_seat : ServerRow → ServerSeat
row_seat row = record { sid = record { 0 = row.sid }; serial = record { 0 = row.serial }; pid = record { 0 = row.pid } }

-- the claim of a row, with whether it is pending
abbrev pub row_claim : ClaimRow → Claim
row_claim row = record { pid = record { 0 = row.pid }; handler = row.handler; arg = row.arg; pending = row.pending == 1 }
