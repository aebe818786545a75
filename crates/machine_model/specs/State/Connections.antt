-- The connections of the caller's process in the machine.
use Rattle.std.specs.Prelude.{List, nat_eq}
use Rattle.xk_base.specs.declared.ids.Serial.{Serial}
use Rattle.xk_base.specs.Tables.Connections.{connected}
use Rattle.xk_base.specs.Tables.Counting.{put_at}
use Rattle.machine_model.specs.State.Machine.{Machine}

-- the connections of the caller's process
abbrev pub own_connections : Machine → List Serial
own_connections m = (m.process m.cursor.pid.0).connections

-- the machine with the caller's process connected to the server
abbrev pub connect_caller : Serial → Machine → Machine
connect_caller serial m =
    let caller = m.cursor.pid.0 in
    record m {
      process = put_at nat_eq m.process caller (record (m.process caller) { connections = connected serial (own_connections m) });
    }
