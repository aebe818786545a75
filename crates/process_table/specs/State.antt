-- A process as its table knows it: whether it is alive, its heap, and its connections.
use Rattle.std.specs.Prelude.{ℕ, Bool, true, false, List, [], Result, Ok, Err, if◌then◌else◌}
use Rattle.xk_base.specs.Tables.Connections.{cid_for, connected, has_room}
use Rattle.xk_base.specs.declared.errors.XousError.{XousError}
use Rattle.xk_base.specs.declared.errors.XousError.TheVariants.{InvalidLimit}
use Rattle.xk_base.specs.declared.ids.Cid.{Cid}
use Rattle.xk_base.specs.declared.ids.Serial.{Serial}

-- whether it is alive, the length of its heap in bytes, and the servers that it is connected to, in the order of
-- the connection numbers
pub record ProcessState : Type 0 where
  pub alive : Bool
  pub heap : ℕ
  pub connections : List Serial

-- a process of a new machine: alive, with no heap and no connection
abbrev pub new_process : ProcessState
new_process = record { alive = true; heap = 0; connections = [] }

-- a process after its end
abbrev pub dead_process : ProcessState
dead_process = record { alive = false; heap = 0; connections = [] }

-- the answer to a connection: the one that is there, or else a new one with the least unused number; refused where there is
-- no room for one
abbrev pub connection : Serial → List Serial → Result Cid XousError
connection serial servers = if has_room serial servers then Ok (record { 0 = cid_for serial servers }) else Err InvalidLimit

-- a process with that length of its heap in bytes
abbrev pub with_heap : ℕ → ProcessState → ProcessState
with_heap bytes p = record p { heap = bytes }

-- a process with a connection to the server
abbrev pub with_connection : Serial → ProcessState → ProcessState
with_connection serial p = record p { connections = connected serial p.connections }
