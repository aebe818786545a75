-- A process is connected to a server by a call of its own alone.
use Rattle.std.specs.Prelude.{◌≡◌, ◌⊎◌, ℕ, ◌<◌, ◌==◌, Bool, true, false, List, Some, slice_get}
use Rattle.std.specs.List.{list_any}
use Rattle.xk_base.specs.declared.ids.Pid.{Pid}
use Rattle.xk_base.specs.declared.ids.Serial.{Serial}
use Rattle.syscall_codec.specs.CallNumbers.{connect, create_server_with_address, try_connect}
use Rattle.syscall_codec.specs.CallWords.{call_number}
use Rattle.machine_model.specs.Calling.ServerCalls.{named_sid, new_serial}
use Rattle.machine_model.specs.Runs.LoanSpan.{IsServedCallOf}
use Rattle.machine_model.specs.Runs.Matched.{Matched}
use Rattle.machine_model.specs.Runs.Moments.{Cause, IsRun, Moment, moment_of, state_at}
use Rattle.machine_model.specs.State.Machine.{Machine}
use Rattle.machine_model.specs.State.Servers.{with_sid}

-- the list has a connection to the server of that serial
abbrev pub leads_to : Serial → List Serial → Bool
leads_to serial connections = list_any (λ s. s.0 == serial.0) connections

-- the process has one
abbrev pub is_connected : Machine → Pid → Serial → Bool
is_connected m pid serial = leads_to serial (m.process pid.0).connections

-- a thread of the process makes a call in the moment that connects it to the server
pub data IsConnecting (pid : Pid) (serial : Serial) (before : Machine) (moment : Moment) : Type 0 where
  -- Connect or TryConnect: the live server with the identifier that the call names
  Connects : (words : List ℕ) → IsServedCallOf pid words before moment
      → (call_number words ≡ connect) ⊎ (call_number words ≡ try_connect) → with_sid before (named_sid words) ≡ Some serial
      → IsConnecting pid serial before moment
  -- CreateServerWithAddress: the server that it makes
  Creates : (words : List ℕ) → IsServedCallOf pid words before moment → call_number words ≡ create_server_with_address
      → serial ≡ new_serial before → IsConnecting pid serial before moment

-- a process that is not connected to the server before the moment and is after it has made such a call
abbrev pub ConnectsByOwnCalls : Machine → Moment → Type 0
ConnectsByOwnCalls before moment =
    (pid : Pid) (serial : Serial) → is_connected before pid serial ≡ false → is_connected moment.machine pid serial ≡ true
    → IsConnecting pid serial before moment

-- so it is by whatever leads from a matched state to the next
abbrev pub EveryMomentConnectsSo : Type 0
EveryMomentConnectsSo = (cause : Cause) (m : Machine) → Matched m → ConnectsByOwnCalls m (moment_of cause m)

-- .. and so a connection that is not there at the start of a run was made in an earlier moment of it
abbrev pub EveryRunConnectsSo : Type 0
EveryRunConnectsSo =
    (start : Machine) (moments : List Moment) → Matched start → IsRun start moments → (pid : Pid) (serial : Serial) (i : ℕ)
    → is_connected start pid serial ≡ false → is_connected (state_at start moments i) pid serial ≡ true
    → (j : ℕ) × (moment : Moment) × (j < i) × (slice_get moments j ≡ Some moment) × IsConnecting pid serial (state_at start moments j) moment
