-- Why pages are allocated, transferred, lent and released in one moment: the system call that does it and whose it is, or a death.
use Rattle.std.specs.Prelude.{◌≡◌, ℕ, true, false, List, Some}
use Rattle.xk_base.specs.declared.ids.Number.{Number}
use Rattle.xk_base.specs.declared.ids.Pid.{Pid}
use Rattle.xk_base.specs.declared.ids.Serial.{Serial}
use Rattle.xk_base.specs.declared.messages.MsgKind.{MsgKind}
use Rattle.syscall_codec.specs.CallNumbers.{forward_message, return_memory}
use Rattle.syscall_codec.specs.CallWords.{call_number, forward_cid, forward_token, return_token, send_cid}
use Rattle.xk_base.specs.Tables.Connections.{connected_to}
use Rattle.machine_model.specs.Messaging.Messages.{new_number}
use Rattle.machine_model.specs.Messaging.SendCalls.{named_kind}
use Rattle.machine_model.specs.Runs.LoanSpan.{IsServedCallOf, IsServerGone, is_send}
use Rattle.machine_model.specs.Runs.Matched.{is_living}
use Rattle.machine_model.specs.Runs.Moments.{Moment}
use Rattle.machine_model.specs.State.Machine.{Machine, Server}

-- a thread of the process makes the system call of this number, and it is served
pub record IsCallOf (pid : Pid) (number : ℕ) (before : Machine) (moment : Moment) : Type 0 where
  pub words : List ℕ
  pub served : IsServedCallOf pid words before moment
  pub named : call_number words ≡ number

-- A thread of the process `owner` sends a message of this kind to a server of the process `receiver`, and the send is accepted. The
-- message gets this number, which is new.
pub record IsSentBy (owner receiver : Pid) (kind : MsgKind) (number : Number) (before : Machine) (moment : Moment) : Type 0 where
  pub words : List ℕ
  pub served : IsServedCallOf owner words before moment
  pub sends : is_send (call_number words) ≡ true
  pub of_kind : named_kind words ≡ Some kind
  pub serial : Serial
  pub server : Server
  pub connection : connected_to (before.process owner.0).connections (send_cid words) ≡ Some serial
  pub live : before.servers serial.0 ≡ Some server
  pub receives : server.pid ≡ receiver
  pub taken : number ≡ new_number before

-- the process dies: it lives before the moment, and not after it
pub record Dies (pid : Pid) (before : Machine) (moment : Moment) : Type 0 where
  pub lived : is_living before pid ≡ true
  pub died : is_living moment.machine pid ≡ false

-- A thread of the process `holder` forwards the message of this number to a server of the process `receiver`, and the call is served.
pub record IsForwardedBy (holder receiver : Pid) (number : Number) (before : Machine) (moment : Moment) : Type 0 where
  pub words : List ℕ
  pub served : IsServedCallOf holder words before moment
  pub forwards : call_number words ≡ forward_message
  pub token : forward_token words ≡ number.0
  pub serial : Serial
  pub server : Server
  pub connection : connected_to (before.process holder.0).connections (forward_cid words) ≡ Some serial
  pub live : before.servers serial.0 ≡ Some server
  pub receives : server.pid ≡ receiver

-- why the holder of what was lent by the message of this number has it no longer, if it doesn't forward it
pub data IsEndedBy (holder : Pid) (number : Number) (before : Machine) (moment : Moment) : Type 0 where
  -- a thread of it returns the message
  Returned : (call : IsCallOf holder return_memory before moment) → return_token call.words ≡ number.0
      → IsEndedBy holder number before moment
  -- its server that has the message ends
  ServerGone : (gone : IsServerGone number before moment) → gone.server.pid ≡ holder → IsEndedBy holder number before moment
