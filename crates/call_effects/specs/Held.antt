-- The held message that a call names: where it is found.
use Rattle.std.specs.Prelude.{◌≡◌, Bool, true, find, Some}
use Rattle.xk_base.specs.declared.ids.Serial.{Serial}
use Rattle.xk_base.specs.declared.messages.Message.{Message}
use Rattle.machine_model.specs.Messaging.ReturnCalls.{holder_of}
use Rattle.machine_model.specs.State.Machine.{Machine, Server}

-- a server of the caller's process holds the message, and it is the first there that passes the test
pub record IsHeld (m : Machine) (test : Message → Bool) (message : Message) : Type 0 where
  pub serial : Serial
  pub is : holder_of m test ≡ Some serial
  pub server : Server
  pub there : m.servers serial.0 ≡ Some server
  pub own : server.pid ≡ m.cursor.pid
  pub found : find test server.held ≡ Some message
  pub passes : test message ≡ true
