-- Where a message's pages go at the server of a connection: to free places of the Message window, and no number is taken by the arrival.
use Rattle.std.proofs.Common.{◌≡◌, ℕ, true, Option, Some, None, refl}
use Rattle.std.specs.Option.{option_and_then, option_map_or}
use Rattle.std.proofs.lemmas.Option.{none-some}
use Rattle.xk_base.specs.Tables.Connections.{connected_to}
use Rattle.xk_base.specs.declared.ids.Place.{Place}
use Rattle.xk_base.specs.declared.ids.Serial.{Serial}
use Rattle.xk_base.specs.declared.ids.Vpn.{Vpn}
use Rattle.xk_base.specs.declared.windows.Window.TheVariants.{Message as MessageWindow}
use Rattle.ledger_model.specs.Places.{in_run, is_place_in}
use Rattle.ledger_model.specs.Reach.{is_free}
use Rattle.machine_model.specs.Messaging.SendCalls.{message_run}
use Rattle.machine_model.specs.Runs.Matched.{Matched, is_living}
use Rattle.machine_model.specs.State.Connections.{own_connections}
use Rattle.machine_model.specs.State.Machine.{Machine, Server}
use Rattle.machine_model.specs.State.Servers.{server_at}
use Rattle.machine_laws.proofs.Messaging.MessageRunLemmas.{run_free, run_lies}

-- n free places of the Message window from there on
pub record IsArrival (m : Machine) (to : Place) (n : ℕ) : Type 0 where
  pub free : (p : Place) → in_run to n p ≡ true → is_free m.processes m.ledger p ≡ true
  pub lies : (p : Place) → in_run to n p ≡ true → is_place_in m.processes MessageWindow p ≡ true

server_lives : (m : Machine) → Matched m → (o : Option Serial) (server : Server) → option_and_then (λ serial. m.servers serial.0) o ≡ Some server
    → is_living m server.pid ≡ true
server_lives m h None server e = absurd (none-some server e)
server_lives m h (Some serial) server e = h.body.servers.living serial.0 server e

pub arrival_of : (m : Machine) → Matched m → (cid n : ℕ) (first : Vpn) → option_and_then (message_run m n) (server_at m cid) ≡ Some first
    → IsArrival m (record { pid = option_map_or (λ server. server.pid) (server_at m cid) m.cursor.pid; vpn = first }) n
arrival_of m h cid n first e = go (server_at m cid) refl e
  where
    go : (o : Option Server) → server_at m cid ≡ o → option_and_then (message_run m n) o ≡ Some first
        → IsArrival m (record { pid = option_map_or (λ server. server.pid) o m.cursor.pid; vpn = first }) n
    go None q r = absurd (none-some first r)
    go (Some server) q r =
        let lives : is_living m server.pid ≡ true = server_lives m h (connected_to (own_connections m) cid) server q in
        record { free = run_free m h server.pid lives n first r; lies = run_lies m h server.pid lives n first r }

-- what leaves the ledger and the next number
pub record IsArrived (m after : Machine) : Type 0 where
  pub ledger : after.ledger ≡ m.ledger
  pub number : after.next_number ≡ m.next_number
