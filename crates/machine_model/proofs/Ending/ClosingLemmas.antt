-- Laws of closing servers, and of events that do nothing.
use Rattle.std.proofs.Common.{◌≡◌, ℕ, Bool, true, false, Option, Some, None, refl, sym, ap, ◌∙◌}
use Rattle.std.specs.Prelude.{◌==◌, ◌&&◌, is_some, if◌then◌else◌, map}
use Rattle.std.proofs.lemmas.Bool.{eqb-true}
use Rattle.std.proofs.lemmas.Option.{none-some}
use Rattle.xk_base.specs.declared.ids.Pid.{Pid}
use Rattle.xk_base.specs.declared.ids.Serial.{Serial}
use Rattle.xk_base.specs.declared.ids.ThreadId.{ThreadId}
use Rattle.syscall_codec.specs.CallNumbers.{call_numbers}
use Rattle.xk_base.proofs.CountingLemmas.{least_below-None}
use Rattle.machine_model.specs.Calling.Calls.{call_table}
use Rattle.machine_model.specs.State.Changes.{Retried, call_settled, only}
use Rattle.machine_model.specs.Ending.Closing.{any_server, server_passes, closed, close, is_message_at, is_sender_at, refused_server}
use Rattle.machine_model.specs.Stepping.Events.{picked, raised, raised_if, killed, killed_if, nothing}
use Rattle.machine_model.specs.Stepping.Reservations.{unreserved}
use Rattle.machine_model.specs.State.Machine.{Machine, Server}
use Rattle.machine_model.specs.State.Order.{ready_at, turn}
use Rattle.machine_model.specs.State.Threads.{no_answers}
use Rattle.machine_model.proofs.Messaging.LoanSetLemmas.{none_ends}

-- ---- calls

pub every_number : map (λ row. row.0) call_table ≡ call_numbers
every_number = refl

pub retry_turns : (m : Machine) → (call_settled m Retried).machine ≡ turn m
unfolding call_settled
retry_turns m = refl

-- ---- a server that isn't alive

-- a test that asks for this serial passes nowhere
passes_nowhere : (m : Machine) (serial : Serial) → m.servers serial.0 ≡ None → (test : Server → Bool) (k : ℕ)
    → server_passes (λ server. (k == serial.0) && test server) (m.servers k) ≡ false
passes_nowhere m serial e test k = go (m.servers k) refl (k == serial.0) refl
  where
    go : (o : Option Server) → m.servers k ≡ o → (b : Bool) → (k == serial.0) ≡ b → server_passes (λ server. b && test server) o ≡ false
    go None h b q = refl
    go (Some server) h false q = refl
    go (Some server) h true q = absurd (none-some server (sym e ∙ (sym (ap m.servers (eqb-true k serial.0 q)) ∙ h)))

none_there : (m : Machine) (serial : Serial) → m.servers serial.0 ≡ None → (test : Server → Bool)
    → any_server m (λ n server. (n == serial.0) && test server) ≡ false
unfolding any_server
none_there m serial e test =
    ap is_some (least_below-None m.next_serial (λ n. server_passes (λ server. (n == serial.0) && test server) (m.servers n))
    (λ k l. passes_nowhere m serial e test k))

servers_stay : (m : Machine) (serial : Serial) → m.servers serial.0 ≡ None → (n : ℕ)
    → (if n == serial.0 then None else m.servers n) ≡ m.servers n
servers_stay m serial e n = go (n == serial.0) refl
  where
    go : (b : Bool) → (n == serial.0) ≡ b → (if b then None else m.servers n) ≡ m.servers n
    go false q = refl
    go true q = sym (ap m.servers (eqb-true n serial.0 q) ∙ e)

pub nobody_refused : (test : ThreadId → Bool) → ((id : ThreadId) → test id ≡ false) → refused_server test ≡ no_answers
nobody_refused test h = λ i id. if_none id i
  where
    if_none : (id : ThreadId) → refused_server test id ≡ None
    if_none id = rw (h id) refl

pub dead_server_closes : (m : Machine) (serial : Serial) → m.servers serial.0 ≡ None → close serial m ≡ only m
unfolding closed
dead_server_closes m serial e = λ i. record {
  machine = record m { ledger = ledger i; servers = λ n. servers_stay m serial e n i };
  answers = answers i;
  delivery = None;
  gone = None;
}
  where
    ledger : (close serial m).machine.ledger ≡ m.ledger
    ledger = none_ends (is_message_at (λ n. n == serial.0) m) (λ number. none_there m serial e _) m.ledger

    answers : (close serial m).answers ≡ no_answers
    answers = nobody_refused (is_sender_at (λ n. n == serial.0) m) (λ id. none_there m serial e _)

-- ---- events that do nothing

pub pick_of_unready : (m : Machine) (who : ThreadId) → ready_at m who ≡ false → picked who m ≡ nothing m
unfolding picked
pick_of_unready m who e = rw e refl

pub irq_unclaimed : (m : Machine) (k : ℕ) → m.claims k ≡ None → raised k m ≡ nothing (unreserved m)
unfolding raised
irq_unclaimed m k e = ap (λ c. raised_if k c (unreserved m)) e

pub kill_of_dead : (m : Machine) (pid : Pid) → (m.process pid.0).alive ≡ false → killed pid m ≡ nothing (unreserved m)
unfolding killed
kill_of_dead m pid e = ap (λ b. killed_if b pid (unreserved m)) e
