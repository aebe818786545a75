-- The steps of SendMessage and TrySendMessage keep the machine matched: refused, retried, and served.
use Rattle.std.proofs.Common.{◌≡◌, ℕ, Bool, true, false, List, [], ◌∷◌, ◌++◌, Option, Some, None, refl, sym, ap, ◌∙◌, subst}
use Rattle.std.specs.Prelude.{◌==◌, ◌&&◌, is_none, unwrap_or}
use Rattle.std.specs.Option.{option_and_then, option_map_or}
use Rattle.std.proofs.lemmas.Bool.{false≢true}
use Rattle.std.proofs.lemmas.Option.{none-some}
use Rattle.xk_base.specs.declared.errors.XousError.{XousError}
use Rattle.xk_base.specs.declared.errors.XousError.TheVariants.{BadAlignment, BadAddress, InvalidSyscall, MemoryInUse, ServerNotFound, ServerQueueFull, ShareViolation}
use Rattle.xk_base.specs.declared.ids.Serial.{Serial}
use Rattle.xk_base.specs.declared.ids.Vpn.{Vpn}
use Rattle.xk_base.specs.declared.messages.MsgKind.{MsgKind}
use Rattle.xk_base.specs.declared.messages.MsgKind.TheVariants.{Scalar}
use Rattle.xk_base.specs.declared.windows.Window.TheVariants.{Message as MessageWindow}
use Rattle.syscall_codec.specs.CallWords.{call_number, send_address, send_cid, send_kind, send_length}
use Rattle.xk_base.specs.Tables.Connections.{connected_to}
use Rattle.xk_base.specs.Calls.Kinds.{is_waiting_kind, kind_at, is_answered}
use Rattle.ledger_model.specs.LeastRun.{least_run}
use Rattle.ledger_model.specs.RunTests.{any_free, any_not_sent}
use Rattle.machine_model.specs.Calling.Calls.{call}
use Rattle.machine_model.specs.Calling.MemoryCalls.{caller_place, is_bad_range}
use Rattle.machine_model.specs.Messaging.Messages.{carries_pages, new_message, new_number}
use Rattle.machine_model.specs.Messaging.Receivers.{receiver}
use Rattle.machine_model.specs.Messaging.SendCalls.{arrival, arrival_refusals, is_full_for, is_lend_mut, message_run, named_kind, send_call, send_refusals, send_served, sends_lend_mut, sends_pages, sent, sent_ledger, sent_pages, sent_serial, sent_to, try_send_call}
use Rattle.machine_model.specs.Runs.Matched.{Matched}
use Rattle.machine_model.specs.State.Changes.{Served, first_refusal, unless_retried}
use Rattle.machine_model.specs.State.Connections.{own_connections}
use Rattle.machine_model.specs.State.Machine.{Machine, Server}
use Rattle.machine_model.specs.State.Order.{ready_at}
use Rattle.xk_base.specs.Tables.Sids.{serial_of}
use Rattle.machine_model.specs.State.Servers.{is_full, server_at}
use Rattle.machine_laws.proofs.Calling.AnsweredCallLemmas.{Keeps, retried_keeps}
use Rattle.machine_laws.proofs.Sending.SendCallLemmas.{arrives, arrives_keeps}
use Rattle.machine_laws.proofs.Sending.SendLedgerLemmas.{IsAccepted, sent_ledger_is}
use Rattle.machine_laws.proofs.Calling.ThreadCallLemmas.{call_keeps, not_handler, one_passed, unless_refused_keeps}

-- ---- refusals

five_passed : (a b c d f : Bool) (v w x y z : XousError) (rest : List (Bool × XousError))
    → first_refusal ((a, v) ∷ (b, w) ∷ (c, x) ∷ (d, y) ∷ (f, z) ∷ rest) ≡ None
    → (a ≡ false) × (b ≡ false) × (c ≡ false) × (d ≡ false) × (f ≡ false) × (first_refusal rest ≡ None)
five_passed true b c d f v w x y z rest e = absurd (none-some v (sym e))
five_passed false true c d f v w x y z rest e = absurd (none-some w (sym e))
five_passed false false true d f v w x y z rest e = absurd (none-some x (sym e))
five_passed false false false true f v w x y z rest e = absurd (none-some y (sym e))
five_passed false false false false true v w x y z rest e = absurd (none-some z (sym e))
five_passed false false false false false v w x y z rest e = (refl, refl, refl, refl, refl, e)

and_false : (a b : Bool) → a && b ≡ false → a ≡ true → b ≡ false
and_false true b e q = e
and_false false b e q = absurd (false≢true q)

is_there : {A : Type 0} → (o : Option A) (d : A) → is_none o ≡ false → o ≡ Some (unwrap_or o d)
is_there None d e = absurd (false≢true (sym e))
is_there (Some x) d e = refl

-- the server that a connection leads to
server_there : (m : Machine) (o : Option Serial) → is_none (option_and_then (λ serial. m.servers serial.0) o) ≡ false
    → (serial : Serial) × (server : Server) × (o ≡ Some serial) × (m.servers serial.0 ≡ Some server)
server_there m None e = absurd (false≢true (sym e))
server_there m (Some serial) e = go (m.servers serial.0) refl e
  where
    go : (o : Option Server) → m.servers serial.0 ≡ o → is_none o ≡ false
        → (s : Serial) × (server : Server) × (Some serial ≡ Some s) × (m.servers s.0 ≡ Some server)
    go None q r = absurd (false≢true (sym r))
    go (Some server) q r = (serial, server, refl, q)

-- a kind that is to be answered makes its sender wait
waiting_kind : (n : ℕ) (kind : MsgKind) → kind_at n ≡ Some kind → is_answered kind ≡ true → is_waiting_kind n ≡ true
waiting_kind n kind e answered = ap (λ o. option_map_or is_answered o false) e ∙ answered

module _ (m : Machine) (h : Matched m) (ready : ready_at m m.cursor ≡ true) (w : List ℕ) where
  -- ---- an accepted send

  accepted_keeps : (kind : MsgKind) (first : Vpn) → IsAccepted m w kind first → Keeps m (Served (sent m kind w first))
  accepted_keeps kind first a =
      subst (λ c. Keeps m (Served c))
      (λ i. arrives (is_answered kind) (receiver m (serial_is i)) m (serial_is i) (new_message m kind w first)
      (sent_ledger kind (caller_place m (send_address w)) (sent_pages w) (record { pid = option_map_or (λ server. server.pid) (at i) m.cursor.pid; vpn = first })
      (new_number m) m.ledger))
      (arrives_keeps m h ready w kind first a.serial a.server a.live a.room a.above
      (sent_ledger kind (caller_place m (send_address w)) (sent_pages w) (record { pid = a.server.pid; vpn = first }) (new_number m) m.ledger)
      (sent_ledger_is m h w first a.server.pid (h.body.servers.living a.serial.0 a.server a.live) kind a.paged))
    where
      serial_is : a.serial ≡ sent_serial m w
      serial_is = sym (ap (λ o. unwrap_or o (serial_of 0)) a.connected)

      at : Some a.server ≡ server_at m (send_cid w)
      at = sym (ap (λ o. option_and_then (λ (serial : Serial). m.servers serial.0) o) a.connected ∙ a.live)

  -- ---- what the tests leave true

  arrival_is : (server : Server) → server_at m (send_cid w) ≡ Some server
      → arrival m w ≡ least_run m.processes m.ledger server.pid MessageWindow (sent_pages w)
  unfolding arrival
  arrival_is server e = ap (option_and_then (message_run m (sent_pages w))) e

  served_keeps : (is_none (server_at m (send_cid w)) ≡ false) → (o : Option MsgKind) → is_none o ≡ false
      → option_map_or carries_pages o false && is_bad_range (send_address w) (send_length w) ≡ false
      → option_map_or carries_pages o false && any_free m.processes m.ledger (caller_place m (send_address w)) (sent_pages w) ≡ false
      → option_map_or carries_pages o false
      && any_not_sent m.processes m.ledger (caller_place m (send_address w)) (sent_pages w) (option_map_or is_lend_mut o false) ≡ false
      → is_full_for m w ≡ false → option_map_or carries_pages o false && is_none (arrival m w) ≡ false
      → ((kind : MsgKind) → o ≡ Some kind → is_answered kind ≡ true → (m.cursor.tid.0 == 1) ≡ false)
      → Keeps m (Served (sent m (unwrap_or o Scalar) w (unwrap_or (arrival m w) (record { 0 = 0 }))))
  served_keeps there None known range used sendable full found above = absurd (false≢true (sym known))
  served_keeps there (Some kind) known range used sendable full found above =
      accepted_keeps kind (unwrap_or (arrival m w) (record { 0 = 0 })) (record {
        serial = s.0;
        server = s.1;
        connected = s.2;
        live = s.3;
        room = sym (ap is_full at) ∙ full;
        paged = λ carries. record {
          range = and_false (carries_pages kind) _ range carries;
          there = and_false (carries_pages kind) _ used carries;
          sendable = and_false (carries_pages kind) _ sendable carries;
          free = sym (arrival_is s.1 at)
              ∙ is_there (arrival m w) (record { 0 = 0 }) (and_false (carries_pages kind) (is_none (arrival m w)) found carries);
        };
        above = above kind refl;
      })
    where
      s : (serial : Serial) × (server : Server) × (connected_to (own_connections m) (send_cid w) ≡ Some serial) × (m.servers serial.0 ≡ Some server)
      s = server_there m (connected_to (own_connections m) (send_cid w)) there

      at : server_at m (send_cid w) ≡ Some s.1
      at = ap (λ o. option_and_then (λ (serial : Serial). m.servers serial.0) o) s.2 ∙ s.3

  abbrev pub MayWait : Type 0
  MayWait = (kind : MsgKind) → named_kind w ≡ Some kind → is_answered kind ≡ true → (m.cursor.tid.0 == 1) ≡ false

  sent_to_keeps : (rest : List (Bool × XousError)) → first_refusal (send_refusals m w ++ rest) ≡ None → is_full_for m w ≡ false → MayWait
      → Keeps m (sent_to m w (arrival m w))
  sent_to_keeps rest none full above =
      unless_refused_keeps m h (arrival_refusals w (arrival m w)) (Served (send_served m w (arrival m w))) (λ found.
      let p =
      five_passed (is_none (server_at m (send_cid w))) (is_none (named_kind w))
      (sends_pages w && is_bad_range (send_address w) (send_length w))
      (sends_pages w && any_free m.processes m.ledger (caller_place m (send_address w)) (sent_pages w))
      (sends_pages w && any_not_sent m.processes m.ledger (caller_place m (send_address w)) (sent_pages w) (sends_lend_mut w))
      ServerNotFound InvalidSyscall BadAlignment BadAddress ShareViolation rest none in
      served_keeps p.0 (named_kind w) p.1 p.2 p.3 p.4 full (one_passed (sends_pages w && is_none (arrival m w)) MemoryInUse found) above)

  -- ---- the calls

  pub send_keeps : MayWait → Keeps m (send_call m w)
  unfolding send_call
  send_keeps above =
      unless_refused_keeps m h (send_refusals m w) (unless_retried (is_full_for m w) (sent_to m w (arrival m w))) (λ none.
      go (is_full_for m w) refl none)
    where
      go : (b : Bool) → is_full_for m w ≡ b → first_refusal (send_refusals m w) ≡ None
          → Keeps m (unless_retried b (sent_to m w (arrival m w)))
      go true full none = retried_keeps m h
      go false full none = sent_to_keeps [] none full above

  pub try_send_keeps : MayWait → Keeps m (try_send_call m w)
  unfolding try_send_call
  try_send_keeps above =
      unless_refused_keeps m h (send_refusals m w ++ (is_full_for m w, ServerQueueFull) ∷ []) (sent_to m w (arrival m w)) (λ none.
      let p =
      five_passed (is_none (server_at m (send_cid w))) (is_none (named_kind w))
      (sends_pages w && is_bad_range (send_address w) (send_length w))
      (sends_pages w && any_free m.processes m.ledger (caller_place m (send_address w)) (sent_pages w))
      (sends_pages w && any_not_sent m.processes m.ledger (caller_place m (send_address w)) (sent_pages w) (sends_lend_mut w))
      ServerNotFound InvalidSyscall BadAlignment BadAddress ShareViolation ((is_full_for m w, ServerQueueFull) ∷ []) none in
      sent_to_keeps ((is_full_for m w, ServerQueueFull) ∷ []) none (one_passed (is_full_for m w) ServerQueueFull p.5) above)

  pub send_number_keeps : call_number w ≡ 16 → Keeps m (call m w)
  send_number_keeps e =
      call_keeps m h ready w 16 e (λ none. send_keeps (λ kind named answered.
      not_handler m w none (rw e refl)))

  pub try_send_number_keeps : call_number w ≡ 24 → Keeps m (call m w)
  try_send_number_keeps e =
      call_keeps m h ready w 24 e (λ none. try_send_keeps (λ kind named answered.
      not_handler m w none (rw e (waiting_kind (send_kind w) kind named answered))))
