-- The steps of ReceiveMessage and TryReceiveMessage keep the machine matched: refused, served with a message, and without one.
use Rattle.std.proofs.Common.{◌≡◌, ℕ, Bool, true, false, List, [], ◌∷◌, ◌++◌, Option, Some, None, refl, sym, ap, ◌∙◌, arith, subst}
use Rattle.std.specs.Prelude.{◌==◌, drop, if◌then◌else◌, nat_eq, not, unwrap_or}
use Rattle.std.specs.Option.{option_and_then, option_map}
use Rattle.std.proofs.lemmas.Bool.{eqb-true, false≢true}
use Rattle.xk_base.specs.declared.errors.XousError.TheVariants.{ServerNotFound}
use Rattle.xk_base.specs.declared.ids.Serial.{Serial}
use Rattle.xk_base.specs.declared.messages.Message.{Message}
use Rattle.syscall_codec.specs.CallWords.{call_number}
use Rattle.xk_base.specs.Tables.Counting.{put_at}
use Rattle.syscall_codec.specs.ReplyWords.{message_words, plain_words}
use Rattle.machine_model.specs.Calling.Calls.{call}
use Rattle.machine_model.specs.Calling.ServerCalls.{named_sid, own_server_refusals}
use Rattle.xk_base.specs.Calls.Kinds.{is_answered}
use Rattle.machine_model.specs.Messaging.Messages.{oldest, with_received, without_oldest}
use Rattle.machine_model.specs.Messaging.ReceiveCalls.{oldest_queued, receive_call, receive_served, received, try_receive_call, try_receive_served, waits_at}
use Rattle.machine_model.specs.Runs.Matched.{Matched}
use Rattle.machine_model.specs.State.Changes.{Change, Served, answering, first_refusal, unless_refused}
use Rattle.machine_model.specs.State.Machine.{Machine, Server}
use Rattle.machine_model.specs.State.Order.{ready_at}
use Rattle.xk_base.specs.Tables.Sids.{serial_of}
use Rattle.machine_model.specs.State.Servers.{change_server, is_own, is_server_of, with_sid}
use Rattle.machine_model.specs.State.Threads.{answer_to}
use Rattle.xk_base.specs.declared.ids.Sid.{Sid}
use Rattle.machine_laws.proofs.Calling.AnsweredCallLemmas.{Keeps}
use Rattle.machine_laws.proofs.Calling.RunRefusalLemmas.{not_false}
use Rattle.machine_laws.proofs.Calling.ThreadCallLemmas.{answered_keeps, call_keeps, not_handler, one_passed, unless_refused_keeps}
use Rattle.machine_laws.proofs.Messaging.OneServerLemmas.{now}
use Rattle.machine_laws.proofs.Receiving.ReceiveWaitLemmas.{wait_keeps}
use Rattle.machine_laws.proofs.Receiving.ReceivedMessageLemmas.{gone_matched, held_matched}

-- the server of the caller's process
record IsOwnServer (m : Machine) (serial : Serial) : Type 0 where
  server : Server
  live : m.servers serial.0 ≡ Some server
  own : server.pid ≡ m.cursor.pid

own_server : (m : Machine) (serial : Serial) → is_server_of m.cursor.pid (m.servers serial.0) ≡ true → IsOwnServer m serial
own_server m serial e = go (m.servers serial.0) refl e
  where
    go : (o : Option Server) → m.servers serial.0 ≡ o → is_server_of m.cursor.pid o ≡ true → IsOwnServer m serial
    go None q f = absurd (false≢true f)
    go (Some server) q f =
        let same : server.pid.0 ≡ m.cursor.pid.0 = eqb-true server.pid.0 m.cursor.pid.0 f in
        record { server = server; live = q; own = λ i. record { 0 = same i } }

module _ (m : Machine) (h : Matched m) (ready : ready_at m m.cursor ≡ true) where
  -- ---- with a message

  module _ (serial : Serial) (server : Server) (e : m.servers serial.0 ≡ Some server) (x : Message) (rest : List Message)
      (queue : server.queued ≡ x ∷ rest) where
    by_answer : (b : Bool) → is_answered x.kind ≡ b
        → Matched (record m { servers = now m.servers serial.0 server e rest (if b then server.held ++ x ∷ [] else server.held) })
    by_answer true q = held_matched m h serial.0 server e x rest queue q
    by_answer false q = gone_matched m h serial.0 server e x rest queue q

    left_matched : Matched (change_server serial (λ y. with_received x (without_oldest y)) m)
    left_matched = subst (λ s. Matched (record m { servers = s })) (λ i. put_at nat_eq m.servers serial.0 (is i)) (by_answer (is_answered x.kind) refl)
      where
        is : Some (record server { queued = rest; held = if is_answered x.kind then server.held ++ x ∷ [] else server.held })
            ≡ option_map (λ y. with_received x (without_oldest y)) (m.servers serial.0)
        is =
            (λ i. Some (record server {
              queued = sym (ap (drop 1) queue) i;
              held = if is_answered x.kind then server.held ++ x ∷ [] else server.held;
            }))
            ∙ sym (ap (option_map (λ y. with_received x (without_oldest y))) e)

    message_keeps : Keeps m (Served (answering (answer_to m.cursor (message_words x)) (change_server serial (λ y. with_received x (without_oldest y)) m)))
    message_keeps =
        answered_keeps m (change_server serial (λ y. with_received x (without_oldest y)) m) (message_words x) left_matched ready (omega arith)

  -- with a message, or without one, which the queue tells
  received_keeps : (serial : Serial) (otherwise : Change) (own : IsOwnServer m serial) → (own.server.queued ≡ [] → Keeps m (Served otherwise))
      → Keeps m (Served (received m serial (oldest_queued m serial) otherwise))
  received_keeps serial otherwise own without =
      subst (λ o. Keeps m (Served (received m serial o otherwise)))
      (sym (ap (option_and_then (λ (server : Server). oldest server.queued)) own.live)) (go own.server.queued refl)
    where
      go : (xs : List Message) → own.server.queued ≡ xs → Keeps m (Served (received m serial (oldest xs) otherwise))
      go [] q = without q
      go (x ∷ rest) q = message_keeps serial own.server own.live x rest q

  -- ---- the calls

  served_keeps : (otherwise : Serial → Change) (o : Option Serial) → is_own m o ≡ true
      → ((serial : Serial) (own : IsOwnServer m serial) → own.server.queued ≡ [] → Keeps m (Served (otherwise serial)))
      → Keeps m (Served (received m (unwrap_or o (serial_of 0)) (oldest_queued m (unwrap_or o (serial_of 0))) (otherwise (unwrap_or o (serial_of 0)))))
  served_keeps otherwise None q without = absurd (false≢true q)
  served_keeps otherwise (Some serial) q without =
      let own : IsOwnServer m serial = own_server m serial q in
      received_keeps serial (otherwise serial) own (without serial own)

  -- by the identifier that they name
  module _ (sid : Sid) where
    is_callers : first_refusal (own_server_refusals m sid) ≡ None → is_own m (with_sid m sid) ≡ true
    is_callers none = not_false (is_own m (with_sid m sid)) (one_passed (not (is_own m (with_sid m sid))) ServerNotFound none)

    pub receive_named_keeps : (m.cursor.tid.0 == 1) ≡ false → Keeps m (unless_refused (own_server_refusals m sid) (Served (receive_served m sid)))
    receive_named_keeps above =
        unless_refused_keeps m h (own_server_refusals m sid) (Served (receive_served m sid)) (λ none.
        served_keeps (λ serial. waits_at serial m) (with_sid m sid) (is_callers none) (λ serial own empty.
        wait_keeps m h ready serial above (record { server = own.server; live = own.live; own = own.own; empty = empty })))

    pub try_receive_named_keeps : Keeps m (unless_refused (own_server_refusals m sid) (Served (try_receive_served m sid)))
    try_receive_named_keeps =
        unless_refused_keeps m h (own_server_refusals m sid) (Served (try_receive_served m sid)) (λ none.
        served_keeps (λ serial. answering (answer_to m.cursor plain_words) m) (with_sid m sid) (is_callers none) (λ serial own empty.
        answered_keeps m m plain_words h ready (omega arith)))

  module _ (w : List ℕ) where
    receive_keeps : (m.cursor.tid.0 == 1) ≡ false → Keeps m (receive_call m w)
    unfolding receive_call
    receive_keeps above = receive_named_keeps (named_sid w) above

    try_receive_keeps : Keeps m (try_receive_call m w)
    unfolding try_receive_call
    try_receive_keeps = try_receive_named_keeps (named_sid w)

    pub receive_number_keeps : call_number w ≡ 15 → Keeps m (call m w)
    receive_number_keeps e = call_keeps m h ready w 15 e (λ none. receive_keeps (not_handler m w none (rw e refl)))

    pub try_receive_number_keeps : call_number w ≡ 28 → Keeps m (call m w)
    try_receive_number_keeps e = call_keeps m h ready w 28 e (λ none. try_receive_keeps)
