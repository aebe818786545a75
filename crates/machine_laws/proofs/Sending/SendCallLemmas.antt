-- SendMessage and TrySendMessage of all five kinds keep the machine matched, whether the message is received at once or queued.
use Rattle.std.proofs.Common.{◌≡◌, ◌≢◌, ℕ, ◌+◌, ◌/◌, ◌≤◌, Bool, true, false, List, [], ◌∷◌, ◌++◌, append_assoc, length, length-append, Option, Some, None, refl, sym, ap, ◌∙◌, arith, subst}
use Rattle.std.specs.Prelude.{◌==◌, if◌then◌else◌, is_some, nat_eq}
use Rattle.std.specs.List.{All}
use Rattle.std.specs.Option.{option_map}
use Rattle.std.proofs.lemmas.Bool.{eqb-false}
use Rattle.std.proofs.lemmas.List.{append-nil}
use Rattle.std.proofs.lemmas.List.Elements.{All-append, All-cons, All-nil}
use Rattle.std.proofs.lemmas.Option.{none-some}
use Rattle.xk_base.specs.declared.ids.Serial.{Serial}
use Rattle.xk_base.specs.declared.ids.ThreadId.{ThreadId}
use Rattle.xk_base.specs.declared.ids.Vpn.{Vpn}
use Rattle.xk_base.specs.declared.limits.TheConstants.{MESSAGE_LIMIT, PAGE_SIZE}
use Rattle.xk_base.specs.declared.messages.Message.{Message}
use Rattle.xk_base.specs.declared.messages.MsgKind.{MsgKind}
use Rattle.syscall_codec.specs.CallWords.{send_length}
use Rattle.xk_base.specs.Tables.Circle.{same_thread}
use Rattle.xk_base.specs.Tables.Counting.{put_at}
use Rattle.syscall_codec.specs.ReplyWords.{message_words}
use Rattle.ledger_model.specs.Ledger.{Ledger}
use Rattle.xk_base.specs.Calls.Kinds.{is_answered}
use Rattle.machine_model.specs.Messaging.Messages.{new_message, new_number, with_queued, with_received}
use Rattle.machine_model.specs.Messaging.Receivers.{receiver}
use Rattle.machine_model.specs.Messaging.SendCalls.{arrived, sender_answered, sender_left}
use Rattle.machine_model.specs.Runs.Matched.{IsHoldable, IsQueueable, Matched}
use Rattle.machine_model.specs.State.Changes.{Change, Served, call_settled, settled}
use Rattle.machine_model.specs.State.Machine.{Machine, Server, Thread, Receiving, Waiting}
use Rattle.machine_model.specs.State.Order.{ready_at}
use Rattle.machine_model.specs.State.Servers.{messages_of, slots_used}
use Rattle.machine_model.specs.State.Threads.{both_answers, passed, with_answer, with_state}
use Rattle.machine_model.proofs.Matching.CountLemmas.{HasMore, more_all}
use Rattle.machine_laws.proofs.Calling.AnsweredCallLemmas.{Keeps}
use Rattle.machine_laws.proofs.Messaging.OneServerLemmas.{now}
use Rattle.machine_laws.proofs.Messaging.PutThreadLemmas.{AreMatchedAlone, put}
use Rattle.machine_laws.proofs.Sending.SentLedgerLemmas.{IsSentLedger}
use Rattle.machine_laws.proofs.Sending.SentMessageLemmas.{IsTaken, sent_matched, taken_away, taken_in}
use Rattle.machine_laws.proofs.Sending.SentReceiverLemmas.{none_receives, receiver_receives}
use Rattle.machine_laws.proofs.Sending.SentThreadLemmas.{receiver_gets, sender_next, sent_alone, sent_receives, sent_threads, sent_waits}
use Rattle.machine_laws.proofs.Threading.ThreadAnswerLemmas.{IsReadyThread, ready_thread, same_thread-self}

-- ---- the change, by what is found

-- the message arrives, with that ledger, and its sender waits or is answered
abbrev pub arrives : Bool → Option ThreadId → Machine → Serial → Message → Ledger → Change
arrives b o m serial x l =
    let left = arrived o serial x (sender_left b (new_number m) (record m { ledger = l; next_number = m.next_number + 1 })) in
    record left { answers = both_answers left.answers (sender_answered b m.cursor) }

-- what the server becomes
abbrev server_then : Option ThreadId → Message → Server → Server
server_then None x server = with_queued x server
server_then (Some who) x server = with_received x server

-- the threads before the caller is past its call
abbrev threads_left : Bool → Machine → ThreadId → Option Thread
threads_left true m = put_at same_thread m.threads m.cursor (option_map (with_state (Waiting (new_number m))) (m.threads m.cursor))
threads_left false m = m.threads

abbrev then_machine : Bool → Option ThreadId → Machine → Serial → Message → Ledger → Machine
then_machine b o m serial x l = record m {
  ledger = l;
  threads = λ id. option_map (with_answer (both_answers (receiver_gets (message_words x) o) (sender_answered b m.cursor) id))
      (put_at same_thread (threads_left b m) m.cursor (option_map passed (threads_left b m m.cursor)) id);
  servers = put_at nat_eq m.servers serial.0 (option_map (server_then o x) (m.servers serial.0));
  next_number = m.next_number + 1;
  steps = m.steps + 1;
}

settles_then : (b : Bool) (o : Option ThreadId) (m : Machine) (serial : Serial) (x : Message) (l : Ledger)
    → Matched (then_machine b o m serial x l) → Keeps m (Served (arrives b o m serial x l))
unfolding call_settled settled
settles_then true None m serial x l h = h
settles_then true (Some who) m serial x l h = h
settles_then false None m serial x l h = h
settles_then false (Some who) m serial x l h = h

-- the caller is past its call
next_thread : (b : Bool) (m : Machine) (t : Thread) → m.threads m.cursor ≡ Some t → (id : ThreadId)
    → put m.threads m.cursor (sender_next b (new_number m) t) id
    ≡ put_at same_thread (threads_left b m) m.cursor (option_map passed (threads_left b m m.cursor)) id
next_thread true m t e id = go (same_thread id m.cursor)
  where
    here : option_map passed (threads_left true m m.cursor) ≡ Some (sender_next true (new_number m) t)
    here =
        ap (λ b. option_map passed (if b then option_map (with_state (Waiting (new_number m))) (m.threads m.cursor) else m.threads m.cursor))
        (same_thread-self m.cursor)
        ∙ ap (λ o. option_map passed (option_map (with_state (Waiting (new_number m))) o)) e

    go : (q : Bool) → (if q then Some (sender_next true (new_number m) t) else m.threads id)
        ≡ (if q then option_map passed (threads_left true m m.cursor)
        else (if q then option_map (with_state (Waiting (new_number m))) (m.threads m.cursor) else m.threads id))
    go true = sym here
    go false = refl
next_thread false m t e id = λ i. if same_thread id m.cursor then option_map passed (sym e i) else m.threads id

-- ---- lists with the message

all_queued : (P : Message → Type 0) (x : Message) (xs : List Message) → P x → All P xs → All P (xs ++ x ∷ [])
all_queued P x xs here all = All-append P xs (x ∷ []) all (All-cons P x [] here (All-nil P))

queued_more : (x : Message) (queued held : List Message) → HasMore (queued ++ held) ((queued ++ x ∷ []) ++ held) x
queued_more x queued held = record { before = queued; behind = held; less = refl; more = append_assoc queued (x ∷ []) held }

held_more : (x : Message) (queued held : List Message) → HasMore (queued ++ held) (queued ++ (held ++ x ∷ [])) x
held_more x queued held = record {
  before = queued ++ held;
  behind = [];
  less = sym (append-nil (queued ++ held));
  more = sym (append_assoc queued held (x ∷ []));
}

-- ---- a send to a server with a free slot

module _ (m : Machine) (h : Matched m) (ready : ready_at m m.cursor ≡ true) (w : List ℕ) (kind : MsgKind) (first : Vpn) (serial : Serial)
    (server : Server) (e : m.servers serial.0 ≡ Some server) (room : (slots_used server == MESSAGE_LIMIT) ≡ false)
    (above : is_answered kind ≡ true → (m.cursor.tid.0 == 1) ≡ false) (l : Ledger)
    (ledger : IsSentLedger m server.pid (new_message m kind w first) l) where
  abbrev x : Message
  x = new_message m kind w first

  r : IsReadyThread m m.cursor
  r = ready_thread m m.cursor ready

  alone : AreMatchedAlone m.processes m.process m.threads
  alone = record { joiners = h.body.joiners; threads = h.body.threads; ids = h.body.ids }

  below : slots_used server + 1 ≤ MESSAGE_LIMIT
  below =
      let most : slots_used server ≤ MESSAGE_LIMIT = h.body.servers.slots serial.0 server e in
      let other : slots_used server ≢ MESSAGE_LIMIT = eqb-false (slots_used server) MESSAGE_LIMIT room in
      omega (arith, most, other)

  queueable : IsQueueable x
  queueable = go (is_answered kind)
    where
      go : (b : Bool) → is_some {T = ThreadId} (if b then Some m.cursor else None) ≡ b
      go true = refl
      go false = refl

  module _ (o : Option ThreadId)
      (receives : (who : ThreadId) → o ≡ Some who → (u : Thread) × (m.threads who ≡ Some u) × (u.state ≡ Receiving serial)) where
    abbrev threads_then : ThreadId → Option Thread
    threads_then =
        sent_threads m.processes m.process m.threads alone m.cursor r.thread r.there r.ready (is_answered kind) above (new_number m)
        (message_words x) o serial receives

    -- the machine after the send, where these are its servers
    abbrev then_with : (ℕ → Option Server) → Machine
    then_with servers = record m {
      ledger = l;
      threads = threads_then;
      servers = servers;
      next_number = m.next_number + 1;
      steps = m.steps + 1;
    }

    with_lists : (queued held : List Message) → IsTaken m.servers (now m.servers serial.0 server e queued held) x → All IsQueueable queued
        → All IsHoldable held → length queued + length held ≤ MESSAGE_LIMIT
        → ((id : ThreadId) (v : Thread) (at : Serial) → m.threads id ≡ Some v → v.state ≡ Receiving at → at.0 ≡ serial.0
        → server.queued ≡ [] → queued ≡ [])
        → ((P : Message → Type 0) → P x → All P (messages_of server) → All P (queued ++ held))
        → Matched (then_with (now m.servers serial.0 server e queued held))
    with_lists queued held taken q d slots still all = sent_matched m h serial.0 server e x queued held threads_then l (record {
      numbered = refl;
      unanswered = λ never i. if never i then Some m.cursor else None;
      sized = λ none. ((λ i. if none i then first.0 else 0), (λ i. if none i then send_length w / PAGE_SIZE else 0));
      taken = taken;
      queueable = q;
      holdable = d;
      slots = slots;
      alone = sent_alone m.processes m.process m.threads alone m.cursor r.thread r.there r.ready (is_answered kind) above (new_number m)
          (message_words x) o serial receives;
      waits = sent_waits m.processes m.process m.threads alone m.cursor r.thread r.there r.ready (is_answered kind) above (new_number m)
          (message_words x) o serial receives;
      receives = sent_receives m.processes m.process m.threads alone m.cursor r.thread r.there r.ready (is_answered kind) above (new_number m)
          (message_words x) o serial receives;
      still = still;
      ledger = ledger;
    }) all

    -- .. is the machine of the call
    moved_to : (queued held : List Message) → server_then o x server ≡ record server { queued = queued; held = held }
        → Matched (then_with (now m.servers serial.0 server e queued held))
        → Matched (then_machine (is_answered kind) o m serial x l)
    moved_to queued held same f = subst Matched (λ i. record m {
      ledger = l;
      threads = λ id. option_map (with_answer (both_answers (receiver_gets (message_words x) o) (sender_answered (is_answered kind) m.cursor) id))
          (next_thread (is_answered kind) m r.thread r.there id i);
      servers = put_at nat_eq m.servers serial.0 ((sym (ap (option_map (server_then o x)) e ∙ ap Some same)) i);
      next_number = m.next_number + 1;
      steps = m.steps + 1;
    }) f

  -- nobody is Receiving: it is queued
  queued_then : receiver m serial ≡ None → Matched (then_machine (is_answered kind) None m serial x l)
  queued_then none =
      moved_to None receives (server.queued ++ x ∷ []) server.held refl
      (with_lists None receives (server.queued ++ x ∷ []) server.held
      (taken_in m h serial.0 server e x (server.queued ++ x ∷ []) server.held more)
      (all_queued IsQueueable x server.queued queueable (h.body.senders.queued serial.0 server e))
      (h.body.senders.held serial.0 server e)
      (let size : length (server.queued ++ x ∷ []) ≡ length server.queued + 1 = length-append server.queued (x ∷ []) in
      let low : length server.queued + length server.held + 1 ≤ MESSAGE_LIMIT = below in
      omega (arith, size, low))
      (λ id v at there s same.
      absurd (none_receives m serial none id (h.body.ids.known id v there) v there (s ∙ (λ i. Receiving (record { 0 = same i })))))
      (λ P here all. more_all (messages_of server) ((server.queued ++ x ∷ []) ++ server.held) x more P here all))
    where
      receives : (who : ThreadId) → None ≡ Some who → (u : Thread) × (m.threads who ≡ Some u) × (u.state ≡ Receiving serial)
      receives who q = absurd (none-some who q)

      more : HasMore (messages_of server) ((server.queued ++ x ∷ []) ++ server.held) x
      more = queued_more x server.queued server.held

  -- a thread is Receiving: it gets the message
  received_then : (who : ThreadId) → receiver m serial ≡ Some who → Matched (then_machine (is_answered kind) (Some who) m serial x l)
  received_then who some =
      moved_to (Some who) receives server.queued (if is_answered kind then server.held ++ x ∷ [] else server.held) refl
      (by_answer (is_answered kind) refl)
    where
      receives : (id : ThreadId) → Some who ≡ Some id → (u : Thread) × (m.threads id ≡ Some u) × (u.state ≡ Receiving serial)
      receives id q = receiver_receives m serial id (some ∙ q)

      more : HasMore (messages_of server) (server.queued ++ (server.held ++ x ∷ [])) x
      more = held_more x server.queued server.held

      by_answer : (b : Bool) → is_answered kind ≡ b
          → Matched (then_with (Some who) receives
          (now m.servers serial.0 server e server.queued (if b then server.held ++ x ∷ [] else server.held)))
      by_answer true q =
          with_lists (Some who) receives server.queued (server.held ++ x ∷ [])
          (taken_in m h serial.0 server e x server.queued (server.held ++ x ∷ []) more)
          (h.body.senders.queued serial.0 server e)
          (all_queued IsHoldable x server.held q (h.body.senders.held serial.0 server e))
          (let size : length (server.held ++ x ∷ []) ≡ length server.held + 1 = length-append server.held (x ∷ []) in
          let low : length server.queued + length server.held + 1 ≤ MESSAGE_LIMIT = below in
          omega (arith, size, low))
          (λ id v at there s same f. f)
          (λ P here all. more_all (messages_of server) (server.queued ++ (server.held ++ x ∷ [])) x more P here all)
      by_answer false q =
          with_lists (Some who) receives server.queued server.held
          (taken_away m h serial.0 server e x q)
          (h.body.senders.queued serial.0 server e)
          (h.body.senders.held serial.0 server e)
          (h.body.servers.slots serial.0 server e)
          (λ id v at there s same f. f)
          (λ P here all. all)

  pub arrives_keeps : Keeps m (Served (arrives (is_answered kind) (receiver m serial) m serial x l))
  arrives_keeps = settles_then (is_answered kind) (receiver m serial) m serial x l (go (receiver m serial) refl)
    where
      go : (o : Option ThreadId) → receiver m serial ≡ o → Matched (then_machine (is_answered kind) o m serial x l)
      go None q = queued_then q
      go (Some who) q = received_then who q
