-- The step of a ForwardMessage keeps the machine matched, served or refused.
use Rattle.std.proofs.Common.{◌≡◌, ◌≢◌, append-nil, append_assoc, ℕ, ◌+◌, ◌≤◌, Bool, true, false, List, [], ◌∷◌, ◌++◌, filter, length, Option, Some, None, refl, sym, ap, ◌∙◌, arith, subst}
use Rattle.std.specs.Prelude.{◌==◌, ◌&&◌, find, if◌then◌else◌, is_none, is_some, nat_eq, unwrap_or}
use Rattle.std.specs.List.{All}
use Rattle.std.specs.Option.{option_and_then, option_map, option_map_or, option_or}
use Rattle.std.proofs.lemmas.Bool.{and_parts, eq-eqb, eqb-true, false≢true}
use Rattle.std.proofs.lemmas.List.{length-append}
use Rattle.std.proofs.lemmas.List.Elements.{All-append, All-cons, All-nil}
use Rattle.std.proofs.lemmas.Option.{none-some, same_Some}
use Rattle.xk_base.specs.declared.errors.XousError.TheVariants.{MemoryInUse, ServerNotFound, ServerQueueFull, InvalidSyscall, DoubleFree}
use Rattle.xk_base.specs.declared.ids.Number.{Number}
use Rattle.xk_base.specs.declared.ids.Place.{Place}
use Rattle.xk_base.specs.declared.ids.Serial.{Serial}
use Rattle.xk_base.specs.declared.ids.ThreadId.{ThreadId}
use Rattle.xk_base.specs.declared.ids.Vpn.{Vpn}
use Rattle.xk_base.specs.declared.limits.TheConstants.{MESSAGE_LIMIT}
use Rattle.xk_base.specs.declared.messages.Message.{Message}
use Rattle.syscall_codec.specs.CallNumbers.{forward_message}
use Rattle.syscall_codec.specs.CallWords.{forward_cid}
use Rattle.xk_base.specs.Tables.Circle.{same_thread}
use Rattle.xk_base.specs.Tables.Counting.{least_below, put_at}
use Rattle.syscall_codec.specs.ReplyWords.{message_words, plain_words}
use Rattle.xk_base.proofs.CountingLemmas.{least_below-passes}
use Rattle.ledger_model.specs.Steps.{pass}
use Rattle.machine_model.specs.Messaging.ForwardCalls.{are_one_server, forward_call, forward_refusals, forward_served, forward_served_if, forwarded_to, held_place, is_passable_of, next_arrival, next_arrival_refusals, passable, passed_from, passed_message, passed_number, passed_place, passed_to, with_first}
use Rattle.xk_base.specs.Calls.Kinds.{is_answered}
use Rattle.machine_model.specs.Messaging.Messages.{is_lend, is_lend_of, is_of_number, with_queued, with_received, without_held}
use Rattle.machine_model.specs.Messaging.Receivers.{receiver}
use Rattle.machine_model.specs.Messaging.ReturnCalls.{held_at, holder_of, holds}
use Rattle.machine_model.specs.Messaging.SendCalls.{arrived, message_run}
use Rattle.machine_model.specs.Runs.Matched.{IsHoldable, IsQueueable, Matched, is_living}
use Rattle.machine_model.specs.State.Changes.{Change, Served, call_settled, first_refusal, settled}
use Rattle.machine_model.specs.State.Machine.{Machine, Server, Thread, Receiving}
use Rattle.machine_model.specs.State.Order.{is_ready, ready_at}
use Rattle.xk_base.specs.Tables.Sids.{serial_of}
use Rattle.machine_model.specs.State.Servers.{change_server, is_full, is_server_of, messages_of, server_at, slots_used}
use Rattle.machine_model.specs.State.Threads.{Answers, answer_to, both_answers, no_answers, passed, with_answer}
use Rattle.machine_model.proofs.Matching.CountLemmas.{HasMore}
use Rattle.machine_laws.proofs.Calling.AnsweredCallLemmas.{Keeps}
use Rattle.machine_laws.proofs.Calling.CallStepLemmas.{of_call}
use Rattle.machine_laws.proofs.Returning.GivenBackLemmas.{found_at}
use Rattle.machine_laws.proofs.Calling.RunRefusalLemmas.{none_holds}
use Rattle.machine_laws.proofs.Calling.ThreadCallLemmas.{one_passed, unless_refused_keeps}
use Rattle.machine_laws.proofs.Calling.CallRowLemmas.{KeepsNumber}
use Rattle.machine_laws.proofs.Messaging.AnsweredThreadLemmas.{answered}
use Rattle.machine_laws.proofs.Forwarding.ForwardedListLemmas.{others_of}
use Rattle.machine_laws.proofs.Forwarding.ForwardedMessageLemmas.{IsPassed, forwarded, forwarded_matched, lend_carries}
use Rattle.machine_laws.proofs.Messaging.MessageRunLemmas.{run_free, run_lies}
use Rattle.machine_laws.proofs.Messaging.OneServerLemmas.{now_elsewhere}
use Rattle.machine_laws.proofs.Sending.SentReceiverLemmas.{none_receives, receiver_receives}
use Rattle.machine_laws.proofs.Threading.ThreadAnswerLemmas.{IsReadyThread, answered_matched, ready_thread}
use Rattle.machine_laws.proofs.Threading.ThreadMoveLemmas.{matched_later}
use Rattle.machine_laws.proofs.Threading.ThreadPutLemmas.{alike}

-- ---- what the tests tell

-- What a forward that nothing refuses finds: the server of the caller's process that holds the message, the other server, with a free
-- slot, and a free run of places there.
record IsForward (m : Machine) (number : Number) (cid : ℕ) (first : Vpn) : Type 0 where
  from : Serial
  holder : holder_of m (is_passable_of number) ≡ Some from
  a : Server
  from_live : m.servers from.0 ≡ Some a
  own : a.pid ≡ m.cursor.pid
  x : Message
  found : find (is_passable_of number) a.held ≡ Some x
  to : Serial
  leads : passed_to m cid ≡ Some to
  b : Server
  to_live : m.servers to.0 ≡ Some b
  apart : to.0 ≢ from.0
  room : (slots_used b == MESSAGE_LIMIT) ≡ false
  run : message_run m x.count b ≡ Some first

module _ (m : Machine) (number : Number) (cid : ℕ) where
  abbrev count_of : Option Message → ℕ
  count_of o = option_map_or (λ (message : Message). message.count) o 0

  -- the holder is a server of the caller's process
  own_server : (from : Serial) (a : Server) → holder_of m (is_passable_of number) ≡ Some from → m.servers from.0 ≡ Some a → a.pid ≡ m.cursor.pid
  unfolding holder_of
  own_server from a e live = go (least_below m.next_serial passes) refl e
    where
      passes : ℕ → Bool
      passes n = is_server_of m.cursor.pid (m.servers n) && holds (is_passable_of number) (m.servers n)

      own_of : is_server_of m.cursor.pid (m.servers from.0) ≡ true → a.pid ≡ m.cursor.pid
      own_of q =
          let same : a.pid.0 ≡ m.cursor.pid.0 = eqb-true a.pid.0 m.cursor.pid.0 (sym (ap (is_server_of m.cursor.pid) live) ∙ q) in
          λ i. record { 0 = same i }

      go : (o : Option ℕ) → least_below m.next_serial passes ≡ o → option_map serial_of o ≡ Some from → a.pid ≡ m.cursor.pid
      go None q r = absurd (none-some from r)
      go (Some n) q r =
          let at : n ≡ from.0 = ap (λ (s : Serial). s.0) (same_Some (serial_of n) from r) in
          let both = and_parts (is_server_of m.cursor.pid (m.servers n)) (holds (is_passable_of number) (m.servers n))
          (least_below-passes m.next_serial passes n q) in
          own_of (subst (λ k. is_server_of m.cursor.pid (m.servers k) ≡ true) at both.0)

  by_servers : (first : Vpn) (from : Serial) → holder_of m (is_passable_of number) ≡ Some from → (to : Serial) → passed_to m cid ≡ Some to
      → (from.0 == to.0) ≡ false → (c : Option Server) → m.servers from.0 ≡ c → (d : Option Server) → m.servers to.0 ≡ d
      → is_none (option_and_then (λ server. find (is_passable_of number) server.held) c) ≡ false → is_none d ≡ false → is_full d ≡ false
      → option_and_then (message_run m (count_of (option_and_then (λ server. find (is_passable_of number) server.held) c))) d ≡ Some first
      → IsForward m number cid first
  by_servers first from e to f other None q d r s t u v = absurd (false≢true (sym s))
  by_servers first from e to f other (Some a) q None r s t u v = absurd (false≢true (sym t))
  by_servers first from e to f other (Some a) q (Some b) r s t u v = by_message (find (is_passable_of number) a.held) refl s v
    where
      by_message : (o : Option Message) → find (is_passable_of number) a.held ≡ o → is_none o ≡ false
          → message_run m (count_of o) b ≡ Some first → IsForward m number cid first
      by_message None g s v = absurd (false≢true (sym s))
      by_message (Some x) g s v = record {
        from = from;
        holder = e;
        a = a;
        from_live = q;
        own = own_server from a e q;
        x = x;
        found = g;
        to = to;
        leads = f;
        b = b;
        to_live = r;
        apart = λ same. false≢true (sym other ∙ eq-eqb from.0 to.0 (sym same));
        room = u;
        run = v;
      }

  -- by the serials that are found
  by_serials : (first : Vpn) (o : Option Serial) → holder_of m (is_passable_of number) ≡ o → (p : Option Serial) → passed_to m cid ≡ p
      → is_none (option_and_then (held_at m (is_passable_of number)) o) ≡ false
      → is_none (option_and_then (λ (serial : Serial). m.servers serial.0) p) ≡ false → are_one_server o p ≡ false
      → is_full (option_and_then (λ (serial : Serial). m.servers serial.0) p) ≡ false
      → option_and_then (message_run m (count_of (option_and_then (held_at m (is_passable_of number)) o)))
      (option_and_then (λ (serial : Serial). m.servers serial.0) p) ≡ Some first
      → IsForward m number cid first
  by_serials first None e p f s t u v w = absurd (false≢true (sym s))
  by_serials first (Some from) e None f s t u v w = absurd (false≢true (sym t))
  by_serials first (Some from) e (Some to) f s t u v w = by_servers first from e to f u (m.servers from.0) refl (m.servers to.0) refl s t v w

  is_forward : (first : Vpn) → first_refusal (forward_refusals m number cid) ≡ None → next_arrival m number cid ≡ Some first → IsForward m number cid first
  unfolding next_arrival
  is_forward first none run =
      let fourth = (is_full (server_at m cid), ServerQueueFull) ∷ [] in
      let third = (are_one_server (passed_from m number) (passed_to m cid), InvalidSyscall) ∷ fourth in
      let second = (is_none (server_at m cid), ServerNotFound) ∷ third in
      let e1 = none_holds (is_none (passable m number)) DoubleFree second none in
      let e2 = none_holds (is_none (server_at m cid)) ServerNotFound third e1.1 in
      let e3 = none_holds (are_one_server (passed_from m number) (passed_to m cid)) InvalidSyscall fourth e2.1 in
      let e4 = none_holds (is_full (server_at m cid)) ServerQueueFull [] e3.1 in
      by_serials first (passed_from m number) refl (passed_to m cid) refl e1.0 e2.0 e3.0 e4.0 run

-- ---- what it leaves

-- the message gets to the other server by who receives there
abbrev passed_message_by : Machine → ℕ → Vpn → Serial → Serial → Message → Option ThreadId → Change
passed_message_by m cid first from to message o =
    let gone = change_server from (without_held message.number) m in
    let paged = record gone { ledger = pass message.number (held_place m message) (passed_place m cid first) m.ledger } in
    let left = arrived o to (with_first first message) paged in
    record left { answers = both_answers left.answers (answer_to m.cursor plain_words) }

module _ (m : Machine) (h : Matched m) (ready : ready_at m m.cursor ≡ true) (number : Number) (cid : ℕ) (first : Vpn) (is : IsForward m number cid first) where
  abbrev y : Message
  y = with_first first is.x

  -- the other server's lists, and the answer, by who receives there
  abbrev queued_now : Option ThreadId → List Message
  queued_now None = is.b.queued ++ y ∷ []
  queued_now (Some who) = is.b.queued

  abbrev held_now : Option ThreadId → List Message
  held_now None = is.b.held
  held_now (Some who) = if is_answered is.x.kind then is.b.held ++ y ∷ [] else is.b.held

  abbrev answers_now : Option ThreadId → Answers
  answers_now None = no_answers
  answers_now (Some who) = answer_to who (message_words y)

  passes : (is_lend is.x.kind ≡ true) × (is_some is.x.sender ≡ true)
  passes =
      let all : is_passable_of number is.x ≡ true = (found_at (is_passable_of number) is.a.held is.x is.found).4 in
      let parts = and_parts (is_lend_of number is.x) (is_some is.x.sender) all in
      ((and_parts (is_of_number number is.x) (is_lend is.x.kind) parts.0).1, parts.1)

  sender : (who : ThreadId) × (is.x.sender ≡ Some who)
  sender = go is.x.sender refl passes.1
    where
      go : (o : Option ThreadId) → is.x.sender ≡ o → is_some o ≡ true → (who : ThreadId) × (is.x.sender ≡ Some who)
      go None e q = absurd (false≢true q)
      go (Some who) e q = (who, e)

  is_to_answer : is_answered is.x.kind ≡ true
  is_to_answer = (lend_carries is.x.kind passes.0).1

  abbrev place : Place
  place = record { pid = is.b.pid; vpn = first }

  lives : is_living m is.b.pid ≡ true
  lives = h.body.servers.living is.to.0 is.b is.to_live

  -- ---- queued, or received

  has_room : slots_used is.b + 1 ≤ MESSAGE_LIMIT
  has_room =
      let most : slots_used is.b ≤ MESSAGE_LIMIT = h.body.servers.slots is.to.0 is.b is.to_live in
      let less : slots_used is.b ≢ MESSAGE_LIMIT = λ full. false≢true (sym is.room ∙ eq-eqb (slots_used is.b) MESSAGE_LIMIT full) in
      omega arith

  held_is : (who : ThreadId) → held_now (Some who) ≡ is.b.held ++ y ∷ []
  held_is who = ap (λ c. if c then is.b.held ++ y ∷ [] else is.b.held) is_to_answer

  more : (o : Option ThreadId) → HasMore (messages_of is.b) (queued_now o ++ held_now o) y
  more None = record { before = is.b.queued; behind = is.b.held; less = refl; more = append_assoc is.b.queued (y ∷ []) is.b.held }
  more (Some who) = record {
    before = is.b.queued ++ is.b.held;
    behind = [];
    less = sym (append-nil (is.b.queued ++ is.b.held));
    more = ap (λ zs. is.b.queued ++ zs) (held_is who) ∙ sym (append_assoc is.b.queued is.b.held (y ∷ []));
  }

  queueable : (o : Option ThreadId) → All IsQueueable (queued_now o)
  queueable None =
      All-append IsQueueable is.b.queued (y ∷ []) (h.body.senders.queued is.to.0 is.b is.to_live)
      (All-cons IsQueueable y [] (passes.1 ∙ sym is_to_answer) (All-nil IsQueueable))
  queueable (Some who) = h.body.senders.queued is.to.0 is.b is.to_live

  holdable : (o : Option ThreadId) → All IsHoldable (held_now o)
  holdable None = h.body.senders.held is.to.0 is.b is.to_live
  holdable (Some who) =
      subst (All IsHoldable) (sym (held_is who))
      (All-append IsHoldable is.b.held (y ∷ []) (h.body.senders.held is.to.0 is.b is.to_live) (All-cons IsHoldable y [] is_to_answer (All-nil IsHoldable)))

  slots : (o : Option ThreadId) → length (queued_now o) + length (held_now o) ≤ MESSAGE_LIMIT
  slots None =
      let room : slots_used is.b + 1 ≤ MESSAGE_LIMIT = has_room in
      let long : length (is.b.queued ++ y ∷ []) ≡ length is.b.queued + 1 = length-append is.b.queued (y ∷ []) in
      omega arith
  slots (Some who) =
      let room : slots_used is.b + 1 ≤ MESSAGE_LIMIT = has_room in
      let long : length (held_now (Some who)) ≡ length is.b.held + 1 = ap length (held_is who) ∙ length-append is.b.held (y ∷ []) in
      omega arith

  -- who is answered is Receiving there
  receives : (o : Option ThreadId) → receiver m is.to ≡ o → (id : ThreadId) → is_some (answers_now o id) ≡ true
      → (u : Thread) × (at : Serial) × (m.threads id ≡ Some u) × (u.state ≡ Receiving at)
  receives None e id q = absurd (false≢true q)
  receives (Some who) e id q = go (same_thread id who) refl q
    where
      go : (c : Bool) → same_thread id who ≡ c → is_some {T = List ℕ} (if c then Some (message_words y) else None) ≡ true
          → (u : Thread) × (at : Serial) × (m.threads id ≡ Some u) × (u.state ≡ Receiving at)
      go false p r = absurd (false≢true r)
      go true p r =
          let u = receiver_receives m is.to who e in
          (u.0, is.to, ap m.threads (alike id who p) ∙ u.1, u.2)

  still : (o : Option ThreadId) → receiver m is.to ≡ o → (id : ThreadId) (u : Thread) (serial : Serial) → m.threads id ≡ Some u
      → u.state ≡ Receiving serial → serial.0 ≡ is.to.0 → is.b.queued ≡ [] → queued_now o ≡ []
  still None e id u serial there s same none =
      absurd (none_receives m is.to e id (h.body.ids.known id u there) u there (s ∙ (λ i. Receiving (record { 0 = same i }))))
  still (Some who) e id u serial there s same none = none

  is_passed : (o : Option ThreadId) → receiver m is.to ≡ o
      → IsPassed m is.from.0 is.a is.x is.to.0 is.b first (queued_now o) (held_now o) (answers_now o)
  is_passed o e = record {
    from = is.from_live;
    test = is_passable_of number;
    found = is.found;
    lend = passes.0;
    sender = sender.0;
    sent = sender.1;
    to = is.to_live;
    apart = is.apart;
    free = run_free m h is.b.pid lives is.x.count first is.run;
    lies = run_lies m h is.b.pid lives is.x.count first is.run;
    more = more o;
    queueable = queueable o;
    holdable = holdable o;
    slots = slots o;
    receives = receives o e;
    still = λ id u serial there s same unanswered none. still o e id u serial there s same none;
  }

  -- ---- the caller is answered too

  caller : IsReadyThread m m.cursor
  caller = ready_thread m m.cursor ready

  -- the caller isn't the one that receives
  caller_unanswered : (o : Option ThreadId) → receiver m is.to ≡ o → answers_now o m.cursor ≡ None
  caller_unanswered o e = go (answers_now o m.cursor) refl
    where
      go : (a : Option (List ℕ)) → answers_now o m.cursor ≡ a → a ≡ None
      go None q = refl
      go (Some words) q =
          let u = receives o e m.cursor (ap is_some q) in
          let same : u.0 ≡ caller.thread = same_Some u.0 caller.thread (sym u.2 ∙ caller.there) in
          absurd (false≢true (sym (ap is_ready u.3) ∙ ap (λ (t : Thread). is_ready t.state) same ∙ ap is_ready caller.ready))

  no_answer : (o : Option Thread) → option_map (with_answer None) o ≡ o
  no_answer None = refl
  no_answer (Some t) = refl

  module _ (o : Option ThreadId) (e : receiver m is.to ≡ o) where
    unchanged : answered m.threads (answers_now o) m.cursor ≡ m.threads m.cursor
    unchanged = (λ i. option_map (with_answer (caller_unanswered o e i)) (m.threads m.cursor)) ∙ no_answer (m.threads m.cursor)

    -- all answers at once are the receiver's, and then the caller's
    thread_same : (id : ThreadId) (c : Bool) → same_thread id m.cursor ≡ c
        → option_map (with_answer (option_or (answers_now o id) (if c then Some plain_words else None)))
        (if c then option_map passed (m.threads m.cursor) else m.threads id)
        ≡ option_map (with_answer (if c then Some plain_words else None))
        (if c then option_map passed (answered m.threads (answers_now o) m.cursor) else answered m.threads (answers_now o) id)
    thread_same id true q =
        (λ i. option_map (with_answer (option_or (none_here i) (Some plain_words))) (option_map passed (m.threads m.cursor)))
        ∙ sym (λ i. option_map (with_answer (Some plain_words)) (option_map passed (unchanged i)))
      where
        none_here : answers_now o id ≡ None
        none_here = ap (answers_now o) (alike id m.cursor q) ∙ caller_unanswered o e
    thread_same id false q =
        (λ i. option_map (with_answer (or_none (answers_now o id) i)) (m.threads id)) ∙ sym (no_answer (answered m.threads (answers_now o) id))
      where
        or_none : (a : Option (List ℕ)) → option_or a None ≡ a
        or_none None = refl
        or_none (Some words) = refl

    -- ---- servers and ledger

    abbrev a_left : Server
    a_left = record is.a { held = filter (others_of is.x) is.a.held }

    abbrev b_left : Server
    b_left = record is.b { queued = queued_now o; held = held_now o }

    abbrev without : ℕ → Option Server
    without = put_at nat_eq m.servers is.from.0 (option_map (without_held is.x.number) (m.servers is.from.0))

    abbrev without_it : ℕ → Option Server
    without_it = put_at nat_eq m.servers is.from.0 (Some a_left)

    without_same : without ≡ without_it
    without_same = λ i. put_at nat_eq m.servers is.from.0 (option_map (without_held is.x.number) (is.from_live i))

    still_there : without_it is.to.0 ≡ Some is.b
    still_there = now_elsewhere m.servers is.from.0 is.a is.from_live is.a.queued (filter (others_of is.x) is.a.held) is.to.0 is.apart ∙ is.to_live

    -- the other server with the message, whose change is either of the two
    servers_same : (change : Server → Server) → change is.b ≡ b_left
        → put_at nat_eq without is.to.0 (option_map change (without is.to.0)) ≡ put_at nat_eq without_it is.to.0 (Some b_left)
    servers_same change same =
        (λ i. put_at nat_eq (without_same i) is.to.0 (option_map change (without_same i is.to.0)))
        ∙ (λ i. put_at nat_eq without_it is.to.0 (option_map change (still_there i)))
        ∙ (λ i. put_at nat_eq without_it is.to.0 (Some (same i)))

    server_there : server_at m cid ≡ Some is.b
    server_there = ap (option_and_then (λ (serial : Serial). m.servers serial.0)) is.leads ∙ is.to_live

    ledger_same : pass is.x.number (record { pid = is.a.pid; vpn = is.x.first }) place m.ledger
        ≡ pass is.x.number (held_place m is.x) (passed_place m cid first) m.ledger
    ledger_same = λ i. pass is.x.number (record { pid = is.own i; vpn = is.x.first })
        (record { pid = option_map_or (λ (server : Server). server.pid) (sym server_there i) m.cursor.pid; vpn = first }) m.ledger

    abbrev threads_now : ThreadId → Option Thread
    threads_now id = option_map (with_answer (both_answers (answers_now o) (answer_to m.cursor plain_words) id))
        (put_at same_thread m.threads m.cursor (option_map passed (m.threads m.cursor)) id)

    abbrev forwarded_counted : Machine
    forwarded_counted = record (forwarded m h is.from.0 is.a is.x is.to.0 is.b first (queued_now o) (held_now o) (answers_now o) (is_passed o e)) {
      steps = m.steps + 1;
    }

    counted_matched : Matched forwarded_counted
    counted_matched =
        matched_later (forwarded m h is.from.0 is.a is.x is.to.0 is.b first (queued_now o) (held_now o) (answers_now o) (is_passed o e))
        (forwarded_matched m h is.from.0 is.a is.x is.to.0 is.b first (queued_now o) (held_now o) (answers_now o) (is_passed o e))
        (m.steps + 1) (omega arith)

    both_answered : Matched (record forwarded_counted { threads = threads_now })
    both_answered =
        subst (λ t. Matched (record forwarded_counted { threads = t })) (λ i id. sym (thread_same id (same_thread id m.cursor) refl) i)
        (answered_matched m.cursor plain_words forwarded_counted counted_matched
        ((λ i. option_map_or (λ t. is_ready t.state) (unchanged i) false) ∙ ready))

    all_matched : (change : Server → Server) → change is.b ≡ b_left → Matched (record m {
      ledger = pass is.x.number (held_place m is.x) (passed_place m cid first) m.ledger;
      threads = threads_now;
      servers = put_at nat_eq without is.to.0 (option_map change (without is.to.0));
      steps = m.steps + 1;
    })
    all_matched change same =
        subst (λ l. Matched (record m {
          ledger = l;
          threads = threads_now;
          servers = put_at nat_eq without is.to.0 (option_map change (without is.to.0));
          steps = m.steps + 1;
        })) ledger_same
        (subst (λ s. Matched (record forwarded_counted { threads = threads_now; servers = s })) (sym (servers_same change same)) both_answered)

  passed_keeps : (o : Option ThreadId) → receiver m is.to ≡ o → Keeps m (Served (passed_message_by m cid first is.from is.to is.x o))
  unfolding call_settled settled
  passed_keeps None e = all_matched None e (with_queued y) refl
  passed_keeps (Some who) e = all_matched (Some who) e (with_received y) refl

  message_there : passable m number ≡ Some is.x
  message_there =
      ap (option_and_then (held_at m (is_passable_of number))) is.holder
      ∙ ap (option_and_then (λ (server : Server). find (is_passable_of number) server.held)) is.from_live ∙ is.found

  forwarded_keeps : Keeps m (Served (forward_served m number cid (Some first)))
  forwarded_keeps =
      subst (λ change. Keeps m (Served change))
      (sym (ap (forward_served_if m number cid first) message_there
      ∙ (λ i. passed_message m cid first (unwrap_or (is.holder i) (serial_of 0)) (unwrap_or (is.leads i) (serial_of 0)) is.x)))
      (passed_keeps (receiver m is.to) refl)

-- ---- the call

module _ (m : Machine) (w : List ℕ) (h : Matched m) (ready : ready_at m m.cursor ≡ true) where
  pub forward_keeps : Keeps m (forward_call m w)
  unfolding forward_call
  forward_keeps =
      unless_refused_keeps m h (forward_refusals m (passed_number w) (forward_cid w))
      (forwarded_to m w (next_arrival m (passed_number w) (forward_cid w)))
      (λ none. by_arrival none (next_arrival m (passed_number w) (forward_cid w)) refl)
    where
      by_arrival : first_refusal (forward_refusals m (passed_number w) (forward_cid w)) ≡ None
          → (o : Option Vpn) → next_arrival m (passed_number w) (forward_cid w) ≡ o → Keeps m (forwarded_to m w o)
      by_arrival none None e =
          unless_refused_keeps m h (next_arrival_refusals None) (Served (forward_served m (passed_number w) (forward_cid w) None))
          (λ found. absurd (false≢true (sym (one_passed true MemoryInUse found))))
      by_arrival none (Some first) e =
          unless_refused_keeps m h (next_arrival_refusals (Some first)) (Served (forward_served m (passed_number w) (forward_cid w) (Some first)))
          (λ found. forwarded_keeps m h ready (passed_number w) (forward_cid w) first
          (is_forward m (passed_number w) (forward_cid w) first none e))

pub forward_number_keeps : KeepsNumber forward_message
forward_number_keeps = of_call 44 forward_call (λ m w. refl) forward_keeps
