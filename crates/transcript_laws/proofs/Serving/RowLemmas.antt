-- What each served call does at each server.
use Rattle.std.proofs.Common.{◌≡◌, ℕ, inl, inr, Bool, true, false, List, Option, Some, None, refl, sym, ap, ◌∙◌, subst}
use Rattle.std.specs.Prelude.{◌==◌, if◌then◌else◌, nat_eq, slice_index}
use Rattle.std.specs.Option.{option_map, option_map_or}
use Rattle.std.proofs.lemmas.Bool.{eqb-true, false≢true}
use Rattle.std.proofs.lemmas.Option.{same_Some}
use Rattle.xk_base.specs.declared.ids.Pid.{Pid}
use Rattle.xk_base.specs.declared.ids.Serial.{Serial}
use Rattle.xk_base.specs.declared.ids.ThreadId.{ThreadId}
use Rattle.xk_base.specs.declared.messages.Message.{Message}
use Rattle.syscall_codec.specs.CallNumbers.{destroy_server, reply_message, return_memory, return_scalar1}
use Rattle.syscall_codec.specs.CallWords.{call_number, return_offset, return_valid, return_value1}
use Rattle.syscall_codec.specs.CallWords.{return_value2, send_address}
use Rattle.xk_base.specs.Calls.Kinds.{is_answered}
use Rattle.syscall_codec.specs.ReplyWords.{message_words, new_server_words, plain_words, returned_words}
use Rattle.syscall_codec.specs.ReplyWords.{scalar1_words, scalar2_words}
use Rattle.xk_base.specs.Tables.Connections.{cid_for}
use Rattle.xk_base.specs.Tables.Counting.{put_at}
use Rattle.machine_model.specs.Calling.Calls.{call}
use Rattle.machine_model.specs.Calling.MemoryCalls.{caller_place}
use Rattle.machine_model.specs.Calling.ServerCalls.{named_sid, new_serial, new_server}
use Rattle.machine_model.specs.Ending.Closing.{closed, is_sender_at, refused_server, servers_closed}
use Rattle.machine_model.specs.Ending.Ends.{death}
use Rattle.machine_model.specs.Messaging.Messages.{is_of_number, new_message, new_number, oldest, without_held}
use Rattle.machine_model.specs.Messaging.Receivers.{is_receiving, receiver, receiving_at}
use Rattle.machine_model.specs.Messaging.ReturnCalls.{named_number, sender_gets}
use Rattle.machine_model.specs.Messaging.SendCalls.{sender_answered, sent_pages, with_sent}
use Rattle.machine_model.specs.Runs.LoanSpan.{is_send}
use Rattle.machine_model.specs.Runs.Matched.{Matched, is_waiting_for}
use Rattle.machine_model.specs.Runs.Moments.{ByStep, Cause}
use Rattle.machine_model.specs.State.Connections.{own_connections}
use Rattle.machine_model.specs.State.Machine.{Idle, Joining, Machine, Ready, Receiving, Server, Thread, ThreadState, Waiting}
use Rattle.machine_model.specs.State.Order.{actor, ready_at}
use Rattle.machine_model.specs.State.Servers.{change_server}
use Rattle.machine_model.specs.Stepping.Acts.{call_by, is_call_served}
use Rattle.machine_model.specs.State.Threads.{answer_to, both_answers}
use Rattle.machine_laws.proofs.Threading.ThreadAnswerLemmas.{IsReadyThread, ready_thread}
use Rattle.call_effects.specs.Effects.{Taken, arriving, at_server}
use Rattle.call_effects.specs.Rows.MessageRows.{arrival_answers}
use Rattle.call_effects.proofs.ServedLemmas.{OfServed, done}
use Rattle.transcript_laws.specs.Following.{is_return_call}
use Rattle.transcript_laws.specs.Serving.{Arrives, Ends, Founded, FromQueue, IsReceiver, IsReturned, IsSent, IsServedBy, Returns}
use Rattle.transcript_laws.specs.Serving.{ServerStep, Stays, Takes, is_receive}
use Rattle.transcript_laws.proofs.Following.ReturnLemmas.{held_listed}
use Rattle.transcript_laws.proofs.Following.SendLemmas.{sender_servers}
use Rattle.transcript_laws.proofs.Serving.AtServerLemmas.{AreMeant, IsSendersAnswer, LoseTheirServer, LosesServer, Serves, both_meant}
use Rattle.transcript_laws.proofs.Serving.AtServerLemmas.{none_meant, one_changes, one_meant, refused_meant}
use Rattle.transcript_laws.proofs.Serving.ArrivalLemmas.{arrival_meant, arrival_step, death_meant, death_serves, not_waiting, one_waited}
use Rattle.transcript_laws.proofs.Serving.ArrivalLemmas.{ready_waits_not, sender_waits, senders_lose}
use Rattle.transcript_laws.proofs.Serving.ForwardRowLemmas.{passes_serves}
use Rattle.call_effects.specs.Effects.{Effect, run}
use Rattle.call_effects.specs.Rows.ThreadRows.{death_plan}
use Rattle.call_effects.specs.Verdicts.{Plan}
use Rattle.transcript_laws.proofs.CallKindLemmas.{named_is, of_kinds}
use Rattle.transcript_laws.proofs.CallKindUseLemmas.{loan_leaves, none_keeps, own_run, returnable_number}
use Rattle.transcript_laws.specs.CallKinds.{AnswersCaller, ByWaiting, CallKind, DestroysServer, EndsProcess, FindsNone, FoundsServer, IsFounding, IsKeeping, IsReturning, IsSending, Keeps, NamesOwn, PassesMessage, ReturnsMessage, SendsMessage, TakesMessage, WithWords, destroying, founding, is_returnable, place_at_server, returning, sending, taking, words_back}
use Rattle.machine_model.specs.State.Threads.{Answers}
use Rattle.transcript_laws.specs.Serving.{IsDestroyed, ListStep}

-- ---- rows

-- the caller doesn't wait
pub not_cursor : (m : Machine) → ready_at m m.cursor ≡ true → (servers : ℕ → Option Server) (words : List ℕ) → IsSendersAnswer m servers m.cursor words
not_cursor m ready servers words number waits =
    let r : IsReadyThread m m.cursor = ready_thread m m.cursor ready in
    absurd (not_waiting m m.cursor r.thread r.there (ready_waits_not r.thread.state r.ready) number waits)

module _ (cause : Cause) (by_step : cause ≡ ByStep) (m : Machine) (h : Matched m) (ready : ready_at m m.cursor ≡ true) (w : List ℕ)
    (acts : actor m ≡ Some m.cursor) (calls : call_by m m.cursor ≡ Some w) (went : is_call_served m m.cursor w ≡ true) where
  -- nobody dies
  abbrev Goes : Machine → ℕ → Type 0
  Goes next n = ServerStep n cause m next (λ pid. None ≡ Some pid)

  -- the call, as one of this process
  abbrev served_by : (pid : Pid) → m.cursor.pid ≡ pid → IsServedBy pid w cause m
  served_by pid own = record { who = m.cursor; step = by_step; by_who = acts; of_process = own; call = calls; served = went }

  -- servers stay, and the caller is answered other words than a message's
  plain : (words : List ℕ) → ((slice_index words 0 == reply_message) ≡ false) → (servers : ℕ → Option Server) → AreMeant cause m servers (answer_to m.cursor words)
  plain words e servers = one_meant cause m servers m.cursor words (inl e, not_cursor m ready servers words)

  keeps_serves : (effects : List Effect) (answers : Answers) → IsKeeping m effects answers
      → Serves cause m (done m (record { effects = effects; answers = answers; gone = None }))
  keeps_serves effects answers it =
      let leaves = own_run m effects m it.own in
      record { servers = λ n. Stays (ap (λ (s : ℕ → Option Server). s n) leaves.servers); answers = by effects answers it.answered (run effects m).servers; delivery = refl }
    where
      by : (effects : List Effect) (answers : Answers) → AnswersCaller m effects answers → (servers : ℕ → Option Server) → AreMeant cause m servers answers
      by _ _ (WithWords effects words e) servers = plain words e servers
      by _ _ (ByWaiting state) servers = none_meant cause m servers

  founds_serves : IsFounding m w → Serves cause m (done m (founding m w))
  founds_serves it = record {
    servers = λ n. go n (nat_eq n m.next_serial) refl;
    answers = plain (new_server_words (named_sid w) (cid_for (new_serial m) (own_connections m))) refl _;
    delivery = refl;
  }
    where
      go : (n : ℕ) (b : Bool) → nat_eq n m.next_serial ≡ b → Goes (run (founding m w).effects m) n
      go n true q =
          Founded (new_server m (named_sid w)) (ap m.servers (eqb-true n m.next_serial q) ∙ it.fresh)
          (ap (λ b. if b then Some (new_server m (named_sid w)) else m.servers n) q) refl refl
      go n false q = Stays (ap (λ b. if b then Some (new_server m (named_sid w)) else m.servers n) q)

  -- ---- receives

  takes_serves : is_receive (call_number w) ≡ true → (its : NamesOwn m w) (x : Message) → oldest its.server.queued ≡ Some x
      → Serves cause m (done m (taking m its.serial x))
  takes_serves is its x first = record {
    servers = one_changes cause its.serial (at_server (Taken x)) m _ _ refl
        (λ server there. subst (λ s. ListStep its.serial.0 cause m (run (taking m its.serial x).effects m) (λ pid. None ≡ Some pid) s (at_server (Taken x) s))
        (same_Some its.server server (sym its.there ∙ there)) (Takes x m.cursor first its.own receives refl));
    answers = one_meant cause m _ m.cursor (message_words x) (
      inr (x, record { n = its.serial.0; server = its.server; there = its.there; own = its.own; reaches = FromQueue first receives }, refl),
      not_cursor m ready _ (message_words x),
    );
    delivery = refl;
  }
    where
      receives : IsReceiver its.serial.0 m.cursor cause m
      receives = record { words = w; served = served_by m.cursor.pid refl; caller = refl; receives = is; names = sym (named_is m h w its) }

  -- ---- returns

  sender_meant : (servers : ℕ → Option Server) (words : List ℕ) → ((slice_index words 0 == reply_message) ≡ false) → (o : Option ThreadId)
      → ((who : ThreadId) → o ≡ Some who → IsSendersAnswer m servers who words) → AreMeant cause m servers (sender_gets words o)
  sender_meant servers words e None given = none_meant cause m servers
  sender_meant servers words e (Some who) given = one_meant cause m servers who words (inl e, given who refl)

  returns_serves : is_return_call (call_number w) ≡ true → (it : IsReturning m (call_number w) w) → Serves cause m (done m (returning m (call_number w) w it))
  returns_serves returns it = record {
    servers = let_go _ (loan_leaves (call_number w) w (change_server it.held.serial (without_held (named_number w)) m)).servers;
    answers = both_meant cause m _ (answer_to m.cursor plain_words) (sender_gets (words_back (call_number w) w) it.message.sender) (plain plain_words refl _)
        (sender_meant _ (words_back (call_number w) w) silent it.message.sender (given _));
    delivery = refl;
  }
    where
      test : Message → Bool
      test = is_returnable (call_number w) w

      named : is_of_number (named_number w) it.message ≡ true
      named = returnable_number (call_number w) w it.message it.held.passes

      silent : (slice_index (words_back (call_number w) w) 0 == reply_message) ≡ false
      silent = by (call_number w == return_memory) (call_number w == return_scalar1)
        where
          by : (a b : Bool)
              → (slice_index (if a then returned_words (return_offset w) (return_valid w) else (
              if b then scalar1_words (return_value1 w) else scalar2_words (return_value1 w) (return_value2 w))) 0 == reply_message) ≡ false
          by true b = refl
          by false true = refl
          by false false = refl

      -- the sender waits for this message
      given : (servers : ℕ → Option Server) (who : ThreadId) → it.message.sender ≡ Some who → IsSendersAnswer m servers who (words_back (call_number w) w)
      given servers who sender number waits =
          let same : number.0 ≡ it.message.number.0 = one_waited (m.threads who) number it.message.number waits (sender_waits m h test it.message it.held who sender) in
          let is : it.message.number.0 ≡ (named_number w).0 = eqb-true it.message.number.0 (named_number w).0 named in
          inl (record { who = m.cursor; acts = acts; call = w; calls = calls; returns = returns; token = sym (same ∙ is); given = refl })

      -- the message leaves the server that holds it
      let_go : (next : Machine) → next.servers ≡ (change_server it.held.serial (without_held (named_number w)) m).servers → (n : ℕ) → Goes next n
      let_go next servers n =
          one_changes cause it.held.serial (without_held (named_number w)) m next _ servers
          (λ server there. subst (λ s. ListStep it.held.serial.0 cause m next (λ pid. None ≡ Some pid) s (without_held (named_number w) s))
          (same_Some it.held.server server (sym it.held.there ∙ there)) (Returns (named_number w) is_returned refl)) n
        where
          is_returned : IsReturned (named_number w) it.held.server cause m
          is_returned = record {
            words = w;
            served = served_by it.held.server.pid (sym it.held.own);
            returns = returns;
            token = refl;
            held = held_listed (named_number w) m h test it.message it.held named;
          }

  -- ---- ends

  ends_serves : Serves cause m (done m (death_plan m.cursor.pid m))
  unfolding death servers_closed closed
  ends_serves = record {
    servers = death_serves cause m m.cursor.pid;
    answers = death_meant cause m m.cursor.pid h;
    delivery = refl;
  }

  -- a thread that is Receiving waits for no answer
  receivers_wait_not : (serial : Serial) (servers : ℕ → Option Server) → LoseTheirServer m servers (receiving_at m serial)
  receivers_wait_not serial servers id receives number waits = go (m.threads id) refl receives
    where
      go : (o : Option Thread) → m.threads id ≡ o → option_map_or (λ t. is_receiving serial t.state) o false ≡ true → LosesServer number m servers
      go None there q = absurd (false≢true q)
      go (Some t) there q = absurd (by t.state q (sym (ap (λ o. option_map_or (λ (x : Thread). is_waiting_for number x.state) o false) there) ∙ waits))
        where
          by : (s : ThreadState) → is_receiving serial s ≡ true → is_waiting_for number s ≡ true → ⊥
          by Ready p r = false≢true p
          by (Receiving other) p r = false≢true r
          by (Waiting other) p r = false≢true p
          by (Joining tid) p r = false≢true p
          by Idle p r = false≢true p

  destroys_serves : call_number w ≡ destroy_server → (its : NamesOwn m w) → Serves cause m (done m (destroying m its.serial))
  unfolding closed
  destroys_serves e its = record {
    servers = λ n. go n (n == its.serial.0) refl;
    answers = both_meant cause m left (answer_to m.cursor plain_words)
        (both_answers (refused_server (is_sender_at (λ n. n == its.serial.0) m)) (refused_server (receiving_at m its.serial)))
        (plain plain_words refl left)
        (both_meant cause m left (refused_server (is_sender_at (λ n. n == its.serial.0) m)) (refused_server (receiving_at m its.serial))
        (refused_meant cause m left (is_sender_at (λ n. n == its.serial.0) m)
        (senders_lose m h m refl (λ n. n == its.serial.0) left (λ k q. ap (λ b. if b then None else m.servers k) q)))
        (refused_meant cause m left (receiving_at m its.serial) (receivers_wait_not its.serial left)));
    delivery = refl;
  }
    where
      left : ℕ → Option Server
      left n = if n == its.serial.0 then None else m.servers n

      ends : (n : ℕ) → n ≡ its.serial.0 → IsDestroyed n its.server cause m
      ends n same = record { words = w; served = served_by its.server.pid (sym its.own); destroys = e; names = sym (named_is m h w its) ∙ (λ i. record { 0 = sym same i }) }

      go : (n : ℕ) (b : Bool) → (n == its.serial.0) ≡ b → Goes (closed (λ n. n == its.serial.0) m).machine n
      go n true q =
          let same : n ≡ its.serial.0 = eqb-true n its.serial.0 q in
          Ends its.server (ap m.servers same ∙ its.there) (ap (λ b. if b then None else m.servers n) q) (inr (ends n same))
      go n false q = Stays (ap (λ b. if b then None else m.servers n) q)

  -- ---- sends

  sends_serves : is_send (call_number w) ≡ true → (it : IsSending m w)
      → Serves cause m (done m (sending m w it.kind it.to.serial (place_at_server it.to.server it.first)))
  sends_serves is it = record {
    servers = one_changes cause it.to.serial (at_server (arriving (receiver m it.to.serial) x)) m _ _
        (ap (λ (s : ℕ → Option Server). put_at nat_eq s it.to.serial.0 (option_map (at_server (arriving (receiver m it.to.serial) x)) (s it.to.serial.0)))
        (sender_servers (is_answered it.kind) (new_number m) (with_sent m it.kind (caller_place m (send_address w)) (sent_pages w) (place_at_server it.to.server it.first))))
        (arrival_step cause m h it.to.serial x arrives _ _);
    answers = both_meant cause m _ (arrival_answers (receiver m it.to.serial) x) (sender_answered (is_answered it.kind) m.cursor)
        (arrival_meant cause m h it.to.serial x arrives _) (sender_told (is_answered it.kind) _);
    delivery = refl;
  }
    where
      x : Message
      x = new_message m it.kind w it.first

      arrives : Arrives it.to.serial.0 (new_message m it.kind w it.first) cause m
      arrives = IsSent (record {
        pid = m.cursor.pid;
        words = w;
        served = served_by m.cursor.pid refl;
        sends = is;
        leads = it.to.leads;
        kind = it.kind;
        named = it.named;
        first = it.first;
        is = refl;
      })

      sender_told : (b : Bool) (servers : ℕ → Option Server) → AreMeant cause m servers (sender_answered b m.cursor)
      sender_told true servers = none_meant cause m servers
      sender_told false servers = plain plain_words refl servers

  -- ---- each kind

  kind_serves : (plan : Plan) → CallKind m (call_number w) w plan → Serves cause m (done m plan)
  kind_serves _ (Keeps effects answers alone other it) = keeps_serves effects answers it
  kind_serves _ (FoundsServer e it) = founds_serves it
  kind_serves _ (SendsMessage is it) = sends_serves is it
  kind_serves _ (TakesMessage is its x first) = takes_serves is its x first
  kind_serves _ (FindsNone is its empty) = keeps_serves _ _ (none_keeps m (call_number w) its.serial)
  kind_serves _ (ReturnsMessage is it) = returns_serves is it
  kind_serves _ (PassesMessage e it) = passes_serves cause m h w served_by (plain plain_words refl) e it
  kind_serves _ (DestroysServer e its) = destroys_serves e its
  kind_serves _ (EndsProcess e) = ends_serves

  pub served_serves : OfServed (Serves cause m) (call m w)
  served_serves = of_kinds m h w (Serves cause m) kind_serves
