-- Who waits for an answer, what arrives at a server, and what a death leaves of it.
use Rattle.std.proofs.Common.{◌≡◌, ◌≢◌, ℕ, ◌<◌, ◌≤◌, inl, inr, Bool, true, false, get_or, length, Option, Some, None, refl, sym, ap, ◌∙◌, subst}
use Rattle.std.specs.Prelude.{◌&&◌, if◌then◌else◌}
use Rattle.std.specs.List.{list_any}
use Rattle.std.specs.Option.{option_map, option_map_or}
use Rattle.std.proofs.lemmas.Bool.{and_from, and_parts, eq-eqb, eqb-true, false≢true}
use Rattle.std.proofs.lemmas.Option.{same_Some}
use Rattle.xk_base.specs.declared.ids.Number.{Number}
use Rattle.xk_base.specs.declared.ids.Pid.{Pid}
use Rattle.xk_base.specs.declared.ids.Serial.{Serial}
use Rattle.xk_base.specs.declared.ids.ThreadId.{ThreadId}
use Rattle.xk_base.specs.declared.messages.Message.{Message}
use Rattle.syscall_codec.specs.ReplyWords.{message_words}
use Rattle.xk_base.specs.Tables.Circle.{same_thread}
use Rattle.machine_model.specs.Ending.Closing.{closed, is_sender_at, senders_held_gone, senders_queued_gone, servers_closed, with_senderless_from, without_queued_from}
use Rattle.machine_model.specs.Ending.Ends.{death, forgotten}
use Rattle.machine_model.specs.Messaging.Messages.{is_of_number, is_sent_by}
use Rattle.machine_model.specs.Messaging.Receivers.{receiver}
use Rattle.machine_model.specs.Runs.Matched.{IsServerAwaited, Matched, is_sent_as, is_waiting_for, waits_for}
use Rattle.machine_model.specs.Runs.Moments.{Cause}
use Rattle.machine_model.specs.State.Machine.{Idle, Joining, Machine, Ready, Receiving, Server, Thread, ThreadState, Waiting}
use Rattle.machine_model.specs.State.Servers.{is_server_of, messages_of}
use Rattle.machine_model.specs.Messaging.MessageCounts.{HasIf, count_at, count_in}
use Rattle.machine_model.proofs.Matching.CountLemmas.{all_right, none_pass}
use Rattle.machine_laws.proofs.Messaging.AnyServerLemmas.{number_counted}
use Rattle.machine_laws.proofs.Messaging.ListedLemmas.{PassingServer, listed_at, passing_server}
use Rattle.machine_laws.proofs.Threading.ThreadAnswerLemmas.{same_thread-self}
use Rattle.machine_laws.proofs.Returning.GivenBackLemmas.{found_at}
use Rattle.machine_laws.proofs.Sending.SentReceiverLemmas.{receiver_receives}
use Rattle.call_effects.specs.Effects.{arriving, at_server}
use Rattle.call_effects.specs.Rows.MessageRows.{arrival_answers}
use Rattle.call_effects.specs.Held.{IsHeld}
use Rattle.transcript_laws.specs.Following.{Lacks, keeping}
use Rattle.transcript_laws.specs.Serving.{Arrives, AtOnce, Ends, IsFirstWaiting, ListStep, Lists, LosesSender, Queues, Receives, ServerStep}
use Rattle.transcript_laws.specs.Serving.{Stays}
use Rattle.transcript_laws.proofs.Following.StandLemmas.{some_not_lacks}
use Rattle.transcript_laws.proofs.Serving.AtServerLemmas.{AreMeant, LoseTheirServer, none_meant, one_meant, refused_meant}
use Rattle.transcript_laws.proofs.Serving.ReceiverLemmas.{first_waiting}

-- ---- whose a server is

-- the server that passes is the process's
pub server_owner : (pid : Pid) (server : Server) → is_server_of pid (Some server) ≡ true → server.pid ≡ pid
server_owner pid server own = let same : server.pid.0 ≡ pid.0 = eqb-true server.pid.0 pid.0 own in λ i. record { 0 = same i }

-- ---- who waits for an answer

-- a thread in another state waits for none
pub not_waiting : (m : Machine) (id : ThreadId) (t : Thread) → m.threads id ≡ Some t → ((number : Number) → is_waiting_for number t.state ≡ false)
    → (number : Number) → waits_for m.threads id number ≡ true → ⊥
not_waiting m id t there none number waits =
    false≢true (sym (none number) ∙ (sym (ap (λ o. option_map_or (λ (x : Thread). is_waiting_for number x.state) o false) there) ∙ waits))

pub ready_waits_not : (s : ThreadState) → s ≡ Ready → (number : Number) → is_waiting_for number s ≡ false
ready_waits_not s e number = ap (is_waiting_for number) e

pub receiving_waits_not : (serial : Serial) (s : ThreadState) → s ≡ Receiving serial → (number : Number) → is_waiting_for number s ≡ false
receiving_waits_not serial s e number = ap (is_waiting_for number) e

-- a thread waits for one message
pub one_waited : (o : Option Thread) (a b : Number) → option_map_or (λ (x : Thread). is_waiting_for a x.state) o false ≡ true
    → option_map_or (λ (x : Thread). is_waiting_for b x.state) o false ≡ true → a.0 ≡ b.0
one_waited None a b p q = absurd (false≢true p)
one_waited (Some t) a b p q = go t.state p q
  where
    go : (s : ThreadState) → is_waiting_for a s ≡ true → is_waiting_for b s ≡ true → a.0 ≡ b.0
    go Ready p q = absurd (false≢true p)
    go (Receiving serial) p q = absurd (false≢true p)
    go (Waiting other) p q = sym (eqb-true other.0 a.0 p) ∙ eqb-true other.0 b.0 q
    go (Joining tid) p q = absurd (false≢true p)
    go Idle p q = absurd (false≢true p)

-- the sender of a held message waits for the answer to it
pub sender_waits : (m : Machine) → Matched m → (test : Message → Bool) (x : Message) → IsHeld m test x → (who : ThreadId) → x.sender ≡ Some who
    → waits_for m.threads who x.number ≡ true
sender_waits m h test x at who sender = go (waits_for m.threads who x.number) refl (h.body.senders.senders who x.number)
  where
    place : (j : ℕ) × (d : Message) × (j < length at.server.held) × (get_or at.server.held j d ≡ x) × (test x ≡ true)
    place = found_at test at.server.held x at.found

    is_its : is_sent_as who x.number x ≡ true
    is_its =
        and_from (is_of_number x.number x) (is_sent_by who x) (eq-eqb x.number.0 x.number.0 refl)
        (ap (λ o. option_map_or (same_thread who) o false) sender ∙ same_thread-self who)

    go : (b : Bool) → waits_for m.threads who x.number ≡ b → HasIf b m.servers (is_sent_as who x.number) → b ≡ true
    go true e has = refl
    go false e has =
        absurd (false≢true
        (sym (all_right (λ y. is_sent_as who x.number y ≡ false) at.server.queued at.server.held
        (none_pass (is_sent_as who x.number) (messages_of at.server) (sym (ap (count_at (is_sent_as who x.number)) at.there) ∙ has at.serial.0))
        place.0 place.1 place.2)
        ∙ (ap (is_sent_as who x.number) place.3 ∙ is_its)))

-- ---- an arrival

-- a thread that waits at a server finds no message queued there, and the server is its process's
pub nothing_queued : (m : Machine) → Matched m → (serial : Serial) (who : ThreadId) → receiver m serial ≡ Some who → IsServerAwaited m.servers who.pid serial
nothing_queued m h serial who e =
    let at = receiver_receives m serial who e in
    h.body.receivers who at.0 serial at.1 at.2

-- the thread that waits for the answer to a message whose sender it is waits for that message's number
pub waits_for_its : (m : Machine) → Matched m → (n : ℕ) (server : Server) → m.servers n ≡ Some server → (who : ThreadId) (number : Number)
    → waits_for m.threads who number ≡ true → list_any (is_sent_by who) (messages_of server) ≡ true → keeping number (m.servers n) ≢ Lacks
waits_for_its m h n server there who number waits sent lacks =
    some_not_lacks number server counted (sym (ap (keeping number) there) ∙ lacks)
  where
    place : (j : ℕ) × (d : Message) × (j < length (messages_of server)) × (is_sent_by who (get_or (messages_of server) j d) ≡ true)
    place = listed_at (is_sent_by who) (messages_of server) sent

    x : Message
    x = get_or (messages_of server) place.0 place.1

    -- it waits for this message, and for one alone
    its : (b : Bool) → waits_for m.threads who x.number ≡ b → HasIf b m.servers (is_sent_as who x.number) → b ≡ true
    its true e has = refl
    its false e has =
        absurd (false≢true
        (sym (none_pass (is_sent_as who x.number) (messages_of server) (sym (ap (count_at (is_sent_as who x.number)) there) ∙ has n) place.0 place.1 place.2)
        ∙ and_from (is_of_number x.number x) (is_sent_by who x) (eq-eqb x.number.0 x.number.0 refl) place.3))

    same : number.0 ≡ x.number.0
    same =
        one_waited (m.threads who) number x.number waits
        (its (waits_for m.threads who x.number) refl (h.body.senders.senders who x.number))

    counted : 1 ≤ count_in (is_of_number number) (messages_of server)
    counted =
        subst (λ k. 1 ≤ count_in (is_of_number k) (messages_of server)) (λ i. record { 0 = sym same i })
        (number_counted (messages_of server) place.0 place.1 place.2)

-- who waits for the answer to a message at servers of a set loses its server, where they end
pub senders_lose : (m : Machine) → Matched m → (n : Machine) → n.servers ≡ m.servers → (which : ℕ → Bool) (servers : ℕ → Option Server)
    → ((k : ℕ) → which k ≡ true → servers k ≡ None) → LoseTheirServer m servers (is_sender_at which n)
senders_lose m h n same which servers ends id e number waits =
    let at : PassingServer n (λ k server. which k && list_any (is_sent_by id) (messages_of server)) =
    passing_server n (λ k server. which k && list_any (is_sent_by id) (messages_of server)) e in
    let parts = and_parts (which at.serial) (list_any (is_sent_by id) (messages_of at.server)) at.passes in
    record {
      n = at.serial;
      had = waits_for_its m h at.serial at.server (ap (λ (s : ℕ → Option Server). s at.serial) (sym same) ∙ at.live) id number waits parts.1;
      gone = ends at.serial parts.0;
    }

module _ (cause : Cause) (m : Machine) (h : Matched m) (serial : Serial) (x : Message) (arrives : Arrives serial.0 x cause m) where
  pub arrival_step : (next : Machine) (Dies : Pid → Type 0) (server : Server) → m.servers serial.0 ≡ Some server
      → ListStep serial.0 cause m next Dies server (at_server (arriving (receiver m serial) x) server)
  arrival_step next Dies server there = go (receiver m serial) refl
    where
      go : (o : Option ThreadId) → receiver m serial ≡ o → ListStep serial.0 cause m next Dies server (at_server (arriving o x) server)
      go None e = Queues x arrives refl
      go (Some who) e =
          let at = nothing_queued m h serial who e in
          let same = same_Some server at.server (sym there ∙ at.live) in
          Receives x who arrives (ap (λ (s : Server). s.queued) same ∙ at.empty) (ap (λ (s : Server). s.pid) same ∙ at.own) (first_waiting m h serial who e) refl

  pub arrival_meant : (servers : ℕ → Option Server) → AreMeant cause m servers (arrival_answers (receiver m serial) x)
  arrival_meant servers = go (receiver m serial) refl
    where
      go : (o : Option ThreadId) → receiver m serial ≡ o → AreMeant cause m servers (arrival_answers o x)
      go None e = none_meant cause m servers
      go (Some who) e =
          let at = nothing_queued m h serial who e in
          let thread = receiver_receives m serial who e in
          let waits : IsFirstWaiting serial.0 who m = first_waiting m h serial who e in
          one_meant cause m servers who (message_words x) (
            inr (x, record { n = serial.0; server = at.server; there = at.live; own = at.own; reaches = AtOnce at.empty arrives waits }, refl),
            λ number waits. absurd (not_waiting m who thread.0 thread.1 (receiving_waits_not serial thread.0.state thread.2) number waits),
          )

-- ---- ends

module _ (cause : Cause) (m : Machine) (pid : Pid) where
  pub death_serves : (n : ℕ) → ServerStep n cause m (death pid m).machine (λ other. Some pid ≡ Some other)
  unfolding death servers_closed closed senders_queued_gone senders_held_gone forgotten
  death_serves n = go (is_server_of pid (m.servers n)) refl
    where
      now : (b : Bool) → is_server_of pid (m.servers n) ≡ b
          → (death pid m).machine.servers n ≡ option_map (with_senderless_from pid) (option_map (without_queued_from pid) (if b then None else m.servers n))
      now b e =
          ap (λ c. option_map (with_senderless_from pid) (option_map (without_queued_from pid) (if c then None else m.servers n))) e

      -- a server of the process ends
      ended : (o : Option Server) → m.servers n ≡ o → is_server_of pid o ≡ true → (death pid m).machine.servers n ≡ None
          → ServerStep n cause m (death pid m).machine (λ other. Some pid ≡ Some other)
      ended None there own gone = absurd (false≢true own)
      ended (Some server) there own gone = Ends server there gone (inl (ap (λ p. Some p) (sym (server_owner pid server own))))

      alive : (o : Option Server) → m.servers n ≡ o → is_server_of pid (m.servers n) ≡ false
          → ServerStep n cause m (death pid m).machine (λ other. Some pid ≡ Some other)
      alive None there e =
          Stays (now false e ∙ (ap (λ o. option_map (with_senderless_from pid) (option_map (without_queued_from pid) o)) there ∙ sym there))
      alive (Some server) there e =
          Lists server (with_senderless_from pid (without_queued_from pid server)) there
          (now false e ∙ ap (λ o. option_map (with_senderless_from pid) (option_map (without_queued_from pid) o)) there)
          (LosesSender pid refl refl)

      go : (b : Bool) → is_server_of pid (m.servers n) ≡ b → ServerStep n cause m (death pid m).machine (λ other. Some pid ≡ Some other)
      go true e = ended (m.servers n) refl e (now true e)
      go false e = alive (m.servers n) refl e

  -- its servers are gone then
  pub death_ends : (n : ℕ) → is_server_of pid (m.servers n) ≡ true → (death pid m).machine.servers n ≡ None
  unfolding death servers_closed closed senders_queued_gone senders_held_gone forgotten
  death_ends n e = ap (λ c. option_map (with_senderless_from pid) (option_map (without_queued_from pid) (if c then None else m.servers n))) e

  pub death_meant : Matched m → AreMeant cause m (death pid m).machine.servers (death pid m).answers
  unfolding death servers_closed closed
  death_meant h =
      refused_meant cause m (death pid m).machine.servers (is_sender_at (λ n. is_server_of pid (m.servers n)) m)
      (senders_lose m h m refl (λ n. is_server_of pid (m.servers n)) (death pid m).machine.servers death_ends)
