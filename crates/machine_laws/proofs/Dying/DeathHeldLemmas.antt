-- The second half of a death: what others hold of a process's threads becomes senderless. Where none of its messages is queued, the
-- machine stays matched, with its threads that waited for what is held taken as answered.
use Rattle.std.proofs.Common.{◌≡◌, ◌≢◌, ℕ, ◌+◌, ◌<◌, Bool, true, false, List, [], ◌∷◌, get_or, map, Option, Some, None, refl, sym, ap, ◌∙◌, arith, subst}
use Rattle.std.specs.Prelude.{◌==◌, ◌&&◌, is_some}
use Rattle.std.specs.List.{All, list_any}
use Rattle.std.specs.Option.{option_map, option_map_or}
use Rattle.std.proofs.lemmas.Bool.{and_parts, eqb-true, false≢true}
use Rattle.std.proofs.lemmas.List.Elements.{All-head, All-tail}
use Rattle.xk_base.specs.declared.ids.Number.{Number}
use Rattle.xk_base.specs.declared.ids.Pid.{Pid}
use Rattle.xk_base.specs.declared.ids.Serial.{Serial}
use Rattle.xk_base.specs.declared.ids.ThreadId.{ThreadId}
use Rattle.xk_base.specs.declared.messages.Message.{Message}
use Rattle.machine_model.specs.Ending.Closing.{is_held_from, senderless_from, with_senderless_from}
use Rattle.machine_model.specs.Messaging.LoanSets.{orphan_loans}
use Rattle.machine_model.specs.Messaging.MessageCounts.{count_at, count_in}
use Rattle.machine_model.specs.Messaging.Messages.{is_of_number, is_sent_from}
use Rattle.machine_model.specs.Runs.Matched.{Matched, waits_for}
use Rattle.machine_model.specs.State.Machine.{Machine, Server, Thread, Receiving}
use Rattle.machine_model.specs.State.Servers.{messages_of}
use Rattle.machine_model.specs.State.Threads.{Answers, no_answers}
use Rattle.machine_model.proofs.Matching.CountLemmas.{all_right, count_in-append}
use Rattle.machine_model.proofs.Matching.LoanSetStepLemmas.{AreBelow}
use Rattle.machine_laws.proofs.Dying.StoppedThreadLemmas.{other_answer, own_receives, own_waits, stopped_or}
use Rattle.machine_laws.proofs.Messaging.AnsweredThreadLemmas.{answered}
use Rattle.machine_laws.proofs.Messaging.AnyServerLemmas.{held_apart, held_only_here, no_server, none_listed, one_listed, only_server, queued_not_held, queued_only_here}
use Rattle.machine_laws.proofs.Messaging.ListedLemmas.{PassingServer, listed_at, listed_right, passing_server}
use Rattle.machine_laws.proofs.Messaging.SenderlessLemmas.{IsLeftAlone, alone_above, alone_body, alone_in, senderless_if, server_alone, servers_alone}
use Rattle.machine_laws.proofs.Messaging.WaitedForLemmas.{waited_not_from}

map_alike : (f g : Message → Message) (xs : List Message) → All (λ x. f x ≡ g x) xs → map f xs ≡ map g xs
map_alike f g [] all = refl
map_alike f g (x ∷ xs) all = λ i. All-head (λ y. f y ≡ g y) x xs all i ∷ map_alike f g xs (All-tail (λ y. f y ≡ g y) x xs all) i

held_counts_none : (test : Message → Bool) (server : Server) → count_in test (messages_of server) ≡ 0 → count_in test server.held ≡ 0
held_counts_none test server e =
    let sum : count_in test (messages_of server) ≡ count_in test server.queued + count_in test server.held = count_in-append test server.queued server.held in
    omega arith

none_if : {A : Type 0} → (o : Option A) → is_some o ≡ false → o ≡ None
none_if None e = refl
none_if (Some x) e = absurd (false≢true (sym e))

module _ (m : Machine) (h : Matched m) (pid : Pid) where
  abbrev pub held_numbers : Number → Bool
  held_numbers = is_held_from pid m

  abbrev pub second_answers : Answers
  second_answers = stopped_or pid held_numbers (λ n. false) m.threads no_answers

  -- ---- the numbers of messages

  module _ (k : ℕ) (server : Server) (e : m.servers k ≡ Some server) where
    held_here : (number : Number) → ((n : ℕ) → n ≢ k → count_at (is_of_number number) (m.servers n) ≡ 0)
        → held_numbers number ≡ list_any (λ x. is_of_number number x && is_sent_from pid x) server.held
    held_here number elsewhere =
        only_server m (λ n other. list_any (λ x. is_of_number number x && is_sent_from pid x) other.held) k server e
        (h.rest.above.serials k server e)
        (λ n other apart q. none_listed number (is_sent_from pid) other.held
        (held_counts_none (is_of_number number) other (sym (ap (count_at (is_of_number number)) q) ∙ elsewhere n apart)))

    queued_stays : All (λ x. held_numbers x.number ≡ false) server.queued
    queued_stays j d low =
        held_here (get_or server.queued j d).number (queued_only_here m.servers h.body.servers.numbers k server e j d low)
        ∙ none_listed (get_or server.queued j d).number (is_sent_from pid) server.held
        (queued_not_held m.servers h.body.servers.numbers k server e j d low)

    held_alone : All (λ x. held_numbers x.number ≡ is_sent_from pid x) server.held
    held_alone j d low =
        held_here (get_or server.held j d).number (held_only_here m.servers h.body.servers.numbers k server e j d low)
        ∙ one_listed (is_sent_from pid) server.held (held_apart m.servers h.body.servers.numbers k server e) j d low

    server_same : server_alone held_numbers server ≡ with_senderless_from pid server
    server_same = λ i. record server {
      held = map_alike (alone_in held_numbers) (senderless_from pid) server.held
          (λ j d low. ap (λ b. senderless_if b (get_or server.held j d)) (held_alone j d low)) i;
    }

    some_sender : All (λ x. held_numbers x.number ≡ true → is_some x.sender ≡ true) server.held
    some_sender j d low q = go (get_or server.held j d).sender (sym (held_alone j d low) ∙ q)
      where
        go : (o : Option ThreadId) → option_map_or (λ (who : ThreadId). who.pid.0 == pid.0) o false ≡ true → is_some o ≡ true
        go None r = r
        go (Some who) r = refl

  same_servers : (k : ℕ) → servers_alone held_numbers m.servers k ≡ option_map (with_senderless_from pid) (m.servers k)
  same_servers k = go (m.servers k) refl
    where
      go : (o : Option Server) → m.servers k ≡ o → option_map (server_alone held_numbers) o ≡ option_map (with_senderless_from pid) o
      go None e = refl
      go (Some server) e = ap Some (server_same k server e)

  -- ---- threads

  other_waits : (id : ThreadId) (number : Number) → (id.pid.0 == pid.0) ≡ false → waits_for m.threads id number ≡ true
      → is_some (second_answers id) ≡ held_numbers number
  other_waits id number other w =
      ap is_some (other_answer pid held_numbers (λ n. false) m.threads no_answers id other)
      ∙ sym (no_server m _ (λ n server e.
      listed_right (λ z. is_of_number number z && is_sent_from pid z) server.queued server.held (waited_not_from m h id number w pid other n server e)))

  is_left_alone : IsLeftAlone m.threads m.servers held_numbers second_answers
  is_left_alone = record {
    queued = queued_stays;
    held = some_sender;
    waits = λ id number w. by_waits id number w (id.pid.0 == pid.0) refl;
    receives = λ id x serial there s. by_receives id x serial there s (id.pid.0 == pid.0) refl;
  }
    where
      by_waits : (id : ThreadId) (number : Number) → waits_for m.threads id number ≡ true → (b : Bool) → (id.pid.0 == pid.0) ≡ b
          → is_some (second_answers id) ≡ held_numbers number
      by_waits id number w true e = own_waits pid held_numbers (λ n. false) m.threads no_answers id number e w
      by_waits id number w false e = other_waits id number e w

      by_receives : (id : ThreadId) (x : Thread) (serial : Serial) → m.threads id ≡ Some x → x.state ≡ Receiving serial → (b : Bool)
          → (id.pid.0 == pid.0) ≡ b → second_answers id ≡ None
      by_receives id x serial there s true e =
          none_if (second_answers id) (own_receives pid held_numbers (λ n. false) m.threads no_answers id x serial e there s)
      by_receives id x serial there s false e = other_answer pid held_numbers (λ n. false) m.threads no_answers id e

  pub held_below : AreBelow held_numbers m.next_number
  held_below number e =
      let at : PassingServer m (λ n server. list_any (λ x. is_of_number number x && is_sent_from pid x) server.held) = passing_server m _ e in
      let place = listed_at (λ x. is_of_number number x && is_sent_from pid x) at.server.held at.passes in
      let x : Message = get_or at.server.held place.0 place.1 in
      let parts = and_parts (is_of_number number x) (is_sent_from pid x) place.3 in
      let low : x.number.0 < m.next_number =
      all_right (λ y. y.number.0 < m.next_number) at.server.queued at.server.held
      (h.rest.above.numbers at.serial at.server at.live) place.0 place.1 place.2 in
      let same : x.number.0 ≡ number.0 = eqb-true x.number.0 number.0 parts.0 in
      omega arith

  -- ---- the machine once that is done

  abbrev pub held_gone_machine : Machine
  held_gone_machine = record m {
    ledger = orphan_loans m.processes held_numbers m.ledger;
    threads = answered m.threads second_answers;
    servers = λ n. option_map (with_senderless_from pid) (m.servers n);
  }

  pub held_gone_matched : Matched held_gone_machine
  held_gone_matched =
      subst (λ s. Matched (record held_gone_machine { servers = s })) (λ i k. same_servers k i) (record {
        body = alone_body m.processes m.capacity m.ledger m.threads m.process m.servers held_numbers second_answers m.next_number held_below h.body is_left_alone;
        rest = record {
          handlers = h.rest.handlers;
          claims = h.rest.claims;
          above = alone_above m.processes m.capacity m.ledger m.threads m.process m.servers held_numbers second_answers m.next_number held_below h.body
              is_left_alone m.next_number m.next_serial h.rest.above;
          stepped = h.rest.stepped;
          timer = h.rest.timer;
        };
      })
