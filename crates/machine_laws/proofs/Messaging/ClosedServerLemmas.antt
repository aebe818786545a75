-- Servers that close: which numbers are those of their messages, and who is answered as a sender. Where the thread of a number waits, it
-- is a sender exactly where the number is one of these.
use Rattle.std.proofs.Common.{[], ◌≡◌, ◌≢◌, ℕ, ◌<◌, Bool, true, false, inl, inr, List, ◌∷◌, filter, get_or, Option, Some, None, refl, sym, ap, ◌∙◌, arith, subst}
use Rattle.std.specs.Prelude.{◌&&◌, if◌then◌else◌, not}
use Rattle.std.specs.List.{All, list_any}
use Rattle.std.specs.Option.{option_map, option_map_or}
use Rattle.std.proofs.lemmas.Bool.{and_from, and_left, and_parts, and_right, eq-eqb, eqb-true, false≢true}
use Rattle.xk_base.specs.declared.ids.Number.{Number}
use Rattle.xk_base.specs.declared.ids.Serial.{Serial}
use Rattle.xk_base.specs.declared.ids.ThreadId.{ThreadId}
use Rattle.xk_base.specs.declared.messages.Message.{Message}
use Rattle.xk_base.specs.Tables.Circle.{same_thread}
use Rattle.machine_model.specs.Ending.Closing.{is_message_at, is_sender_at}
use Rattle.machine_model.specs.Messaging.MessageCounts.{count_at, count_in}
use Rattle.machine_model.specs.Messaging.Messages.{is_of_number, is_sent_by}
use Rattle.machine_model.specs.Runs.Matched.{Matched, is_sent_as, is_waiting_for, waits_for}
use Rattle.machine_model.specs.State.Machine.{Machine, Server, Thread, Receiving}
use Rattle.machine_model.specs.State.Servers.{messages_of}
use Rattle.machine_model.proofs.Matching.CountLemmas.{none_pass}
use Rattle.machine_model.proofs.Matching.LoanSetStepLemmas.{AreBelow}
use Rattle.machine_model.proofs.Matching.MatchedLemmas.{senders_wait}
use Rattle.machine_model.proofs.Matching.OneMessageLemmas.{same_or_not}
use Rattle.machine_laws.proofs.Threading.ThreadPutLemmas.{alike}
use Rattle.machine_laws.proofs.Messaging.AnyServerLemmas.{a_server, held_only_here, no_server, only_server, queued_only_here}
use Rattle.machine_laws.proofs.Messaging.FilterLemmas.{filter_alike}
use Rattle.machine_laws.proofs.Messaging.ListedLemmas.{PassingServer, all_fail, at_listed, listed_at, not_counted, passing_server}
use Rattle.machine_laws.proofs.Messaging.WaitedForLemmas.{WaitedFor, waited_for, waits_for_one}
use Rattle.machine_laws.proofs.Messaging.RemovalLemmas.{left, servers_left}

and_true : (a b : Bool) → b ≡ true → (a && b) ≡ a
and_true true b e = e
and_true false b e = refl

pub all_kept : (xs : List Message) → filter (λ x. true) xs ≡ xs
all_kept [] = refl
all_kept (x ∷ xs) = ap (λ ys. x ∷ ys) (all_kept xs)

module _ (m : Machine) (h : Matched m) (which : ℕ → Bool) where
  abbrev pub gone : Number → Bool
  gone = is_message_at which m

  low_serial : (k : ℕ) (server : Server) → m.servers k ≡ Some server → k < m.next_serial
  low_serial = h.rest.above.serials

  module _ (k : ℕ) (server : Server) (e : m.servers k ≡ Some server) (stays : which k ≡ false) where
    -- where no other server has one of the number, and this one stays, it isn't one of the closed servers'
    pub not_closed : (number : Number) → ((n : ℕ) → n ≢ k → count_at (is_of_number number) (m.servers n) ≡ 0) → gone number ≡ false
    not_closed number elsewhere = no_server m _ (λ n other q. elim (same_or_not n k) [
      | inl same ↦ and_left (which n) (list_any (is_of_number number) (messages_of other)) (ap which same ∙ stays)
      | inr apart ↦ and_right (which n) (list_any (is_of_number number) (messages_of other))
          (not_counted (is_of_number number) (messages_of other) (sym (ap (count_at (is_of_number number)) q) ∙ elsewhere n apart))
    ])

    queued_stays : All (λ x. gone x.number ≡ false) server.queued
    queued_stays j d low = not_closed (get_or server.queued j d).number (queued_only_here m.servers h.body.servers.numbers k server e j d low)

    held_stays : All (λ x. gone x.number ≡ false) server.held
    held_stays j d low = not_closed (get_or server.held j d).number (held_only_here m.servers h.body.servers.numbers k server e j d low)

    server_stays : left gone server ≡ server
    server_stays = λ i. record server {
      queued = (filter_alike (λ x. not (gone x.number)) (λ x. true) server.queued (λ j d low. ap not (queued_stays j d low)) ∙ all_kept server.queued) i;
      held = (filter_alike (λ x. not (gone x.number)) (λ x. true) server.held (λ j d low. ap not (held_stays j d low)) ∙ all_kept server.held) i;
    }

  -- the other servers are left as they are
  pub same_servers : (k : ℕ) → servers_left gone which m.servers k ≡ (if which k then None else m.servers k)
  same_servers k = go (m.servers k) refl (which k) refl
    where
      go : (o : Option Server) → m.servers k ≡ o → (b : Bool) → which k ≡ b
          → (if b then None else option_map (left gone) o) ≡ (if b then None else o)
      go o e true q = refl
      go None e false q = refl
      go (Some server) e false q = ap Some (server_stays k server e q)

  pub emptied : (k : ℕ) (server : Server) → m.servers k ≡ Some server → which k ≡ true → All (λ x. gone x.number ≡ true) (messages_of server)
  emptied k server e q j d low =
      a_server m (λ n other. which n && list_any (is_of_number (get_or (messages_of server) j d).number) (messages_of other)) k server e
      (low_serial k server e)
      (and_from (which k) (list_any (is_of_number (get_or (messages_of server) j d).number) (messages_of server)) q
      (at_listed (is_of_number (get_or (messages_of server) j d).number) (messages_of server) j d low
      (eq-eqb (get_or (messages_of server) j d).number.0 (get_or (messages_of server) j d).number.0 refl)))

  -- a thread that sent none of a server's messages
  sent_none : (id : ThreadId) (n : ℕ) (server : Server) → m.servers n ≡ Some server
      → ((number : Number) → waits_for m.threads id number ≡ true → count_in (is_sent_as id number) (messages_of server) ≡ 0)
      → list_any (is_sent_by id) (messages_of server) ≡ false
  sent_none id n server e none = all_fail (is_sent_by id) (messages_of server) at
    where
      at : All (λ x. is_sent_by id x ≡ false) (messages_of server)
      at j d low = by_sender (is_sent_by id (get_or (messages_of server) j d)) refl
        where
          sender_is : (o : Option ThreadId) → (get_or (messages_of server) j d).sender ≡ o → option_map_or (same_thread id) o false ≡ true
              → waits_for m.threads id (get_or (messages_of server) j d).number ≡ true
          sender_is None q r = absurd (false≢true r)
          sender_is (Some who) q r =
              subst (λ w. waits_for m.threads w (get_or (messages_of server) j d).number ≡ true) (sym (alike id who r))
              (senders_wait m h n server e j d low who q)

          by_sender : (b : Bool) → is_sent_by id (get_or (messages_of server) j d) ≡ b → b ≡ false
          by_sender false q = refl
          by_sender true q =
              let waits : waits_for m.threads id (get_or (messages_of server) j d).number ≡ true =
              sender_is (get_or (messages_of server) j d).sender refl q in
              absurd (false≢true (sym (none_pass (is_sent_as id (get_or (messages_of server) j d).number) (messages_of server)
              (none (get_or (messages_of server) j d).number waits) j d low)
              ∙ and_from (is_of_number (get_or (messages_of server) j d).number (get_or (messages_of server) j d)) (is_sent_by id (get_or (messages_of server) j d))
              (eq-eqb (get_or (messages_of server) j d).number.0 (get_or (messages_of server) j d).number.0 refl) q))

  module _ (id : ThreadId) (number : Number) (w : waits_for m.threads id number ≡ true) where
    -- it is answered as a sender exactly where its message is at a server that closes
    sender_is : (x : WaitedFor m id number) → is_sender_at which m id ≡ which x.serial
    sender_is x =
        only_server m (λ n server. which n && list_any (is_sent_by id) (messages_of server)) x.serial x.server x.live (low_serial x.serial x.server x.live)
        (λ n server apart e. and_right (which n) (list_any (is_sent_by id) (messages_of server)) (sent_none id n server e (λ k v.
        let same : k.0 ≡ number.0 = waits_for_one m id number w k v in
        sym (ap (count_at (is_sent_as id k)) e)
        ∙ subst (λ (q : Number). count_at (is_sent_as id q) (m.servers n) ≡ 0) (λ i. record { 0 = sym same i }) (x.not_sent n apart))))
        ∙ and_true (which x.serial) (list_any (is_sent_by id) (messages_of x.server))
        (at_listed (is_sent_by id) (messages_of x.server) x.place x.spare x.within x.by)

    closed_is : (x : WaitedFor m id number) → gone number ≡ which x.serial
    closed_is x =
        only_server m (λ n server. which n && list_any (is_of_number number) (messages_of server)) x.serial x.server x.live (low_serial x.serial x.server x.live)
        (λ n server apart e. and_right (which n) (list_any (is_of_number number) (messages_of server))
        (not_counted (is_of_number number) (messages_of server) (sym (ap (count_at (is_of_number number)) e) ∙ x.elsewhere n apart)))
        ∙ and_true (which x.serial) (list_any (is_of_number number) (messages_of x.server))
        (at_listed (is_of_number number) (messages_of x.server) x.place x.spare x.within
        (eq-eqb (get_or (messages_of x.server) x.place x.spare).number.0 number.0 (ap (λ (k : Number). k.0) x.same)))

    pub sender_where_closed : is_sender_at which m id ≡ gone number
    sender_where_closed = sender_is (waited_for m h id number w) ∙ sym (closed_is (waited_for m h id number w))

  -- a thread that waits for no answer is no sender
  pub no_sender : (id : ThreadId) → ((number : Number) → waits_for m.threads id number ≡ false) → is_sender_at which m id ≡ false
  no_sender id never = no_server m _ (λ n server e.
      and_right (which n) (list_any (is_sent_by id) (messages_of server))
      (sent_none id n server e (λ number v. absurd (false≢true (sym (never number) ∙ v)))))

  -- .. and so is one that receives
  pub receiver_is_no_sender : (id : ThreadId) (x : Thread) (serial : Serial) → m.threads id ≡ Some x → x.state ≡ Receiving serial
      → is_sender_at which m id ≡ false
  receiver_is_no_sender id x serial there s = no_sender id never
    where
      never : (number : Number) → waits_for m.threads id number ≡ false
      never number = ap (λ o. option_map_or (λ (y : Thread). is_waiting_for number y.state) o false) there ∙ ap (is_waiting_for number) s

  -- the numbers of messages are below the next one
  pub listed_below : (number : Number) (n : ℕ) (server : Server) → m.servers n ≡ Some server → list_any (is_of_number number) (messages_of server) ≡ true
      → number.0 < m.next_number
  listed_below number n server e q =
      let at = listed_at (is_of_number number) (messages_of server) q in
      let low : (get_or (messages_of server) at.0 at.1).number.0 < m.next_number = h.rest.above.numbers n server e at.0 at.1 at.2 in
      let same : (get_or (messages_of server) at.0 at.1).number.0 ≡ number.0 = eqb-true (get_or (messages_of server) at.0 at.1).number.0 number.0 at.3 in
      omega arith

  pub closed_below : AreBelow gone m.next_number
  closed_below number q =
      let at : PassingServer m (λ n server. which n && list_any (is_of_number number) (messages_of server)) = passing_server m _ q in
      listed_below number at.serial at.server at.live (and_parts (which at.serial) (list_any (is_of_number number) (messages_of at.server)) at.passes).1
