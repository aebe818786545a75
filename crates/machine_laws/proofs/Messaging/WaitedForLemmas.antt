-- The message for whose answer a thread waits.
use Rattle.std.proofs.Common.{◌≡◌, ◌≢◌, ℕ, ◌<◌, ◌≤◌, true, false, inl, inr, get_or, length, Option, Some, None, refl, sym, ap, ◌∙◌, arith, subst}
use Rattle.std.specs.Prelude.{◌==◌, ◌&&◌}
use Rattle.std.specs.List.{list_any}
use Rattle.std.specs.Option.{option_map_or}
use Rattle.std.proofs.lemmas.Bool.{and_parts, eqb-true, false≢true}
use Rattle.std.proofs.lemmas.Option.{same_Some}
use Rattle.xk_base.specs.declared.ids.Number.{Number}
use Rattle.xk_base.specs.declared.ids.Pid.{Pid}
use Rattle.xk_base.specs.declared.ids.ThreadId.{ThreadId}
use Rattle.xk_base.specs.declared.messages.Message.{Message}
use Rattle.xk_base.specs.Tables.Circle.{same_thread}
use Rattle.machine_model.specs.Messaging.MessageCounts.{HasIf, HasOne, count_at, count_in}
use Rattle.machine_model.specs.Messaging.Messages.{is_of_number, is_sent_by, is_sent_from}
use Rattle.machine_model.specs.Runs.Matched.{Matched, is_sent_as, is_waiting_for, waits_for}
use Rattle.machine_model.specs.State.Machine.{Machine, Server, Thread, ThreadState, Ready, Receiving, Waiting, Joining, Idle}
use Rattle.machine_model.specs.State.Servers.{messages_of}
use Rattle.machine_model.proofs.Matching.CountLemmas.{first_in}
use Rattle.machine_model.proofs.Matching.OneMessageLemmas.{same_or_not}
use Rattle.machine_laws.proofs.Messaging.AnyServerLemmas.{messages_apart, none_listed, number_counted, one_listed, only_at}
use Rattle.machine_laws.proofs.Threading.ThreadPutLemmas.{alike}

-- the one message for whose answer the thread waits: where it is, and where else there is none of its number
pub record WaitedFor (m : Machine) (id : ThreadId) (number : Number) : Type 0 where
  pub serial : ℕ
  pub server : Server
  pub live : m.servers serial ≡ Some server
  pub place : ℕ
  pub spare : Message
  pub within : place < length (messages_of server)
  pub same : (get_or (messages_of server) place spare).number ≡ number
  pub by : is_sent_by id (get_or (messages_of server) place spare) ≡ true
  pub elsewhere : (n : ℕ) → n ≢ serial → count_at (is_of_number number) (m.servers n) ≡ 0
  pub not_sent : (n : ℕ) → n ≢ serial → count_at (is_sent_as id number) (m.servers n) ≡ 0

-- a thread waits for one number alone
module _ (m : Machine) (id : ThreadId) (number : Number) (w : waits_for m.threads id number ≡ true) where
  pub waits_for_one : (k : Number) → waits_for m.threads id k ≡ true → k.0 ≡ number.0
  waits_for_one k v = go (m.threads id) w v
    where
      of_state : (s : ThreadState) → is_waiting_for number s ≡ true → is_waiting_for k s ≡ true → k.0 ≡ number.0
      of_state Ready a b = absurd (false≢true a)
      of_state (Receiving serial) a b = absurd (false≢true a)
      of_state (Waiting one) a b =
          let left : one.0 ≡ number.0 = eqb-true one.0 number.0 a in
          let right : one.0 ≡ k.0 = eqb-true one.0 k.0 b in
          sym right ∙ left
      of_state (Joining tid) a b = absurd (false≢true a)
      of_state Idle a b = absurd (false≢true a)

      go : (o : Option Thread) → option_map_or (λ x. is_waiting_for number x.state) o false ≡ true
          → option_map_or (λ x. is_waiting_for k x.state) o false ≡ true → k.0 ≡ number.0
      go None a b = absurd (false≢true a)
      go (Some x) a b = of_state x.state a b

module _ (m : Machine) (h : Matched m) (id : ThreadId) (number : Number) (w : waits_for m.threads id number ≡ true) where
  one : HasOne m.servers (is_sent_as id number)
  one = subst (λ b. HasIf b m.servers (is_sent_as id number)) w (h.body.senders.senders id number)

  pub waited_for : WaitedFor m id number
  waited_for = go (m.servers one.serial) refl one.here
    where
      go : (o : Option Server) → m.servers one.serial ≡ o → count_at (is_sent_as id number) o ≡ 1 → WaitedFor m id number
      go None e c = absurd (omega arith)
      go (Some server) e c =
          let at = first_in (is_sent_as id number) (messages_of server) (omega arith) in
          let x : Message = get_or (messages_of server) at.0 at.1 in
          let parts : (is_of_number number x ≡ true) × (is_sent_by id x ≡ true) = and_parts (is_of_number number x) (is_sent_by id x) at.3 in
          let named : x.number.0 ≡ number.0 = eqb-true x.number.0 number.0 parts.0 in
          let same : x.number ≡ number = λ i. record { 0 = named i } in
          let some : 1 ≤ count_in (is_of_number x.number) (messages_of server) = number_counted (messages_of server) at.0 at.1 at.2 in
          let there : 1 ≤ count_at (is_of_number number) (m.servers one.serial) =
          subst (λ k. 1 ≤ count_at (is_of_number k) (m.servers one.serial)) same
          (subst (λ q. 1 ≤ count_at (is_of_number x.number) q) (sym e) some) in
          record {
            serial = one.serial;
            server = server;
            live = e;
            place = at.0;
            spare = at.1;
            within = at.2;
            same = same;
            by = parts.1;
            elsewhere = only_at m.servers h.body.servers.numbers number one.serial there;
            not_sent = one.elsewhere;
          }

  -- where the thread is of another process, no message of the number is from this one
  module _ (pid : Pid) (other : (id.pid.0 == pid.0) ≡ false) where
    not_from : (x : WaitedFor m id number) → is_sent_from pid (get_or (messages_of x.server) x.place x.spare) ≡ false
    not_from x = go (get_or (messages_of x.server) x.place x.spare).sender x.by
      where
        go : (o : Option ThreadId) → option_map_or (same_thread id) o false ≡ true → option_map_or (λ (who : ThreadId). who.pid.0 == pid.0) o false ≡ false
        go None q = absurd (false≢true q)
        go (Some who) q = sym (ap (λ (v : ThreadId). v.pid.0 == pid.0) (alike id who q)) ∙ other

    here : (x : WaitedFor m id number) → list_any (λ z. is_of_number number z && is_sent_from pid z) (messages_of x.server) ≡ false
    here x =
        subst (λ (k : Number). list_any (λ z. is_of_number k z && is_sent_from pid z) (messages_of x.server) ≡ false) x.same
        (one_listed (is_sent_from pid) (messages_of x.server) (messages_apart m.servers h.body.servers.numbers x.serial x.server x.live)
        x.place x.spare x.within ∙ not_from x)

    pub waited_not_from : (n : ℕ) (server : Server) → m.servers n ≡ Some server
        → list_any (λ z. is_of_number number z && is_sent_from pid z) (messages_of server) ≡ false
    waited_not_from n server e = elim (same_or_not n waited_for.serial) [
      | inl same ↦
          let is : waited_for.server ≡ server = same_Some waited_for.server server (sym waited_for.live ∙ sym (ap m.servers same) ∙ e) in
          subst (λ (y : Server). list_any (λ z. is_of_number number z && is_sent_from pid z) (messages_of y) ≡ false) is (here waited_for)
      | inr apart ↦
          none_listed number (is_sent_from pid) (messages_of server) (sym (ap (count_at (is_of_number number)) e) ∙ waited_for.elsewhere n apart)
    ]
