-- The threads of a process that shares nothing are answered by nobody.
use Rattle.std.proofs.Common.{◌≡◌, ℕ, Bool, ◌&&◌, true, false, List, Option, Some, None, refl, sym, ap, ◌∙◌, subst}
use Rattle.std.specs.Prelude.{◌==◌}
use Rattle.std.specs.List.{All, Contains}
use Rattle.std.specs.Option.{option_map_or}
use Rattle.std.proofs.lemmas.Bool.{and_from, eq-eqb, eqb-true, false≢true}
use Rattle.xk_base.specs.declared.ids.Number.{Number}
use Rattle.xk_base.specs.declared.ids.Pid.{Pid}
use Rattle.xk_base.specs.declared.ids.Serial.{Serial}
use Rattle.xk_base.specs.declared.ids.ThreadId.{ThreadId}
use Rattle.xk_base.specs.declared.messages.Message.{Message}
use Rattle.xk_base.specs.Tables.Circle.{same_thread}
use Rattle.machine_model.specs.Messaging.MessageCounts.{HasIf, HasNone, count_at}
use Rattle.machine_model.specs.Messaging.Messages.{is_of_number, is_sent_by}
use Rattle.machine_model.specs.Messaging.Receivers.{is_receiving, receiving_at}
use Rattle.machine_model.specs.Runs.Matched.{IsServerAwaited, Matched, is_sent_as}
use Rattle.machine_model.specs.State.Machine.{Claim, Idle, Joining, Machine, Ready, Receiving, Server, Thread, ThreadState, Waiting}
use Rattle.machine_model.specs.State.Servers.{messages_of}
use Rattle.machine_model.specs.State.Threads.{thread_id}
use Rattle.machine_model.proofs.Matching.CountLemmas.{all_right, none_pass}
use Rattle.noninterference_laws.specs.Fates.{Answered, Doing, IsAnswered, Receives, Returned, ThreadFate, ThreadStays, Unserved}
use Rattle.lifetime_laws.specs.Untouched.{SharesNothing}

same_thread-refl : (id : ThreadId) → same_thread id id ≡ true
same_thread-refl id =
    and_from (id.pid.0 == id.pid.0) (id.tid.0 == id.tid.0) (eq-eqb id.pid.0 id.pid.0 refl) (eq-eqb id.tid.0 id.tid.0 refl)

-- a thread that is Receiving has a state that says so
receiving_state : (serial : Serial) (state : ThreadState) → is_receiving serial state ≡ true → (other : Serial) × (state ≡ Receiving other)
receiving_state serial Ready e = absurd (false≢true e)
receiving_state serial (Receiving other) e = (other, refl)
receiving_state serial (Waiting number) e = absurd (false≢true e)
receiving_state serial (Joining tid) e = absurd (false≢true e)
receiving_state serial Idle e = absurd (false≢true e)

module _ (m : Machine) (h : Matched m) (pid : Pid) (alone : SharesNothing pid m) (id : ThreadId) (own : id.pid ≡ pid) where
  -- it receives nowhere
  not_receiving : (serial : Serial) → receiving_at m serial id ≡ true → ⊥
  not_receiving serial e = go (m.threads id) refl e
    where
      of_state : (thread : Thread) → m.threads id ≡ Some thread → (other : Serial) → thread.state ≡ Receiving other → ⊥
      of_state thread there other is =
          let at : IsServerAwaited m.servers id.pid other = h.body.receivers id thread other there is in
          alone.servers other.0 at.server at.live (at.own ∙ own)

      go : (o : Option Thread) → m.threads id ≡ o → option_map_or (λ t. is_receiving serial t.state) o false ≡ true → ⊥
      go None there f = false≢true f
      go (Some thread) there f = let is = receiving_state serial thread.state f in of_state thread there is.0 is.1

  -- no message has it as its sender
  none_sent : (number : Number) → HasNone m.servers (is_sent_as id number)
  none_sent number =
      subst (λ b. HasIf b m.servers (is_sent_as id number)) (alone.messages id number own) (h.body.senders.senders id number)

  none_at : (number : Number) (n : ℕ) (server : Server) → m.servers n ≡ Some server → All (λ x. is_sent_as id number x ≡ false) (messages_of server)
  none_at number n server live =
      none_pass (is_sent_as id number) (messages_of server) (sym (ap (count_at (is_sent_as id number)) live) ∙ none_sent number n)

  its_message : (message : Message) → message.sender ≡ Some id → is_sent_as id message.number message ≡ true
  its_message message sender =
      and_from (is_of_number message.number message) (is_sent_by id message) (eq-eqb message.number.0 message.number.0 refl)
      (ap (λ o. option_map_or (same_thread id) o false) sender ∙ same_thread-refl id)

  not_in : (list : List Message) (message : Message) → All (λ x. is_sent_as id message.number x ≡ false) list → Contains list message
      → message.sender ≡ Some id → ⊥
  not_in list message none at sender =
      false≢true
      (sym (none at.0 message at.1) ∙ (ap (is_sent_as id message.number) at.2 ∙ its_message message sender))

  not_answered : (doing : Doing) → doing.before ≡ m → (servers : ℕ → Option Server) (words : List ℕ) → IsAnswered doing servers id words → ⊥
  not_answered doing same servers words (Receives made message serial is brought receives told) =
      not_receiving serial (ap (λ (x : Machine). receiving_at x serial id) (sym same) ∙ receives)
  not_answered doing same servers words (Returned made message is named held sender tells) =
      not_in held.server.held message
      (all_right (λ x. is_sent_as id message.number x ≡ false) held.server.queued held.server.held
      (none_at message.number held.serial held.server (ap (λ (x : Machine). x.servers held.serial) (sym same) ∙ held.live)))
      held.there sender
  not_answered doing same servers words (Unserved message at sender gone told) =
      not_in (messages_of at.server) message
      (none_at message.number at.serial at.server (ap (λ (x : Machine). x.servers at.serial) (sym same) ∙ at.live)) at.there sender

  pub thread_stays : (doing : Doing) → doing.before ≡ m → (servers : ℕ → Option Server) (later : Option Thread)
      → ThreadFate doing servers id later → later ≡ m.threads id
  thread_stays doing same servers later (ThreadStays is) = is ∙ ap (λ (x : Machine). x.threads id) same
  thread_stays doing same servers later (Answered thread words there why is) = absurd (not_answered doing same servers words why)

-- it isn't a thread that an interrupt can start
pub not_started : (m : Machine) (pid : Pid) (k : ℕ) → SharesNothing pid m → (id : ThreadId) → id.pid ≡ pid
    → option_map_or (λ (claim : Claim). same_thread id (thread_id claim.pid 1)) (m.claims k) false ≡ false
not_started m pid k alone id own = go (m.claims k) refl
  where
    of_claim : (claim : Claim) → m.claims k ≡ Some claim → (b : Bool) → (id.pid.0 == claim.pid.0) ≡ b → (b && (id.tid.0 == 1)) ≡ false
    of_claim claim there true e =
        absurd (alone.claims k claim there ((λ i. record { 0 = sym (eqb-true id.pid.0 claim.pid.0 e) i }) ∙ own))
    of_claim claim there false e = refl

    go : (o : Option Claim) → m.claims k ≡ o → option_map_or (λ (claim : Claim). same_thread id (thread_id claim.pid 1)) o false ≡ false
    go None there = refl
    go (Some claim) there = of_claim claim there (id.pid.0 == claim.pid.0) refl
