-- No process outside the set answers a thread of it.
use Rattle.std.proofs.Common.{◌≡◌, ℕ, zero, suc, ◌≤◌, Bool, true, false, List, Option, Some, None, refl, sym, ap, ◌∙◌, arith}
use Rattle.std.specs.List.{Contains}
use Rattle.std.specs.Option.{option_map_or}
use Rattle.std.proofs.lemmas.Bool.{and_from, eq-eqb, false≢true}
use Rattle.std.proofs.lemmas.List.Elements.{Contains-append_right}
use Rattle.std.proofs.lemmas.Option.{same_Some}
use Rattle.xk_base.specs.declared.ids.Number.{Number}
use Rattle.xk_base.specs.declared.ids.Pid.{Pid}
use Rattle.xk_base.specs.declared.ids.Serial.{Serial}
use Rattle.xk_base.specs.declared.ids.ThreadId.{ThreadId}
use Rattle.xk_base.specs.declared.messages.Message.{Message}
use Rattle.xk_base.specs.Tables.Circle.{same_thread}
use Rattle.machine_model.specs.Messaging.MessageCounts.{HasIf, count_at, count_in}
use Rattle.machine_model.specs.Messaging.Messages.{is_of_number, is_sent_by}
use Rattle.machine_model.specs.Messaging.Receivers.{receiving_at}
use Rattle.machine_model.specs.Runs.Matched.{Matched, is_sent_as, waits_for}
use Rattle.machine_model.specs.State.Machine.{Claim, Machine, Server, Thread}
use Rattle.machine_model.specs.State.Servers.{messages_of}
use Rattle.machine_model.specs.State.Threads.{thread_id}
use Rattle.machine_model.proofs.Matching.CountLemmas.{none_pass}
use Rattle.machine_model.proofs.Matching.OneMessageLemmas.{one_is_there}
use Rattle.machine_laws.proofs.Threading.ThreadAnswerLemmas.{same_thread-self}
use Rattle.machine_laws.proofs.Threading.ThreadPutLemmas.{alike}
use Rattle.noninterference_laws.specs.Fates.{Answered, Doing, IsAnswered, IsBrought, MadeCall, Receives, Returned, ThreadFate, ThreadStays}
use Rattle.noninterference_laws.specs.Fates.{Unserved}
use Rattle.lifetime_laws.specs.Waiting.{IsAskedInside, WaitForOneAnother}

-- a message in the list whose sender the thread is counts
sent_counts : (id : ThreadId) (message : Message) (list : List Message) → Contains list message → message.sender ≡ Some id
    → 1 ≤ count_in (is_sent_as id message.number) list
sent_counts id message list at sender = go (count_in (is_sent_as id message.number) list) refl
  where
    its : is_sent_as id message.number message ≡ true
    its =
        and_from (is_of_number message.number message) (is_sent_by id message) (eq-eqb message.number.0 message.number.0 refl)
        (ap (λ o. option_map_or (same_thread id) o false) sender ∙ same_thread-self id)

    go : (n : ℕ) → count_in (is_sent_as id message.number) list ≡ n → 1 ≤ n
    go zero e =
        absurd (false≢true (sym (none_pass (is_sent_as id message.number) list e at.0 message at.1)
        ∙ (ap (is_sent_as id message.number) at.2 ∙ its)))
    go (suc n) e = omega arith

module _ (set : Pid → Bool) (m : Machine) (h : Matched m) (waits : WaitForOneAnother set m) (id : ThreadId) (inside : set id.pid ≡ true) where
  -- the server that has a message of the thread is of a process of the set
  server_inside : (number : Number) (n : ℕ) (server : Server) → m.servers n ≡ Some server
      → 1 ≤ count_in (is_sent_as id number) (messages_of server) → set server.pid ≡ true
  server_inside number n server live has = go (waits_for m.threads id number) refl (h.body.senders.senders id number)
    where
      go : (b : Bool) → waits_for m.threads id number ≡ b → HasIf b m.servers (is_sent_as id number) → set server.pid ≡ true
      go true e one =
          let asked : IsAskedInside set m id number = waits.answers id number inside e in
          let here : count_at (is_sent_as id number) (m.servers n) ≡ count_in (is_sent_as id number) (messages_of server) =
          ap (count_at (is_sent_as id number)) live in
          let there : count_at (is_sent_as id number) (m.servers asked.n) ≡ count_in (is_sent_as id number) (messages_of asked.server) =
          ap (count_at (is_sent_as id number)) asked.live in
          let more : 1 ≤ count_in (is_sent_as id number) (messages_of asked.server) = asked.has in
          let first : n ≡ one.serial = one_is_there m.servers (is_sent_as id number) one n (omega arith) in
          let second : asked.n ≡ one.serial = one_is_there m.servers (is_sent_as id number) one asked.n (omega arith) in
          let same : server ≡ asked.server = same_Some server asked.server (sym live ∙ (ap m.servers (first ∙ sym second) ∙ asked.live)) in
          ap (λ (x : Server). set x.pid) same ∙ asked.inside
      go false e none =
          let here : count_at (is_sent_as id number) (m.servers n) ≡ count_in (is_sent_as id number) (messages_of server) =
          ap (count_at (is_sent_as id number)) live in
          let zero_there : count_at (is_sent_as id number) (m.servers n) ≡ 0 = none n in
          absurd (omega arith)

  -- .. and so not of one outside
  has_inside : (by : Pid) → set by ≡ false → (message : Message) (n : ℕ) (server : Server) → m.servers n ≡ Some server → server.pid ≡ by
      → Contains (messages_of server) message → message.sender ≡ Some id → ⊥
  has_inside by outside message n server live own at sender =
      false≢true
      (sym outside
      ∙ (ap set (sym own) ∙ server_inside message.number n server live (sent_counts id message (messages_of server) at sender)))

  module _ (by : Pid) (outside : set by ≡ false) (call : Option MadeCall)
      (unsent : (made : MadeCall) (serial : Serial) (message : Message) → call ≡ Some made → IsBrought m made serial message
      → receiving_at m serial id ≡ true → ⊥) where
    abbrev doing : Doing
    doing = record { pid = by; call = call; before = m }

    not_answered : (servers : ℕ → Option Server) (words : List ℕ) → IsAnswered doing servers id words → ⊥
    not_answered servers words (Receives made message serial is brought receives told) = unsent made serial message is brought receives
    not_answered servers words (Returned made message is named held sender tells) =
        has_inside by outside message held.serial held.server held.live held.own
        (Contains-append_right held.server.queued held.server.held message held.there) sender
    not_answered servers words (Unserved message at sender gone told) =
        has_inside by outside message at.serial at.server at.live at.own at.there sender

    pub thread_stays : (servers : ℕ → Option Server) (later : Option Thread) → ThreadFate doing servers id later → later ≡ m.threads id
    thread_stays servers later (ThreadStays same) = same
    thread_stays servers later (Answered thread words there why is) = absurd (not_answered servers words why)

-- it isn't the interrupt thread of a process outside
pub not_started : (set : Pid → Bool) (m : Machine) (k : ℕ) → ((claim : Claim) → m.claims k ≡ Some claim → set claim.pid ≡ false)
    → (id : ThreadId) → set id.pid ≡ true → option_map_or (λ (claim : Claim). same_thread id (thread_id claim.pid 1)) (m.claims k) false ≡ false
not_started set m k outside id inside = go (m.claims k) refl
  where
    of_claim : (claim : Claim) → m.claims k ≡ Some claim → (b : Bool) → same_thread id (thread_id claim.pid 1) ≡ b → b ≡ false
    of_claim claim there true e =
        absurd (false≢true (sym (outside claim there)
        ∙ (ap (λ (x : ThreadId). set x.pid) (sym (alike id (thread_id claim.pid 1) e)) ∙ inside)))
    of_claim claim there false e = refl

    go : (o : Option Claim) → m.claims k ≡ o → option_map_or (λ (claim : Claim). same_thread id (thread_id claim.pid 1)) o false ≡ false
    go None there = refl
    go (Some claim) there = of_claim claim there (same_thread id (thread_id claim.pid 1)) refl
