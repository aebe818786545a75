-- Who is answered, and why: who gets the message that a call brings, whose message is returned, and whose server is gone.
use Rattle.std.proofs.Common.{◌≡◌, ℕ, Bool, ◌&&◌, true, false, List, Option, Some, None, refl, sym, ap, ◌∙◌, get_or}
use Rattle.std.specs.Prelude.{if◌then◌else◌}
use Rattle.std.specs.List.{list_any}
use Rattle.std.specs.Option.{option_map, option_map_or, option_or}
use Rattle.std.proofs.lemmas.Bool.{and_parts, eq-eqb, false≢true}
use Rattle.std.proofs.lemmas.List.Elements.{Contains-get_or}
use Rattle.std.proofs.lemmas.Option.{none-some, same_Some}
use Rattle.xk_base.specs.declared.ids.Serial.{Serial}
use Rattle.xk_base.specs.declared.ids.ThreadId.{ThreadId}
use Rattle.xk_base.specs.declared.errors.XousError.TheVariants.{ServerNotFound}
use Rattle.xk_base.specs.declared.messages.Message.{Message}
use Rattle.syscall_codec.specs.ReplyWords.{message_words, refused_words}
use Rattle.xk_base.specs.Tables.Circle.{same_thread}
use Rattle.machine_model.specs.Ending.Closing.{is_sender_at, refused_server}
use Rattle.machine_model.specs.Messaging.Messages.{is_sent_by}
use Rattle.machine_model.specs.Messaging.Receivers.{is_receiving, receiver, receiving_at}
use Rattle.machine_model.specs.Messaging.ReturnCalls.{named_number, sender_gets}
use Rattle.machine_model.specs.State.Machine.{Machine, Server, Thread}
use Rattle.machine_model.specs.State.Servers.{messages_of}
use Rattle.machine_model.specs.State.Threads.{with_answer}
use Rattle.machine_laws.proofs.Messaging.ListedLemmas.{PassingServer, listed_at, passing_server}
use Rattle.machine_laws.proofs.Sending.SentReceiverLemmas.{receiver_receives}
use Rattle.machine_laws.proofs.Threading.ThreadPutLemmas.{alike}
use Rattle.call_effects.specs.Rows.MessageRows.{arrival_answers}
use Rattle.noninterference_laws.proofs.InstructionLemmas.{unanswered}
use Rattle.noninterference_laws.specs.Fates.{Answered, Doing, IsAnswered, IsAtServerOf, IsBrought, MadeCall, Receives, Returned}
use Rattle.noninterference_laws.specs.Fates.{ThreadStays, ThreadFate, Unserved, returned_by}

-- the sender of a message that waits for its answer
pub its_sender : (id : ThreadId) (message : Message) → is_sent_by id message ≡ true → message.sender ≡ Some id
its_sender id message e = go message.sender refl e
  where
    go : (o : Option ThreadId) → message.sender ≡ o → option_map_or (same_thread id) o false ≡ true → message.sender ≡ Some id
    go None q r = absurd (false≢true r)
    go (Some who) q r = q ∙ ap (λ x. Some x) (sym (alike id who r))

module _ (doing : Doing) (servers : ℕ → Option Server) (id : ThreadId) where
  abbrev m : Machine
  m = doing.before

  -- a thread that is there as before, and is answered only with cause
  pub answered_fate : (answer : Option (List ℕ)) (o : Option Thread) → o ≡ m.threads id
      → ((words : List ℕ) → answer ≡ Some words → IsAnswered doing servers id words) → ThreadFate doing servers id (option_map (with_answer answer) o)
  answered_fate None o same why = ThreadStays (unanswered o ∙ same)
  answered_fate (Some words) None same why = ThreadStays same
  answered_fate (Some words) (Some thread) same why = Answered thread words (sym same) (why words refl) refl

  -- who is answered the first or else the second
  abbrev Why : Option (List ℕ) → Type 0
  Why answer = (words : List ℕ) → answer ≡ Some words → IsAnswered doing servers id words

  pub not_why : (answer : Option (List ℕ)) → answer ≡ None → Why answer
  not_why answer none words e = absurd (none-some words (sym none ∙ e))

  pub either_why : (one other : Option (List ℕ)) → Why one → Why other → Why (option_or one other)
  either_why None other why then_ words e = then_ words e
  either_why (Some x) other why then_ words e = why words e

  -- ---- who gets the message

  gets_receiving : (serial : Serial) (who : ThreadId) → receiver m serial ≡ Some who → receiving_at m serial who ≡ true
  gets_receiving serial who e =
      let is = receiver_receives m serial who e in
      ap (λ o. option_map_or (λ (t : Thread). is_receiving serial t.state) o false) is.1
      ∙ (ap (is_receiving serial) is.2 ∙ eq-eqb serial.0 serial.0 refl)

  pub arrival_why : (made : MadeCall) (message : Message) (serial : Serial) → doing.call ≡ Some made → IsBrought m made serial message
      → (o : Option ThreadId) → receiver m serial ≡ o → Why (arrival_answers o message id)
  arrival_why made message serial is brought None e words f = not_why None refl words f
  arrival_why made message serial is brought (Some who) e words f = go (same_thread id who) refl f
    where
      go : (b : Bool) → same_thread id who ≡ b → (if b then Some (message_words message) else None) ≡ Some words
          → IsAnswered doing servers id words
      go false q r = absurd (none-some words r)
      go true q r =
          Receives made message serial is brought (ap (receiving_at m serial) (alike id who q) ∙ gets_receiving serial who e)
          (sym (same_Some (message_words message) words r))

  -- ---- whose message is returned

  pub returned_why : (made : MadeCall) (message : Message) (answer : List ℕ) → doing.call ≡ Some made → message.number ≡ named_number made.words
      → IsAtServerOf doing.pid m (λ server. server.held) message → returned_by made.words ≡ Some answer
      → (o : Option ThreadId) → message.sender ≡ o → Why (sender_gets answer o id)
  returned_why made message answer is named held tells None e words f = not_why None refl words f
  returned_why made message answer is named held tells (Some who) e words f = go (same_thread id who) refl f
    where
      go : (b : Bool) → same_thread id who ≡ b → (if b then Some answer else None) ≡ Some words → IsAnswered doing servers id words
      go false q r = absurd (none-some words r)
      go true q r =
          Returned made message is named held (e ∙ ap (λ x. Some x) (sym (alike id who q)))
          (tells ∙ r)

  -- ---- whose server is gone

  pub unserved_why : (which : ℕ → Bool) → ((n : ℕ) (server : Server) → which n ≡ true → m.servers n ≡ Some server → server.pid ≡ doing.pid)
      → ((n : ℕ) → which n ≡ true → servers n ≡ None) → Why (refused_server (is_sender_at which m) id)
  unserved_why which own gone words e = go (is_sender_at which m id) refl e
    where
      because : is_sender_at which m id ≡ true → refused_words ServerNotFound ≡ words → IsAnswered doing servers id words
      because q r =
          let at : PassingServer m (λ n server. which n && list_any (is_sent_by id) (messages_of server)) =
          passing_server m (λ n server. which n && list_any (is_sent_by id) (messages_of server)) q in
          let parts = and_parts (which at.serial) (list_any (is_sent_by id) (messages_of at.server)) at.passes in
          let place = listed_at (is_sent_by id) (messages_of at.server) parts.1 in
          Unserved (get_or (messages_of at.server) place.0 place.1)
          (record {
            serial = at.serial;
            server = at.server;
            live = at.live;
            own = own at.serial at.server parts.0 at.live;
            there = Contains-get_or (messages_of at.server) place.0 place.1 place.2;
          })
          (its_sender id (get_or (messages_of at.server) place.0 place.1) place.3)
          (gone at.serial parts.0) (sym r)

      go : (b : Bool) → is_sender_at which m id ≡ b → (if b then Some (refused_words ServerNotFound) else None) ≡ Some words
          → IsAnswered doing servers id words
      go false q r = absurd (none-some words r)
      go true q r = because q (same_Some (refused_words ServerNotFound) words r)
