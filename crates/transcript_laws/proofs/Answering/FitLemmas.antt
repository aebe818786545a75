-- Whom a served call answers, and what it leaves of the threads.
use Rattle.std.proofs.Common.{◌≡◌, ℕ, Bool, true, false, Option, Some, None, refl, sym, ap, ◌∙◌, subst}
use Rattle.std.specs.Prelude.{◌&&◌, slice_index_or}
use Rattle.std.specs.List.{All, list_any}
use Rattle.std.specs.Option.{option_map_or}
use Rattle.std.proofs.lemmas.Bool.{and_from, eq-eqb, false≢true}
use Rattle.std.proofs.lemmas.List.Folds.{list_any_none}
use Rattle.xk_base.specs.declared.ids.Number.{Number}
use Rattle.xk_base.specs.declared.ids.Serial.{Serial}
use Rattle.xk_base.specs.declared.ids.ThreadId.{ThreadId}
use Rattle.xk_base.specs.declared.messages.Message.{Message}
use Rattle.machine_model.specs.Ending.Closing.{is_sender_at}
use Rattle.machine_model.specs.Messaging.MessageCounts.{HasIf, count_at}
use Rattle.machine_model.specs.Messaging.Messages.{is_of_number, is_sent_by}
use Rattle.machine_model.specs.Messaging.Receivers.{is_receiving, receiver, receiving_at}
use Rattle.machine_model.specs.Runs.Matched.{Matched, is_sent_as, is_waiting_for, waits_for}
use Rattle.machine_model.specs.State.Machine.{Idle, Joining, Machine, Ready, Receiving, Server, Thread, ThreadState, Waiting}
use Rattle.machine_model.specs.State.Servers.{messages_of}
use Rattle.machine_model.proofs.Matching.CountLemmas.{none_pass}
use Rattle.machine_laws.proofs.Messaging.AnyServerLemmas.{no_server}
use Rattle.machine_laws.proofs.Sending.SentReceiverLemmas.{receiver_receives}
use Rattle.transcript_laws.specs.Answering.{awaits_reply, is_waiting}

-- ---- who waits

waiting_for_waits : (number : Number) (s : ThreadState) → is_waiting_for number s ≡ true → awaits_reply s ≡ true
waiting_for_waits number Ready e = absurd (false≢true e)
waiting_for_waits number (Receiving serial) e = refl
waiting_for_waits number (Waiting other) e = refl
waiting_for_waits number (Joining tid) e = refl
waiting_for_waits number Idle e = absurd (false≢true e)

waits_for_waits : (number : Number) (o : Option Thread) → option_map_or (λ t. is_waiting_for number t.state) o false ≡ true → is_waiting o ≡ true
waits_for_waits number None e = absurd (false≢true e)
waits_for_waits number (Some t) e = waiting_for_waits number t.state e

receiving_waits : (serial : Serial) (s : ThreadState) → is_receiving serial s ≡ true → awaits_reply s ≡ true
receiving_waits serial Ready e = absurd (false≢true e)
receiving_waits serial (Receiving other) e = refl
receiving_waits serial (Waiting other) e = refl
receiving_waits serial (Joining tid) e = refl
receiving_waits serial Idle e = absurd (false≢true e)

pub receiving_at_waits : (m : Machine) (serial : Serial) (id : ThreadId) → receiving_at m serial id ≡ true → is_waiting (m.threads id) ≡ true
receiving_at_waits m serial id e = go (m.threads id) e
  where
    go : (o : Option Thread) → option_map_or (λ t. is_receiving serial t.state) o false ≡ true → is_waiting o ≡ true
    go None q = absurd (false≢true q)
    go (Some t) q = receiving_waits serial t.state q

pub receiver_waits : (m : Machine) (serial : Serial) (who : ThreadId) → receiver m serial ≡ Some who → is_waiting (m.threads who) ≡ true
receiver_waits m serial who e =
    let at = receiver_receives m serial who e in
    ap is_waiting at.1 ∙ ap awaits_reply at.2

-- ids with the same numbers have the same thread
pub same_waits : (m : Machine) (a b : ThreadId) → a ≡ b → is_waiting (m.threads b) ≡ true → is_waiting (m.threads a) ≡ true
same_waits m a b e w = ap (λ x. is_waiting (m.threads x)) e ∙ w

-- ---- a sender waits

module _ (m : Machine) (h : Matched m) (who : ThreadId) (free : is_waiting (m.threads who) ≡ false) where
  not_for : (number : Number) → waits_for m.threads who number ≡ false
  not_for number = go (waits_for m.threads who number) refl
    where
      go : (b : Bool) → waits_for m.threads who number ≡ b → b ≡ false
      go false e = refl
      go true e = absurd (false≢true (sym free ∙ waits_for_waits number (m.threads who) e))

  sent_as_none : (number : Number) (n : ℕ) → count_at (is_sent_as who number) (m.servers n) ≡ 0
  sent_as_none number = subst (λ b. HasIf b m.servers (is_sent_as who number)) (not_for number) (h.body.senders.senders who number)

  -- no message is from a thread that doesn't wait
  pub no_sender : (n : ℕ) (server : Server) → m.servers n ≡ Some server → All (λ x. is_sent_by who x ≡ false) (messages_of server)
  no_sender n server e k d lt = go (is_sent_by who x) refl
    where
      x : Message
      x = slice_index_or (messages_of server) k d

      none : All (λ y. is_sent_as who x.number y ≡ false) (messages_of server)
      none = none_pass (is_sent_as who x.number) (messages_of server) (sym (ap (count_at (is_sent_as who x.number)) e) ∙ sent_as_none x.number n)

      own : is_of_number x.number x ≡ true
      own = eq-eqb x.number.0 x.number.0 refl

      go : (b : Bool) → is_sent_by who x ≡ b → b ≡ false
      go false q = refl
      go true q = absurd (false≢true (sym (none k d lt) ∙ and_from (is_of_number x.number x) (is_sent_by who x) own q))

  pub not_sender_at : (which : ℕ → Bool) → is_sender_at which m who ≡ false
  not_sender_at which =
      no_server m (λ n server. which n && list_any (is_sent_by who) (messages_of server))
      (λ n server e. ap (λ b. which n && b) (list_any_none (is_sent_by who) (messages_of server) (no_sender n server e)) ∙ and_false (which n))
    where
      and_false : (b : Bool) → (b && false) ≡ false
      and_false true = refl
      and_false false = refl

-- by contradiction
pub waits_unless : (o : Option Thread) → (is_waiting o ≡ false → ⊥) → is_waiting o ≡ true
waits_unless o h = go (is_waiting o) refl
  where
    go : (b : Bool) → is_waiting o ≡ b → is_waiting o ≡ true
    go true e = e
    go false e = absurd (h e)

pub sender_at_waits : (m : Machine) → Matched m → (which : ℕ → Bool) (who : ThreadId) → is_sender_at which m who ≡ true → is_waiting (m.threads who) ≡ true
sender_at_waits m h which who e = waits_unless (m.threads who) (λ free. false≢true (sym (not_sender_at m h who free which) ∙ e))
