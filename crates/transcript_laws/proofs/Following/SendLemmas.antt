-- An accepted send: its message is queued, or goes to the thread that waits for one.
use Rattle.std.proofs.Common.{◌≡◌, ◌≢◌, ℕ, ◌+◌, ◌<◌, ◌≤◌, ◌⊎◌, inl, inr, Bool, true, false, List, [], ◌∷◌, ◌++◌, Option, Some, None, refl, sym, ap, ◌∙◌, subst, arith}
use Rattle.std.specs.Prelude.{if◌then◌else◌, nat_eq}
use Rattle.std.specs.List.{list_any}
use Rattle.std.specs.Option.{option_map, option_or}
use Rattle.std.proofs.lemmas.Bool.{cases_lt, eq-eqb, eqb-true, false≢true}
use Rattle.xk_base.specs.declared.ids.Number.{Number}
use Rattle.xk_base.specs.declared.ids.Serial.{Serial}
use Rattle.xk_base.specs.declared.ids.ThreadId.{ThreadId}
use Rattle.xk_base.specs.declared.messages.Message.{Message}
use Rattle.xk_base.specs.declared.messages.MsgKind.{MsgKind}
use Rattle.xk_base.specs.declared.messages.MsgKind.TheVariants.{LendMut, Lend, Move, Scalar, BlockingScalar}
use Rattle.syscall_codec.specs.CallNumbers.{send_message, try_send_message}
use Rattle.syscall_codec.specs.CallWords.{call_number, send_address}
use Rattle.xk_base.specs.Calls.Kinds.{is_answered}
use Rattle.syscall_codec.specs.ReplyWords.{message_words, plain_words}
use Rattle.xk_base.specs.Tables.Circle.{is_thread_id, same_thread}
use Rattle.xk_base.specs.Tables.Counting.{put_at}
use Rattle.machine_model.specs.Calling.MemoryCalls.{caller_place}
use Rattle.machine_model.specs.Messaging.Messages.{is_lend, is_of_number, new_message, new_number}
use Rattle.machine_model.specs.Messaging.Receivers.{receiver}
use Rattle.machine_model.specs.Messaging.SendCalls.{sender_answered, sender_left, sent_pages, with_sent}
use Rattle.machine_model.specs.Runs.LoanSpan.{is_send}
use Rattle.machine_model.specs.Runs.Matched.{Matched}
use Rattle.machine_model.specs.State.Changes.{Change}
use Rattle.machine_model.specs.State.Machine.{Machine, Server}
use Rattle.machine_model.specs.State.Servers.{change_server}
use Rattle.machine_model.specs.State.Threads.{Answers, answer_to, both_answers, no_answers}
use Rattle.machine_laws.proofs.Sending.SentReceiverLemmas.{receiver_receives}
use Rattle.call_effects.specs.Effects.{arriving, at_server}
use Rattle.call_effects.specs.Rows.MessageRows.{arrival_answers}
use Rattle.call_effects.proofs.ServedLemmas.{done}
use Rattle.transcript_laws.specs.Following.{Held, Holds, Keeping, Lacks, Over, Queued, Queues, Standing, Stands, Unsent, keeping}
use Rattle.transcript_laws.specs.Following.{keeping_by}
use Rattle.transcript_laws.proofs.Following.KeepLemmas.{change_elsewhere, change_here, change_same, queued_other, queued_this, received_as}
use Rattle.transcript_laws.proofs.Following.KeepLemmas.{received_other, received_this, this_last}
use Rattle.transcript_laws.proofs.Following.ReceiveLemmas.{left_as}
use Rattle.transcript_laws.proofs.Following.SayLemmas.{asks}
use Rattle.transcript_laws.proofs.Following.ServedLemmas.{AnswersSay, Follows, One, Quiet, ServedSays, answer_itself, both_quiet, leaves_it}
use Rattle.transcript_laws.proofs.Following.ServedLemmas.{none_quiet, one_quiet, to_itself}
use Rattle.transcript_laws.proofs.Following.StandLemmas.{holds_not_lacks, now_stands, one_standing, queues_not_lacks, standing_at}
use Rattle.transcript_laws.proofs.Following.StandLemmas.{unsent_lacks}
use Rattle.transcript_laws.proofs.Following.TellLemmas.{CallSays, IsQuiet, Sends}
use Rattle.transcript_laws.proofs.CallKindUseLemmas.{of_either}
use Rattle.transcript_laws.specs.CallKinds.{IsSending, place_at_server, sending}

-- ---- an arrival

-- it isn't there twice
pub lacks_both : (a b : Bool) → keeping_by a b ≡ Lacks → (a ≡ false) × (b ≡ false)
lacks_both true b e = absurd (let q : Queues ≡ Lacks = e in cc)
lacks_both false true e = absurd (let q : Holds ≡ Lacks = e in cc)
lacks_both false false e = (refl, refl)

-- a lend has an answer
pub lend_answered : (kind : MsgKind) → is_lend kind ≡ true → is_answered kind ≡ true
lend_answered LendMut e = refl
lend_answered Lend e = refl
lend_answered Move e = absurd (false≢true e)
lend_answered Scalar e = absurd (false≢true e)
lend_answered BlockingScalar e = refl

module _ (number : Number) (x : Message) where
  -- a message of another number
  pub arrival_other : is_of_number number x ≡ false → (o : Option ThreadId) (server : Server)
      → keeping number (Some (at_server (arriving o x) server)) ≡ keeping number (Some server)
  arrival_other e None server = queued_other number x server e
  arrival_other e (Some who) server = received_other number x server e

  -- how it is kept then
  abbrev pub arrived_as : Option ThreadId → Keeping
  arrived_as None = Queues
  arrived_as (Some who) = received_as (is_answered x.kind)

  pub arrival_this : is_of_number number x ≡ true → (o : Option ThreadId) (server : Server) → keeping number (Some server) ≡ Lacks
      → keeping number (Some (at_server (arriving o x) server)) ≡ arrived_as o
  arrival_this e None server lacks = queued_this number x server e
  arrival_this e (Some who) server lacks =
      let both = lacks_both (list_any (is_of_number number) server.queued) (list_any (is_of_number number) server.held) lacks in
      received_this number x server e both.0 both.1

  -- where it has an answer, the server has it then
  pub arrival_kept : is_of_number number x ≡ true → is_answered x.kind ≡ true → (o : Option ThreadId) (server : Server)
      → keeping number (Some (at_server (arriving o x) server)) ≢ Lacks
  arrival_kept e answered None server lacks = queues_not_lacks (sym (queued_this number x server e) ∙ lacks)
  arrival_kept e answered (Some who) server lacks =
      go (list_any (is_of_number number) server.queued)
      (sym (ap (keeping_by (list_any (is_of_number number) server.queued))
      (ap (λ b. list_any (is_of_number number) (if b then server.held ++ x ∷ [] else server.held)) answered ∙ this_last number server.held x e)) ∙ lacks)
    where
      go : (b : Bool) → keeping_by b true ≡ Lacks → ⊥
      go true lacks = queues_not_lacks lacks
      go false lacks = holds_not_lacks lacks

  -- what its answers say
  module _ (processes : ℕ) (others : Answers) (quiet : IsQuiet others number (λ id. false)) where
    weaker : (but : ThreadId → Bool) → IsQuiet others number but
    weaker but id words other e = quiet id words refl e

    pub arrival_quiet : is_of_number number x ≡ false → (o : Option ThreadId) → IsQuiet (both_answers (arrival_answers o x) others) number (λ id. false)
    arrival_quiet e None = both_quiet number (λ id. false) no_answers others (none_quiet number (λ id. false)) quiet
    arrival_quiet e (Some who) =
        both_quiet number (λ id. false) (answer_to who (message_words x)) others (one_quiet number (λ id. false) who (message_words x) e) quiet

    pub arrival_says : is_of_number number x ≡ true → (o : Option ThreadId) → ((who : ThreadId) → o ≡ Some who → is_thread_id processes who ≡ true)
        → AnswersSay number processes (both_answers (arrival_answers o x) others) Queued (standing_at (arrived_as o))
    arrival_says e None known =
        Quiet (both_quiet number (λ id. false) no_answers others (none_quiet number (λ id. false)) quiet) Queued
    arrival_says e (Some who) known =
        subst (AnswersSay number processes (both_answers (arrival_answers (Some who) x) others) Queued) (left_as x)
        (One who (message_words x) (ap (λ o. option_or o (others who)) (answer_itself who (message_words x))) e
        (both_quiet number (λ id. same_thread id who) (answer_to who (message_words x)) others (to_itself number who (message_words x))
        (weaker (λ id. same_thread id who)))
        (known who refl))

-- a thread that waits at a server is one of the machine
pub receiver_known : (m : Machine) → Matched m → (serial : Serial) (who : ThreadId) → receiver m serial ≡ Some who → is_thread_id m.processes who ≡ true
receiver_known m h serial who e =
    let at = receiver_receives m serial who e in
    h.body.ids.known who at.0 at.1

-- ---- the send

pub sender_servers : (b : Bool) (k : Number) (m : Machine) → (sender_left b k m).servers ≡ m.servers
sender_servers true k m = refl
sender_servers false k m = refl

sender_number : (b : Bool) (k : Number) (m : Machine) → (sender_left b k m).next_number ≡ m.next_number
sender_number true k m = refl
sender_number false k m = refl

sender_processes : (b : Bool) (k : Number) (m : Machine) → (sender_left b k m).processes ≡ m.processes
sender_processes true k m = refl
sender_processes false k m = refl

module _ (number : Number) (m : Machine) (h : Matched m) (w : List ℕ) (call : ℕ) (e : call_number w ≡ call) (none : asks call ≡ false)
    (sends : is_send (call_number w) ≡ true) (it : IsSending m w) where
  abbrev serial : Serial
  serial = it.to.serial

  abbrev kind : MsgKind
  kind = it.kind

  abbrev x : Message
  x = new_message m kind w it.first

  abbrev o : Option ThreadId
  o = receiver m serial

  abbrev answers : Answers
  answers = both_answers (arrival_answers o x) (sender_answered (is_answered kind) m.cursor)

  quiet_sender : (b : Bool) → IsQuiet (sender_answered b m.cursor) number (λ id. false)
  quiet_sender true = none_quiet number (λ id. false)
  quiet_sender false = one_quiet number (λ id. false) m.cursor plain_words refl

  module _ (next : Machine) (servers : next.servers ≡ (change_server serial (at_server (arriving o x)) m).servers)
      (count : next.next_number ≡ m.next_number + 1) (processes : next.processes ≡ m.processes) where
    abbrev change : Change
    change = record { machine = next; answers = answers; delivery = None; gone = None }

    kept : (n : ℕ) → keeping number (next.servers n) ≡ keeping number ((change_server serial (at_server (arriving o x)) m).servers n)
    kept n = ap (λ (s : ℕ → Option Server). keeping number (s n)) servers

    other : is_of_number number x ≡ false → (a : Standing) → Stands number m a → ServedSays number m w change a
    other apart a stands = record {
      mid = a;
      last = a;
      end = a;
      call = leaves_it number m w call e none (answers m.cursor ≡ Some plain_words) a;
      told = Quiet (arrival_quiet number x m.processes (sender_answered (is_answered kind) m.cursor) (quiet_sender (is_answered kind)) apart o) a;
      lost = refl;
      stands = still a stands;
      settled = inl (ap asks e ∙ none);
      delivery = refl;
      processes = processes;
    }
      where
        same : (n : ℕ) → keeping number (next.servers n) ≡ keeping number (m.servers n)
        same n = kept n ∙ change_same number serial (at_server (arriving o x)) m (λ s f. arrival_other number x apart o s) n

        not_new : number.0 ≡ m.next_number → ⊥
        not_new q = false≢true (sym apart ∙ eq-eqb m.next_number number.0 (sym q))

        still : (a : Standing) → Stands number m a → Stands number next a
        still Unsent p = let up : m.next_number < number.0 = above (cases_lt m.next_number number.0) in omega (arith, count, up)
          where
            above : (m.next_number < number.0) ⊎ (number.0 ≤ m.next_number) → m.next_number < number.0
            above (inl l) = l
            above (inr l) = absurd (not_new (omega (arith, p, l)))
        still Queued p = (p.0, same p.0 ∙ p.1)
        still Held p = (p.0, same p.0 ∙ p.1)
        still Over p = (omega (arith, count, p.0), λ n. same n ∙ p.1 n)

    this : is_of_number number x ≡ true → (a : Standing) → Stands number m a → ServedSays number m w change a
    this is a stands = record {
      mid = Queued;
      last = standing_at (arrived_as number x o);
      end = standing_at (arrived_as number x o);
      call = subst (λ s. CallSays number w (answers m.cursor ≡ Some plain_words) s Queued) (sym (one_standing number m h a Unsent stands high)) (Sends sends);
      told = arrival_says number x m.processes (sender_answered (is_answered kind) m.cursor) (quiet_sender (is_answered kind)) is o (receiver_known m h serial);
      lost = refl;
      stands = now_stands number m h next serial.0 (arrived_as number x o)
          (kept serial.0 ∙ (change_here number serial (at_server (arriving o x)) m it.to.server it.to.there
          ∙ arrival_this number x is o it.to.server (sym (ap (keeping number) it.to.there) ∙ unsent_lacks number m h high serial.0)))
          (λ n apart. kept n ∙ (change_elsewhere number serial (at_server (arriving o x)) m n apart ∙ unsent_lacks number m h high n))
          (let same : m.next_number ≡ number.0 = eqb-true m.next_number number.0 is in omega (arith, count, same));
      settled = inl (ap asks e ∙ none);
      delivery = refl;
      processes = processes;
    }
      where
        high : m.next_number ≤ number.0
        high = let same : m.next_number ≡ number.0 = eqb-true m.next_number number.0 is in omega (arith, same)

    pub sent_says : (a : Standing) → Stands number m a → ServedSays number m w change a
    sent_says a stands = go (is_of_number number x) refl
      where
        go : (b : Bool) → is_of_number number x ≡ b → ServedSays number m w change a
        go false q = other q a stands
        go true q = this q a stands

-- ---- the call

pub sends_follows : (number : Number) (m : Machine) → Matched m → (w : List ℕ) → is_send (call_number w) ≡ true → (it : IsSending m w)
    → Follows number m w (done m (sending m w it.kind it.to.serial (place_at_server it.to.server it.first)))
sends_follows number m h w is it =
    let paged = with_sent m it.kind (caller_place m (send_address w)) (sent_pages w) (place_at_server it.to.server it.first) in
    let x = new_message m it.kind w it.first in
    sent_says number m h w (call_number w) refl (of_either (λ k. asks k ≡ false) send_message try_send_message (call_number w) refl refl is) is it _
    (ap (λ (s : ℕ → Option Server). put_at nat_eq s it.to.serial.0 (option_map (at_server (arriving (receiver m it.to.serial) x)) (s it.to.serial.0)))
    (sender_servers (is_answered it.kind) (new_number m) paged))
    (sender_number (is_answered it.kind) (new_number m) paged) (sender_processes (is_answered it.kind) (new_number m) paged)
