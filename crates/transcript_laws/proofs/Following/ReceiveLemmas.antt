-- A receive takes the oldest queued message.
use Rattle.std.proofs.Common.{◌≡◌, ◌≢◌, ℕ, ◌+◌, ◌≤◌, inl, Bool, true, false, List, [], ◌∷◌, drop, Some, refl, sym, ap, ◌∙◌, subst, arith}
use Rattle.std.specs.Prelude.{◌||◌, if◌then◌else◌}
use Rattle.std.specs.List.{list_any}
use Rattle.std.proofs.lemmas.Option.{none-some, same_Some}
use Rattle.xk_base.specs.declared.ids.Number.{Number}
use Rattle.xk_base.specs.declared.ids.Serial.{Serial}
use Rattle.xk_base.specs.declared.messages.Message.{Message}
use Rattle.xk_base.specs.declared.messages.MsgKind.{MsgKind}
use Rattle.xk_base.specs.declared.messages.MsgKind.TheVariants.{LendMut, Lend, Move, Scalar, BlockingScalar}
use Rattle.syscall_codec.specs.CallWords.{call_number}
use Rattle.xk_base.specs.Calls.Kinds.{is_answered, is_waiting_kind, kind_number}
use Rattle.syscall_codec.specs.ReplyWords.{message_words, plain_words}
use Rattle.xk_base.specs.Tables.Circle.{is_thread_id}
use Rattle.machine_model.specs.Messaging.MessageCounts.{count_in}
use Rattle.machine_model.specs.Messaging.Messages.{is_of_number, oldest, with_received, without_oldest}
use Rattle.machine_model.specs.Runs.Matched.{Matched}
use Rattle.machine_model.specs.State.Machine.{Machine, Server}
use Rattle.machine_model.specs.State.Order.{ready_at}
use Rattle.machine_model.specs.State.Servers.{change_server, messages_of}
use Rattle.machine_model.specs.State.Threads.{answer_to}
use Rattle.machine_model.proofs.Matching.CountLemmas.{count_in-append, one_if}
use Rattle.machine_laws.proofs.Messaging.AnyServerLemmas.{messages_apart}
use Rattle.machine_laws.proofs.Messaging.ListedLemmas.{not_counted}
use Rattle.machine_laws.proofs.Threading.ThreadAnswerLemmas.{IsReadyThread, ready_thread}
use Rattle.call_effects.proofs.ServedLemmas.{done}
use Rattle.transcript_laws.specs.Following.{Held, Lacks, Over, Queued, Queues, Standing, Stands, keeping, keeping_by, left_by}
use Rattle.transcript_laws.proofs.Following.KeepLemmas.{change_elsewhere, change_here, change_same, received_as, received_other}
use Rattle.transcript_laws.proofs.Following.KeepLemmas.{received_this}
use Rattle.transcript_laws.proofs.Following.SayLemmas.{asks}
use Rattle.transcript_laws.proofs.Following.ServedLemmas.{Follows, One, Quiet, answer_itself, leaves_it, one_quiet, to_itself}
use Rattle.transcript_laws.proofs.Following.TellLemmas.{CallSays}
use Rattle.transcript_laws.proofs.Following.StandLemmas.{kept_low, now_stands, one_standing, others_lack, queues_not_lacks, same_stands}
use Rattle.transcript_laws.proofs.Following.StandLemmas.{standing_at}
use Rattle.transcript_laws.specs.CallKinds.{taking}

-- ---- a delivered message

-- how the words of a message say that it stands, once it is delivered
pub left_as : (x : Message) → left_by (message_words x) ≡ standing_at (received_as (is_answered x.kind))
left_as x = go x.kind
  where
    go : (kind : MsgKind) → (if is_waiting_kind (kind_number kind) then Held else Over) ≡ standing_at (received_as (is_answered kind))
    go LendMut = refl
    go Lend = refl
    go Move = refl
    go Scalar = refl
    go BlockingScalar = refl

-- the caller is a thread of the machine
pub cursor_known : (m : Machine) → Matched m → ready_at m m.cursor ≡ true → is_thread_id m.processes m.cursor ≡ true
cursor_known m h ready =
    let r : IsReadyThread m m.cursor = ready_thread m m.cursor ready in
    h.body.ids.known m.cursor r.thread r.there

module _ (number : Number) (m : Machine) (h : Matched m) where
  -- a server's messages have one of the number at most
  pub at_most_one : (serial : ℕ) (server : Server) → m.servers serial ≡ Some server → count_in (is_of_number number) (messages_of server) ≤ 1
  at_most_one serial server e = messages_apart m.servers h.body.servers.numbers serial server e number

  module _ (serial : Serial) (server : Server) (there : m.servers serial.0 ≡ Some server) (x : Message) (rest : List Message)
      (queue : server.queued ≡ x ∷ rest) where
    abbrev test : Message → Bool
    test = is_of_number number

    abbrev after : Machine
    after = change_server serial (λ s. with_received x (without_oldest s)) m

    others_too : test x ≡ false → keeping number (Some (without_oldest server)) ≡ keeping number (Some server)
    others_too e = ap (λ b. keeping_by b (list_any test server.held)) same
      where
        same : list_any test (drop 1 server.queued) ≡ list_any test server.queued
        same = ap (λ q. list_any test (drop 1 q)) queue ∙ ((λ i. sym e i || list_any test rest) ∙ sym (ap (list_any test) queue))

    pub taken_other : test x ≡ false → (n : ℕ) → keeping number (after.servers n) ≡ keeping number (m.servers n)
    taken_other e =
        change_same number serial (λ s. with_received x (without_oldest s)) m
        (λ s f. subst (λ (y : Server). keeping number (Some (with_received x (without_oldest y))) ≡ keeping number (Some y))
        (same_Some server s (sym there ∙ f)) (received_other number x (without_oldest server) e ∙ others_too e))

    module _ (is : test x ≡ true) where
      was : keeping number (m.servers serial.0) ≡ Queues
      was =
          ap (keeping number) there
          ∙ (ap (λ q. keeping_by (list_any test q) (list_any test server.held)) queue
          ∙ ap (λ b. keeping_by (b || list_any test rest) (list_any test server.held)) is)

      some : keeping number (m.servers serial.0) ≢ Lacks
      some lacks = queues_not_lacks (sym was ∙ lacks)

      counts : (count_in test rest ≡ 0) × (count_in test server.held ≡ 0)
      counts =
          let most : count_in test (messages_of server) ≤ 1 = at_most_one serial.0 server there in
          let sum : count_in test (messages_of server) ≡ count_in test server.queued + count_in test server.held =
          count_in-append test server.queued server.held in
          let first : count_in test server.queued ≡ one_if (test x) + count_in test rest = ap (count_in test) queue ∙ counted in
          let one : one_if (test x) ≡ 1 = ap one_if is in
          (omega arith, omega arith)
        where
          counted : count_in test (x ∷ rest) ≡ one_if (test x) + count_in test rest
          counted = unfold count_in in refl

      no_more : list_any test (drop 1 server.queued) ≡ false
      no_more = ap (λ q. list_any test (drop 1 q)) queue ∙ not_counted test rest counts.0

      pub taken_stood : (a : Standing) → Stands number m a → a ≡ Queued
      taken_stood a stands = one_standing number m h a Queued stands (serial.0, was)

      pub taken_stands : Stands number after (left_by (message_words x))
      taken_stands =
          subst (Stands number after) (sym (left_as x))
          (now_stands number m h after serial.0 (received_as (is_answered x.kind))
          (change_here number serial (λ s. with_received x (without_oldest s)) m server there
          ∙ received_this number x (without_oldest server) is no_more (not_counted test server.held counts.1))
          (λ n other. change_elsewhere number serial (λ s. with_received x (without_oldest s)) m n other ∙ others_lack number m h serial.0 n some other)
          (kept_low number m h serial.0 some))

  module _ (ready : ready_at m m.cursor ≡ true) (w : List ℕ) (k : ℕ) (e : call_number w ≡ k) (none : asks k ≡ false) where
    -- the caller gets the message
    pub taken_follows : (serial : Serial) (server : Server) → m.servers serial.0 ≡ Some server → (x : Message) → oldest server.queued ≡ Some x
        → Follows number m w (done m (taking m serial x))
    taken_follows serial server there x first = by_queue server.queued refl first
      where
        by_queue : (queue : List Message) → server.queued ≡ queue → oldest queue ≡ Some x → Follows number m w (done m (taking m serial x))
        by_queue [] q f = absurd (none-some x f)
        by_queue (y ∷ rest) q f = go (is_of_number number x) refl
          where
            queue : server.queued ≡ x ∷ rest
            queue = q ∙ ap (λ z. z ∷ rest) (same_Some y x f)

            go : (b : Bool) → is_of_number number x ≡ b → Follows number m w (done m (taking m serial x))
            go false other = λ a stands. record {
              mid = a;
              last = a;
              end = a;
              call = leaves_it number m w k e none _ a;
              told = Quiet (one_quiet number (λ id. false) m.cursor (message_words x) other) a;
              lost = refl;
              stands = same_stands number m h (change_server serial (λ s. with_received x (without_oldest s)) m) (taken_other serial server there x rest queue other) refl a stands;
              settled = inl (ap asks e ∙ none);
              delivery = refl;
              processes = refl;
            }
            go true is = λ a stands. record {
              mid = Queued;
              last = left_by (message_words x);
              end = left_by (message_words x);
              call = subst (λ s. CallSays number w (answer_to m.cursor (message_words x) m.cursor ≡ Some plain_words) s Queued) (sym (taken_stood serial server there x rest queue is a stands)) (leaves_it number m w k e none _ Queued);
              told = One m.cursor (message_words x) (answer_itself m.cursor (message_words x)) is (to_itself number m.cursor (message_words x))
                  (cursor_known m h ready);
              lost = refl;
              stands = taken_stands serial server there x rest queue is;
              settled = inl (ap asks e ∙ none);
              delivery = refl;
              processes = refl;
            }
