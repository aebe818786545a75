-- Every served call fits, or is the death of the caller's process.
use Rattle.std.proofs.Common.{◌≡◌, ℕ, ◌⊎◌, inl, inr, Bool, true, false, List, [], ◌∷◌, Some, None, refl, sym, subst}
use Rattle.std.specs.Prelude.{◌==◌, if◌then◌else◌}
use Rattle.std.proofs.lemmas.Bool.{false≢true}
use Rattle.xk_base.specs.declared.ids.ThreadId.{ThreadId}
use Rattle.syscall_codec.specs.CallWords.{call_number}
use Rattle.syscall_codec.specs.CallWords.{send_address}
use Rattle.xk_base.specs.Calls.Kinds.{is_answered}
use Rattle.machine_model.specs.Calling.Calls.{call}
use Rattle.machine_model.specs.Calling.MemoryCalls.{caller_place}
use Rattle.machine_model.specs.Ending.Closing.{closed, is_sender_at}
use Rattle.machine_model.specs.Ending.Ends.{death}
use Rattle.machine_model.specs.Messaging.ForwardCalls.{held_place, with_first}
use Rattle.machine_model.specs.Messaging.Messages.{new_message, new_number, without_held}
use Rattle.machine_model.specs.Messaging.Receivers.{receiver, receiving_at}
use Rattle.machine_model.specs.Messaging.ReturnCalls.{named_number}
use Rattle.machine_model.specs.Messaging.SendCalls.{sent_pages, with_sent}
use Rattle.machine_model.specs.Runs.Matched.{Matched}
use Rattle.machine_model.specs.State.Changes.{Change}
use Rattle.machine_model.specs.State.Machine.{Joining, Machine, Receiving, Thread}
use Rattle.machine_model.specs.State.Order.{turn}
use Rattle.machine_model.specs.State.Servers.{change_server}
use Rattle.ledger_model.specs.Steps.{pass}
use Rattle.machine_laws.proofs.Threading.ThreadAnswerLemmas.{IsReadyThread, ready_thread}
use Rattle.transcript_laws.specs.Answering.{AnswersWhoWaits, CallsAnswerWhoWaits, is_waiting}
use Rattle.transcript_laws.proofs.Answering.FitLemmas.{receiver_waits, receiving_at_waits, sender_at_waits}
use Rattle.call_effects.proofs.ServedLemmas.{OfServed, done}
use Rattle.call_effects.specs.Effects.{Awaits, Claims, ClosesServers, Connects, Effect, EndsTurn, Forgets, Founds, Frees, HasHeap, Orphans, Pages, Serves, Starts, TakesNumber, Unqueues, Waits, apply, run}
use Rattle.call_effects.specs.Rows.ThreadRows.{death_plan}
use Rattle.call_effects.specs.Verdicts.{Plan}
use Rattle.machine_laws.proofs.Threading.ThreadPutLemmas.{alike}
use Rattle.machine_model.specs.Ending.Closing.{refused_server, servers_closed}
use Rattle.machine_model.specs.State.Machine.{Idle, Ready, ThreadState, Waiting}
use Rattle.machine_model.specs.State.Threads.{Answers, both_answers, with_state}
use Rattle.std.proofs.Common.{ap, ◌∙◌}
use Rattle.std.specs.Option.{option_map}
use Rattle.syscall_codec.specs.ReplyWords.{message_words}
use Rattle.transcript_laws.proofs.CallKindLemmas.{of_kinds}
use Rattle.transcript_laws.proofs.CallKindUseLemmas.{loan_is, none_keeps}
use Rattle.transcript_laws.specs.Answering.{awaits_reply}
use Rattle.transcript_laws.specs.CallKinds.{AnswersCaller, AreOwn, ByWaiting, CallKind, DestroysServer, EndsProcess, FindsNone, FoundsServer, IsKeeping, IsOwn, IsReturning, Keeps, NamesOwn, PassesMessage, ReturnsMessage, SendsMessage, TakesMessage, WithWords, destroying, founding, is_returnable, place_at_server, returning, words_back}
use Rattle.xk_base.specs.Tables.Circle.{same_thread}
use Rattle.transcript_laws.proofs.Answering.CallFitLemmas.{AreAsAlive, also_fits, answers_itself, answers_no_other, given_fits, held_sender_waits, plain_fits, put_alive}
use Rattle.transcript_laws.proofs.Answering.CallFitLemmas.{refused_by, sending_fits, waiting_fits}
use Rattle.transcript_laws.specs.CallKinds.{WaitsAlone}

module _ (m : Machine) (h : Matched m) (t : Thread) (there : m.threads m.cursor ≡ Some t) (w : List ℕ) where
  -- ---- a call that keeps to its process

  -- who else waits is as before, and so is which processes live
  record LeavesWaits (n : Machine) : Type 0 where
    threads : (id : ThreadId) → same_thread id m.cursor ≡ false → is_waiting (n.threads id) ≡ is_waiting (m.threads id)
    alive : AreAsAlive m n

  own_leaves : (n : Machine) → LeavesWaits n → (effect : Effect) → IsOwn m effect → LeavesWaits (apply effect n)
  unfolding turn
  own_leaves n l (Pages step) own = record { threads = l.threads; alive = l.alive }
  own_leaves n l (HasHeap size) own = record {
    threads = l.threads;
    alive = λ pid. put_alive n.process n.cursor.pid.0 (record (n.process n.cursor.pid.0) { heap = size }) refl pid ∙ l.alive pid;
  }
  own_leaves n l (Starts who thread) own = record { threads = λ id apart. go id apart (same_thread id who) refl; alive = l.alive }
    where
      go : (id : ThreadId) → same_thread id m.cursor ≡ false → (b : Bool) → same_thread id who ≡ b
          → is_waiting (if b then Some thread else n.threads id) ≡ is_waiting (m.threads id)
      go id apart true q =
          ap awaits_reply own.ready ∙ sym (ap (λ x. is_waiting (m.threads x)) (alike id who q) ∙ ap is_waiting own.free)
      go id apart false q = l.threads id apart
  own_leaves n l (Waits who state) own = record {
    threads = λ id apart.
        ap (λ b. is_waiting (if b then option_map (with_state state) (n.threads who) else n.threads id)) (ap (same_thread id) own.0 ∙ apart)
        ∙ l.threads id apart;
    alive = l.alive;
  }
  own_leaves n l (Awaits waits number) own = absurd own
  own_leaves n l EndsTurn own = record { threads = l.threads; alive = l.alive }
  own_leaves n l (Founds server) own = absurd own
  own_leaves n l (Connects serial) own = record {
    threads = l.threads;
    alive = λ pid. put_alive n.process n.cursor.pid.0 (record (n.process n.cursor.pid.0) { connections = _ }) refl pid ∙ l.alive pid;
  }
  own_leaves n l TakesNumber own = absurd own
  own_leaves n l (Serves serial step) own = absurd own
  own_leaves n l (ClosesServers which) own = absurd own
  own_leaves n l (Unqueues pid) own = absurd own
  own_leaves n l (Orphans pid) own = absurd own
  own_leaves n l (Forgets pid) own = absurd own
  own_leaves n l (Claims k claim) own = record { threads = l.threads; alive = l.alive }
  own_leaves n l (Frees k) own = record { threads = l.threads; alive = l.alive }

  run_leaves : (effects : List Effect) (n : Machine) → LeavesWaits n → AreOwn m effects → LeavesWaits (run effects n)
  run_leaves [] n l own = l
  run_leaves (effect ∷ effects) n l own = run_leaves effects (apply effect n) (own_leaves n l effect own.0) own.1

  alone_waits : (state : ThreadState) → WaitsAlone state → awaits_reply state ≡ true
  alone_waits Ready alone = absurd alone
  alone_waits (Receiving serial) alone = refl
  alone_waits (Waiting number) alone = absurd alone
  alone_waits (Joining tid) alone = refl
  alone_waits Idle alone = absurd alone

  keeps_fits : (effects : List Effect) (answers : Answers) → IsKeeping m effects answers
      → AnswersWhoWaits m (done m (record { effects = effects; answers = answers; gone = None }))
  keeps_fits effects answers it = by effects answers it.own it.answered
    where
      by : (effects : List Effect) (answers : Answers) → AreOwn m effects → AnswersCaller m effects answers
          → AnswersWhoWaits m (done m (record { effects = effects; answers = answers; gone = None }))
      by _ _ own (WithWords effects words plain) =
          let l = run_leaves effects m (record { threads = λ id apart. refl; alive = λ pid. refl }) own in
          record {
            others = λ id apart some. absurd (false≢true (sym (answers_no_other m.cursor id words apart) ∙ some));
            caller = inl (answers_itself m.cursor words);
            threads = l.threads;
            alive = l.alive;
            gone = refl;
          }
      by _ _ own (ByWaiting state) = waiting_fits m t there state (alone_waits state own.0.1)

  -- ---- the others

  founds_fits : AnswersWhoWaits m (done m (founding m w))
  founds_fits = plain_fits m _ _ refl (put_alive m.process m.cursor.pid.0 (record (m.process m.cursor.pid.0) { connections = _ }) refl)

  returns_fits : (it : IsReturning m (call_number w) w) → AnswersWhoWaits m (done m (returning m (call_number w) w it))
  returns_fits it =
      let is = loan_is (call_number w) w (change_server it.held.serial (without_held (named_number w)) m) in
      given_fits m h _ (ap (λ (x : Machine). x.threads) is.1) (λ pid. ap (λ (x : Machine). (x.process pid).alive) is.1) (words_back (call_number w) w)
      it.message.sender (held_sender_waits m h (is_returnable (call_number w) w) it.message it.held)

  destroys_fits : (its : NamesOwn m w) → AnswersWhoWaits m (done m (destroying m its.serial))
  unfolding closed
  destroys_fits its =
      also_fits m h (closed this m).machine refl (λ pid. refl) (both_answers (refused_server (is_sender_at this m)) (refused_server (receiving_at m its.serial)))
      (λ id e. go id (refused_by (is_sender_at this m) (receiving_at m its.serial) id e))
    where
      this : ℕ → Bool
      this n = n == its.serial.0

      go : (id : ThreadId) → (is_sender_at this m id ≡ true) ⊎ (receiving_at m its.serial id ≡ true) → is_waiting (m.threads id) ≡ true
      go id (inl sends) = sender_at_waits m h this id sends
      go id (inr receives) = receiving_at_waits m its.serial id receives

  ends_fits : done m (death_plan m.cursor.pid m) ≡ death m.cursor.pid m
  unfolding death servers_closed closed
  ends_fits = refl

  abbrev Fits : Change → Type 0
  Fits change = AnswersWhoWaits m change ⊎ (change ≡ death m.cursor.pid m)

  kind_fits : (plan : Plan) → CallKind m (call_number w) w plan → Fits (done m plan)
  kind_fits _ (Keeps effects answers alone other it) = inl (keeps_fits effects answers it)
  kind_fits _ (FoundsServer e it) = inl founds_fits
  kind_fits _ (SendsMessage is it) =
      inl (sending_fits m t there it.to.serial (new_message m it.kind w it.first) (new_number m)
      (with_sent m it.kind (caller_place m (send_address w)) (sent_pages w) (place_at_server it.to.server it.first)) refl (λ pid. refl)
      (receiver m it.to.serial) (is_answered it.kind) (receiver_waits m it.to.serial))
  kind_fits _ (TakesMessage is its x first) = inl (plain_fits m _ (message_words x) refl (λ pid. refl))
  kind_fits _ (FindsNone is its empty) = inl (keeps_fits _ _ (none_keeps m (call_number w) its.serial))
  kind_fits _ (ReturnsMessage is it) = inl (returns_fits it)
  kind_fits _ (PassesMessage e it) =
      inl (sending_fits m t there it.to.serial (with_first it.first it.message) it.message.number
      (record (change_server it.held.serial (without_held it.message.number) m) {
        ledger = pass it.message.number (held_place m it.message) (place_at_server it.to.server it.first) m.ledger;
      }) refl (λ pid. refl) (receiver m it.to.serial) false (receiver_waits m it.to.serial))
  kind_fits _ (DestroysServer e its) = inl (destroys_fits its)
  kind_fits _ (EndsProcess e) = inr ends_fits

  pub call_fits : OfServed Fits (call m w)
  call_fits = of_kinds m h w Fits kind_fits

pub calls_answer_who_waits : CallsAnswerWhoWaits
calls_answer_who_waits m w change h ready e =
    let r : IsReadyThread m m.cursor = ready_thread m m.cursor ready in
    subst (OfServed (λ c. AnswersWhoWaits m c ⊎ (c ≡ death m.cursor.pid m))) e (call_fits m h r.thread r.there w)
