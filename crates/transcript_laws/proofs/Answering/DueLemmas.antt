-- Each reply is due: it is to a thread that waits, or to the caller.
use Rattle.std.proofs.Common.{◌≡◌, ℕ, ◌+◌, ◌⊎◌, inl, inr, Bool, true, false, List, [], ◌∷◌, ◌++◌, map, Option, Some, None, refl, sym, ap, ◌∙◌, subst}
use Rattle.std.specs.Prelude.{◌==◌, is_some, nat_eq, slice_index_or, unwrap_or, if◌then◌else◌}
use Rattle.std.specs.List.{All}
use Rattle.std.specs.Option.{option_or}
use Rattle.std.proofs.lemmas.Bool.{and_parts, false≢true}
use Rattle.std.proofs.lemmas.List.Elements.{All-append, All-cons, All-map, All-nil}
use Rattle.xk_base.specs.declared.ids.Pid.{Pid}
use Rattle.xk_base.specs.declared.ids.ThreadId.{ThreadId}
use Rattle.xk_base.specs.declared.ids.Tid.{Tid}
use Rattle.xk_base.specs.declared.records.Rec.{Rec}
use Rattle.xk_base.specs.declared.records.What.{What}
use Rattle.xk_base.specs.declared.records.What.TheVariants.{Call, Reply, Retry, Byte, Fault, End, Irq, Gone}
use Rattle.xk_base.specs.Calls.Registers.{arguments_of, reg_at}
use Rattle.syscall_codec.specs.ReplyWords.{refused_words, scalar1_words}
use Rattle.xk_base.specs.Tables.Circle.{listed_ids, same_thread}
use Rattle.xk_base.specs.Tables.Counting.{put_at}
use Rattle.xk_base.proofs.CircleLemmas.{listed_ids-passes}
use Rattle.machine_model.specs.Calling.Calls.{call}
use Rattle.machine_model.specs.Ending.Closing.{any_server, closed, is_sender_at, refused_server, servers_closed}
use Rattle.machine_model.specs.Ending.Ends.{death, end_with_last_thread, handler_ended, has_threads, is_joining, joiners_answered, thread_ended, waits_for_end}
use Rattle.machine_model.specs.Hart.Instructions.{CallsKernel, Executed, Next, Stores, StoresToConsole, StoresToTimer, Traps}
use Rattle.machine_model.specs.Runs.Matched.{Matched}
use Rattle.machine_model.specs.Runs.Moments.{Cause, ByStep, ByIrq, ByKill}
use Rattle.machine_model.specs.State.Changes.{Change, Delivery, Outcome, Refused, Retried, Served, Told, call_settled, death_told, delivery_told, replies, settled}
use Rattle.machine_model.specs.State.Machine.{Idle, Joining, Machine, Ready, Receiving, Thread, ThreadState, Waiting}
use Rattle.machine_model.specs.State.Order.{actor}
use Rattle.machine_model.specs.State.Servers.{is_server_of}
use Rattle.machine_model.specs.State.Threads.{Answers, change_thread, passed, put_thread, thread_id, with_state}
use Rattle.machine_model.specs.Stepping.Acts.{executes}
use Rattle.machine_model.specs.Stepping.Interrupts.{delivered, pended}
use Rattle.machine_model.specs.Stepping.Reservations.{unreserved}
use Rattle.machine_model.specs.Stepping.Step.{Recorded, acted, after, console_told, counted, executed, record_of}
use Rattle.machine_model.specs.Stepping.Timer.{is_due, timed, timed_if, timer_change, with_irq_if}
use Rattle.machine_model.proofs.Runs.KeptLemmas.{matched_at}
use Rattle.machine_laws.proofs.Stepping.StepKindLemmas.{is_call}
use Rattle.machine_laws.proofs.Threading.ThreadMoveLemmas.{matched_reserved}
use Rattle.machine_laws.proofs.Threading.ThreadPutLemmas.{alike}
use Rattle.machine_laws.proofs.Threading.ThreadStepLemmas.{actor_ready, turned_to}
use Rattle.machine_laws.proofs.Stepping.CauseCaseLemmas.{ActCase, CauseCase, EndsHandler, EndsThread, Instructs, Kills, Raises, Rests, StartCase, Starts, StartsNone}
use Rattle.machine_laws.proofs.Stepping.CauseCaseLemmas.{Steps, case_of, start_of}
use Rattle.transcript_laws.specs.Answering.{AnswersWhoWaits, IsCaller, IsReplyDue, RepliesAreDue, awaits_reply, is_waiting}
use Rattle.transcript_laws.proofs.Answering.CallFitLemmas.{by_either}
use Rattle.transcript_laws.proofs.Answering.CallTableLemmas.{calls_answer_who_waits}
use Rattle.transcript_laws.proofs.Answering.FitLemmas.{sender_at_waits}
use Rattle.transcript_laws.proofs.Ordering.ChangeLemmas.{all_with_irq}
use Rattle.call_effects.proofs.ServedLemmas.{done}
use Rattle.machine_laws.specs.Records.{records_by}
use Rattle.machine_model.specs.Runs.Moments.{caused}

-- ---- what a change tells

module _ (P : What → Type 0) (irq : (pid : Pid) (k : ℕ) → P (Irq pid k)) (gone : (pid : Pid) → P (Gone pid)) where
  replies_hold : (answers : Answers) (ids : List ThreadId) → All (λ id. P (Reply id (unwrap_or (answers id) []))) ids
      → All P (map (λ id. Reply id (unwrap_or (answers id) [])) ids)
  replies_hold answers ids h = All-map P (λ id. Reply id (unwrap_or (answers id) [])) ids h

  deliveries_hold : (o : Option Delivery) → All P (delivery_told o)
  deliveries_hold None = All-nil P
  deliveries_hold (Some d) = All-cons P (Irq d.pid d.number) [] (irq d.pid d.number) (All-nil P)

  deaths_hold : (o : Option Pid) → All P (death_told o)
  deaths_hold None = All-nil P
  deaths_hold (Some pid) = All-cons P (Gone pid) [] (gone pid) (All-nil P)

  pub change_holds : (change : Change) → ((id : ThreadId) (words : List ℕ) → is_some (change.answers id) ≡ true → P (Reply id words))
      → All P (settled change).told
  unfolding settled
  change_holds change due =
      All-append P (replies change.machine.processes change.answers) (delivery_told change.delivery ++ death_told change.gone)
      (replies_hold change.answers (listed_ids change.machine.processes (λ id. is_some (change.answers id)))
      (λ k d lt. due (slice_index_or (listed_ids change.machine.processes (λ id. is_some (change.answers id))) k d)
      (unwrap_or (change.answers (slice_index_or (listed_ids change.machine.processes (λ id. is_some (change.answers id))) k d)) [])
      (listed_ids-passes change.machine.processes (λ id. is_some (change.answers id)) k d lt).1))
      (All-append P (delivery_told change.delivery) (death_told change.gone) (deliveries_hold change.delivery) (deaths_hold change.gone))

  pub timed_holds : (done : Told) → All P done.told → All P (timed done).told
  timed_holds done h = go (is_due done.machine.compare done.machine.steps)
    where
      by_delivery : (o : Option Delivery) → All P (with_irq_if o done.told)
      by_delivery None = h
      by_delivery (Some d) = all_with_irq P d done.told (irq d.pid d.number) h

      go : (b : Bool) → All P (timed_if b done).told
      go false = h
      go true = by_delivery (timer_change done.machine).delivery

-- ---- deaths, ends, deliveries

-- a death answers threads that wait
pub death_waits : (m : Machine) → Matched m → (pid : Pid) (id : ThreadId) → is_some ((death pid m).answers id) ≡ true → is_waiting (m.threads id) ≡ true
unfolding death servers_closed closed
death_waits m h pid id e = go (is_sender_at (λ n. is_server_of pid (m.servers n)) m id) refl e
  where
    go : (b : Bool) → is_sender_at (λ n. is_server_of pid (m.servers n)) m id ≡ b
        → is_some (if b then refused_server (λ x. true) id else None) ≡ true → is_waiting (m.threads id) ≡ true
    go true p q = sender_at_waits m h (λ n. is_server_of pid (m.servers n)) id p
    go false p q = absurd (false≢true q)

joining_waits : (tid : Tid) (t : Thread) → is_joining tid t.state ≡ true → is_waiting (Some t) ≡ true
joining_waits tid t e = go t.state e
  where
    go : (s : ThreadState) → is_joining tid s ≡ true → awaits_reply s ≡ true
    go Ready q = absurd (false≢true q)
    go (Receiving serial) q = refl
    go (Waiting number) q = refl
    go (Joining other) q = refl
    go Idle q = absurd (false≢true q)

-- who joins the thread waits
joiner_waits : (m : Machine) (who : ThreadId) (a0 : ℕ) (id : ThreadId) → is_some (joiners_answered m who a0 id) ≡ true → is_waiting (m.threads id) ≡ true
joiner_waits m who a0 id e = by (waits_for_end who id (m.threads id)) refl e
  where
    at : (o : Option Thread) → waits_for_end who id o ≡ true → is_waiting o ≡ true
    at None q = absurd (false≢true q)
    at (Some t) q = joining_waits who.tid t (and_parts (id.pid.0 == who.pid.0) (is_joining who.tid t.state) q).1

    by : (b : Bool) → waits_for_end who id (m.threads id) ≡ b → is_some (if b then Some (scalar1_words a0) else None) ≡ true
        → is_waiting (m.threads id) ≡ true
    by true p q = at (m.threads id) p
    by false p q = absurd (false≢true q)

-- the death after a thread is gone answers whom it would have answered before
same_death : (m : Machine) (who id : ThreadId) → (death who.pid m).answers id ≡ (death who.pid (put_thread who None m)).answers id
unfolding death servers_closed closed any_server
same_death m who id = refl

pub thread_end_waits : (m : Machine) → Matched m → (who : ThreadId) (a0 : ℕ) (id : ThreadId)
    → is_some ((thread_ended who a0 m).answers id) ≡ true → is_waiting (m.threads id) ≡ true
unfolding thread_ended
thread_end_waits m h who a0 id e =
    go (has_threads (put_thread who None m) who.pid) e
  where
    go : (b : Bool) → is_some (option_or (joiners_answered m who a0 id) ((end_with_last_thread b who.pid (put_thread who None m)).answers id)) ≡ true
        → is_waiting (m.threads id) ≡ true
    go true q = either (by_either (joiners_answered m who a0 id) None q)
      where
        either : (is_some (joiners_answered m who a0 id) ≡ true) ⊎ (false ≡ true) → is_waiting (m.threads id) ≡ true
        either (inl x) = joiner_waits m who a0 id x
        either (inr x) = absurd (false≢true x)
    go false q = either (by_either (joiners_answered m who a0 id) ((death who.pid (put_thread who None m)).answers id) q)
      where
        either : (is_some (joiners_answered m who a0 id) ≡ true) ⊎ (is_some ((death who.pid (put_thread who None m)).answers id) ≡ true)
            → is_waiting (m.threads id) ≡ true
        either (inl x) = joiner_waits m who a0 id x
        either (inr x) = death_waits m h who.pid id (ap (λ o. is_some o) (same_death m who id) ∙ x)

-- ---- a delivery answers nobody

delivered_answers : (m : Machine) (pid : Pid) (id : ThreadId) → is_some ((delivered pid m).answers id) ≡ false
delivered_answers m pid id = go (delivered pid m) (start_of pid m)
  where
    go : (change : Change) → StartCase pid m change → is_some (change.answers id) ≡ false
    go _ StartsNone = refl
    go _ (Starts k claim e) = refl

-- ---- a step

module _ (m : Machine) (h : Matched m) (who : ThreadId) (acts : actor m ≡ Some who) where
  abbrev P : What → Type 0
  P what = IsReplyDue m ByStep what

  abbrev n : Machine
  n = turned_to who m

  turned_matched : Matched n
  turned_matched = matched_at who m h

  holds : (change : Change) → ((id : ThreadId) → is_some (change.answers id) ≡ true → (is_waiting (m.threads id) ≡ true) ⊎ IsCaller id m ByStep)
      → All P (settled change).told
  holds change due = change_holds P (λ pid k. tt) (λ pid. tt) change (λ id words some. due id some)

  then_holds : (what : What) → P what → (change : Change)
      → ((id : ThreadId) → is_some (change.answers id) ≡ true → (is_waiting (m.threads id) ≡ true) ⊎ IsCaller id m ByStep)
      → All P (after what (settled change)).told
  then_holds what here change due = All-cons P what (settled change).told here (holds change due)

  call_holds : (t : Thread) → m.threads who ≡ Some t → executes m who t ≡ Some CallsKernel
      → All P (after (Call who (arguments_of t.regs)) (call_settled n (call n (arguments_of t.regs)))).told
  unfolding call_settled
  call_holds t there e = go (call n (arguments_of t.regs)) refl
    where
      caller : IsCaller who m ByStep
      caller = record { step = refl; acts = acts; calls = ap is_some (is_call m who t there e) }

      served : (change : Change) → call n (arguments_of t.regs) ≡ Served change → (id : ThreadId) → is_some (change.answers id) ≡ true
          → (is_waiting (m.threads id) ≡ true) ⊎ IsCaller id m ByStep
      served change q id some = by (calls_answer_who_waits n (arguments_of t.regs) change turned_matched (actor_ready m who acts) q)
        where
          others : AnswersWhoWaits n change → (b : Bool) → same_thread id who ≡ b → (is_waiting (m.threads id) ≡ true) ⊎ IsCaller id m ByStep
          others fits true p = inr (subst (λ x. IsCaller x m ByStep) (sym (alike id who p)) caller)
          others fits false p = inl (fits.others id p some)

          by : AnswersWhoWaits n change ⊎ (change ≡ death who.pid n) → (is_waiting (m.threads id) ≡ true) ⊎ IsCaller id m ByStep
          by (inl fits) = others fits (same_thread id who) refl
          by (inr dies) = inl (death_waits n turned_matched who.pid id (ap (λ (c : Change). is_some (c.answers id)) (sym dies) ∙ some))

      go : (o : Outcome) → call n (arguments_of t.regs) ≡ o → All P (after (Call who (arguments_of t.regs)) (call_settled n o)).told
      go (Refused error) q =
          All-cons P (Call who (arguments_of t.regs)) (Reply who (refused_words error) ∷ []) tt
          (All-cons P (Reply who (refused_words error)) [] (inr caller) (All-nil P))
      go Retried q =
          All-cons P (Call who (arguments_of t.regs)) (Retry who ∷ []) tt (All-cons P (Retry who) [] caller (All-nil P))
      go (Served change) q =
          then_holds (Call who (arguments_of t.regs)) tt (record change { machine = change_thread who passed change.machine }) (served change q)

  byte_holds : (offset value : ℕ) → All P (console_told who offset value)
  byte_holds offset value = go (offset == 0)
    where
      go : (b : Bool) → All P (if b then console_told who 0 value else [])
      go true = All-cons P (Byte who _) [] tt (All-nil P)
      go false = All-nil P

  executed_holds : (t : Thread) → m.threads who ≡ Some t → (x : Executed) → executes m who t ≡ Some x → All P (executed n t x).told
  executed_holds t there (Next regs pc) e = All-nil P
  executed_holds t there (Stores address width value regs pc) e = All-nil P
  executed_holds t there (StoresToConsole offset value regs pc) e = byte_holds offset value
  executed_holds t there (StoresToTimer offset width value regs pc) e = All-nil P
  executed_holds t there CallsKernel e = call_holds t there e
  executed_holds t there (Traps cause value) e =
      then_holds (Fault who cause value) tt (death who.pid n) (λ id some. inl (death_waits n turned_matched who.pid id some))

  handler_holds : All P (after (End who) (settled (handler_ended who.pid n))).told
  unfolding handler_ended
  handler_holds =
      then_holds (End who) tt (delivered who.pid (change_thread (thread_id who.pid 1) (with_state Idle) n))
      (λ id some. absurd (false≢true (sym (delivered_answers (change_thread (thread_id who.pid 1) (with_state Idle) n) who.pid id) ∙ some)))

  act_holds : (t : Thread) → m.threads who ≡ Some t → (done : Told) → ActCase m who t done → All P done.told
  act_holds t there _ (Instructs x e) = executed_holds t there x e
  act_holds t there _ (EndsThread e) =
      then_holds (End who) tt (thread_ended who (reg_at t.regs 10) n) (λ id some. inl (thread_end_waits n turned_matched who (reg_at t.regs 10) id some))
  act_holds t there _ (EndsHandler e) = handler_holds

-- ---- any cause

no_records : (m : Machine) (cause : Cause) → All (λ (rec : Rec). IsReplyDue m cause rec.what) []
no_records m cause = All-nil (λ (rec : Rec). IsReplyDue m cause rec.what)

event_holds : (m : Machine) (cause : Cause) (change : Change) → ((id : ThreadId) → is_some (change.answers id) ≡ true → is_waiting (m.threads id) ≡ true)
    → All (λ (rec : Rec). IsReplyDue m cause rec.what) (map (record_of m.steps) (settled change).told)
event_holds m cause change due =
    All-map (λ (rec : Rec). IsReplyDue m cause rec.what) (record_of m.steps) (settled change).told
    (change_holds (λ what. IsReplyDue m cause what) (λ pid k. tt) (λ pid. tt) change (λ id words some. inl (due id some)))

pub replies_are_due : RepliesAreDue
replies_are_due cause m h = by cause (record { machine = caused cause m; records = records_by cause m }) (case_of cause m)
  where
    by : (cause : Cause) (next : Recorded) → CauseCase m cause next → All (λ (rec : Rec). IsReplyDue m cause rec.what) next.records
    by _ _ (Rests cause cursor reserved rest) = no_records m cause
    by _ _ (Steps who t acts there case) =
        let done = acted (turned_to who m) t in
        All-map (λ (rec : Rec). IsReplyDue m ByStep rec.what) (record_of (m.steps + 1)) (timed (counted (turned_to who m) (Some t) done)).told
        (timed_holds (λ what. IsReplyDue m ByStep what) (λ pid k. tt) (λ pid. tt) (counted (turned_to who m) (Some t) done)
        (act_holds m h who acts t there done case))
    by _ _ (Raises k claim e) =
        event_holds m (ByIrq k) (pended k claim (unreserved m))
        (λ id some. absurd (false≢true (sym (delivered_answers (record (unreserved m) { pending = put_at nat_eq m.pending k true }) claim.pid id) ∙ some)))
    by _ _ (Kills pid e) =
        event_holds m (ByKill pid) (death pid (unreserved m)) (λ id some. death_waits (unreserved m) (matched_reserved m h None) pid id some)
