-- What each step and event tells of each thread, and so each run: how it comes to stand as it does.
use Rattle.std.proofs.Common.{◌≡◌, ℕ, ◌+◌, ◌⊎◌, inl, inr, Bool, true, false, List, [], ◌∷◌, length, map, Option, Some, None, refl, sym, ap, ◌∙◌, subst}
use Rattle.std.specs.Prelude.{◌==◌, if◌then◌else◌, is_some}
use Rattle.std.specs.Option.{option_map}
use Rattle.std.proofs.lemmas.Bool.{false≢true}
use Rattle.std.proofs.lemmas.List.{map-append}
use Rattle.xk_base.specs.declared.events.Event.{Event}
use Rattle.xk_base.specs.declared.ids.ThreadId.{ThreadId}
use Rattle.xk_base.specs.declared.records.Rec.{Rec}
use Rattle.xk_base.specs.declared.records.What.{What}
use Rattle.xk_base.specs.declared.records.What.TheVariants.{Byte, End, Fault}
use Rattle.xk_base.specs.Calls.Registers.{arguments_of, reg_at}
use Rattle.xk_base.specs.Tables.Circle.{same_thread}
use Rattle.machine_laws.specs.Records.{records_by, records_of}
use Rattle.machine_laws.specs.HistoryMoments.{moments_of}
use Rattle.machine_laws.proofs.Histories.MomentLemmas.{history_is_run}
use Rattle.machine_model.specs.Ending.Ends.{death, handler_ended, thread_ended}
use Rattle.machine_model.specs.Hart.Instructions.{CallsKernel, Executed, Next, Stores, StoresToConsole, StoresToTimer, Traps}
use Rattle.machine_model.specs.Runs.Matched.{Matched}
use Rattle.machine_model.specs.Runs.Moments.{Cause, IsRun, Moment, caused, state_at}
use Rattle.machine_model.specs.State.Changes.{Told, settled}
use Rattle.machine_model.specs.State.Machine.{Idle, Machine, Process, Ready, Thread, ThreadState}
use Rattle.machine_model.specs.State.Order.{actor, ready_at}
use Rattle.machine_model.specs.State.Threads.{change_thread, thread_id, with_registers, with_state}
use Rattle.machine_model.specs.State.Views.{stored, timer_set}
use Rattle.machine_model.specs.Stepping.Interrupts.{delivered, pended}
use Rattle.machine_model.specs.Stepping.Reservations.{unreserved}
use Rattle.machine_model.specs.Stepping.Step.{Recorded, acted, after, console_told, counted, executed, record_of, step}
use Rattle.machine_model.specs.Stepping.Timer.{timed}
use Rattle.machine_model.proofs.Runs.KeptLemmas.{matched_at}
use Rattle.machine_laws.proofs.Stepping.EveryStepLemmas.{every_cause_keeps, every_step_keeps}
use Rattle.machine_laws.proofs.Threading.ThreadAnswerLemmas.{IsReadyThread, ready_lives, ready_thread}
use Rattle.machine_laws.proofs.Threading.ThreadMoveLemmas.{matched_reserved}
use Rattle.machine_laws.proofs.Threading.ThreadPutLemmas.{alike}
use Rattle.machine_laws.proofs.Threading.ThreadStepLemmas.{actor_ready, step_of_thread, turned_to}
use Rattle.machine_laws.proofs.Stepping.CauseCaseLemmas.{ActCase, CauseCase, EndsHandler, EndsThread, Instructs, Kills, Raises, Rests, Steps, case_of}
use Rattle.transcript_laws.specs.AnsweredOnce.{AnsweredOnce, Free, LeadsIf, Says, SayInTurn, StandingsFollow, standing, standing_by}
use Rattle.transcript_laws.specs.Answering.{awaits_reply, is_waiting}
use Rattle.transcript_laws.proofs.Answering.CallSayLemmas.{call_tells}
use Rattle.transcript_laws.proofs.Answering.CountLemmas.{calls_answered}
use Rattle.transcript_laws.proofs.Answering.DeathFitLemmas.{death_itself_fits, thread_end_fits}
use Rattle.transcript_laws.proofs.Answering.DeliverSayLemmas.{HandlersLive, Tells, delivered_delivers, delivers_tells, pended_delivers}
use Rattle.transcript_laws.proofs.Answering.DeliverSayLemmas.{timed_tells}
use Rattle.transcript_laws.proofs.Answering.SayLemmas.{change_says, say_append, say_first, say_none}
use Rattle.transcript_laws.proofs.Answering.StandLemmas.{changed_stands, put_stands, ready_stands}
use Rattle.transcript_laws.proofs.Ordering.StepLemmas.{acted_is_told}

-- ---- handlers

some_thread : (P : Type 0) (o : Option Thread) → ((t : Thread) → o ≡ Some t → P) → is_some o ≡ true → P
some_thread P None of e = absurd (false≢true e)
some_thread P (Some t) of e = of t refl

pub handlers_live : (m : Machine) → Matched m → HandlersLive m
handlers_live m h pid some =
    some_thread ((m.process pid.0).alive ≡ true) (m.threads (thread_id pid 1)) (λ t there. h.body.ids.living (thread_id pid 1) t there) some

-- ---- a step

module _ (m : Machine) (h : Matched m) (who : ThreadId) (acts : actor m ≡ Some who) where
  abbrev n : Machine
  n = turned_to who m

  turned_matched : Matched n
  turned_matched = matched_at who m h

  ready : ready_at n who ≡ true
  ready = actor_ready m who acts

  lives : (m.process who.pid.0).alive ≡ true
  lives = ready_lives n turned_matched who ready

  who_free : standing m who ≡ Free
  who_free = ready_stands n turned_matched who (ready_thread n who ready)

  -- a record of the thread leaves it free
  own_says : (id : ThreadId) → LeadsIf (same_thread who id) Free Free (standing m id) (standing m id)
  own_says id = go (same_thread who id) refl
    where
      go : (b : Bool) → same_thread who id ≡ b → LeadsIf b Free Free (standing m id) (standing m id)
      go true e =
          let f : standing m id ≡ Free = ap (standing m) (sym (alike who id e)) ∙ who_free in
          (f, f)
      go false e = refl

  told_none : (next : Machine) → ((id : ThreadId) → standing next id ≡ standing m id) → Tells (standing m) (record { machine = next; told = [] })
  told_none next same id = subst (SayInTurn id [] (standing m id)) (sym (same id)) (say_none id (standing m id))

  moved : (regs : List ℕ) (pc : ℕ) (id : ThreadId) → standing (change_thread who (with_registers regs pc) n) id ≡ standing m id
  moved regs pc id = changed_stands n who (with_registers regs pc) (λ t. refl) id

  stored_tells : (next : Machine) → next.threads ≡ m.threads → next.process ≡ m.process → (regs : List ℕ) (pc : ℕ)
      → Tells (standing m) (record { machine = change_thread who (with_registers regs pc) next; told = [] })
  stored_tells next threads process regs pc =
      told_none (change_thread who (with_registers regs pc) next)
      (λ id. changed_stands next who (with_registers regs pc) (λ t. refl) id
      ∙ (ap (λ (f : ThreadId → Option Thread). standing_by (next.process id.pid.0).alive (is_waiting (f id))) threads
      ∙ ap (λ (f : ℕ → Process). standing_by (f id.pid.0).alive (is_waiting (m.threads id))) process))

  byte_tells : (offset value : ℕ) (next : Machine) → ((id : ThreadId) → standing next id ≡ standing m id)
      → Tells (standing m) (record { machine = next; told = console_told who offset value })
  byte_tells offset value next same = go (offset == 0)
    where
      go : (b : Bool) → Tells (standing m) (record { machine = next; told = if b then console_told who 0 value else [] })
      go false id = told_none next same id
      go true id =
          say_first id (Byte who _) [] (standing m id) (standing m id) (standing next id) (own_says id)
          (subst (SayInTurn id [] (standing m id)) (sym (same id)) (say_none id (standing m id)))

  then_tells : (what : What) → ((id : ThreadId) → Says id what (standing m id) (standing m id)) → (done : Told) → Tells (standing m) done
      → Tells (standing m) (after what done)
  then_tells what says done tells id = say_first id what done.told (standing m id) (standing m id) (standing done.machine id) (says id) (tells id)

  executed_tells : (t : Thread) (x : Executed) → Tells (standing m) (executed n t x)
  unfolding stored timer_set
  executed_tells t (Next regs pc) = told_none (change_thread who (with_registers regs pc) n) (moved regs pc)
  executed_tells t (Stores address width value regs pc) = stored_tells (stored who.pid address width value n) refl refl regs pc
  executed_tells t (StoresToConsole offset value regs pc) =
      byte_tells offset value (change_thread who (with_registers regs pc) n) (moved regs pc)
  executed_tells t (StoresToTimer offset width value regs pc) = stored_tells (timer_set offset width value n) refl refl regs pc
  executed_tells t CallsKernel = call_tells n turned_matched ready (arguments_of t.regs)
  executed_tells t (Traps cause value) =
      then_tells (Fault who cause value) own_says (settled (death who.pid n))
      (change_says (standing m) (death who.pid n) (death_itself_fits n turned_matched who.pid lives (standing m) (λ id. inl refl)))

  thread_end_tells : (a0 : ℕ) → Tells (standing m) (after (End who) (settled (thread_ended who a0 n)))
  thread_end_tells a0 =
      then_tells (End who) own_says (settled (thread_ended who a0 n))
      (change_says (standing m) (thread_ended who a0 n) (thread_end_fits n turned_matched who a0 lives free))
    where
      r : IsReadyThread n who
      r = ready_thread n who ready

      free : is_waiting (n.threads who) ≡ false
      free = ap is_waiting r.there ∙ ap awaits_reply r.ready

  -- ---- the end of a handler

  abbrev idle : Machine
  idle = change_thread (thread_id who.pid 1) (with_state Idle) n

  handler_waits : is_waiting (m.threads (thread_id who.pid 1)) ≡ false
  handler_waits = go (turned_matched.body.threads.handler who.pid lives)
    where
      either : (s : ThreadState) → (s ≡ Ready) ⊎ (s ≡ Idle) → awaits_reply s ≡ false
      either s (inl e) = ap awaits_reply e
      either s (inr e) = ap awaits_reply e

      go : (t : Thread) × (m.threads (thread_id who.pid 1) ≡ Some t) × ((t.state ≡ Ready) ⊎ (t.state ≡ Idle))
          → is_waiting (m.threads (thread_id who.pid 1)) ≡ false
      go at = ap is_waiting at.1 ∙ either at.0.state at.2

  idle_stands : (id : ThreadId) → standing idle id ≡ standing m id
  idle_stands id =
      put_stands n (thread_id who.pid 1) (option_map (with_state Idle) (n.threads (thread_id who.pid 1))) handler_waits
      (none (n.threads (thread_id who.pid 1))) id
    where
      none : (o : Option Thread) → is_waiting (option_map (with_state Idle) o) ≡ false
      none None = refl
      none (Some t) = refl

  idle_lives : HandlersLive idle
  idle_lives pid some = handlers_live n turned_matched pid (go (same_thread (thread_id pid 1) (thread_id who.pid 1)) refl some)
    where
      mapped : (o : Option Thread) → is_some (option_map (with_state Idle) o) ≡ true → is_some o ≡ true
      mapped None e = absurd (false≢true e)
      mapped (Some t) e = refl

      go : (b : Bool) → same_thread (thread_id pid 1) (thread_id who.pid 1) ≡ b
          → is_some (if b then option_map (with_state Idle) (n.threads (thread_id who.pid 1)) else n.threads (thread_id pid 1)) ≡ true
          → is_some (n.threads (thread_id pid 1)) ≡ true
      go true e q =
          ap (λ x. is_some (n.threads x)) (alike (thread_id pid 1) (thread_id who.pid 1) e) ∙ mapped (n.threads (thread_id who.pid 1)) q
      go false e q = q

  handler_end_tells : Tells (standing m) (after (End who) (settled (handler_ended who.pid n)))
  unfolding handler_ended
  handler_end_tells =
      then_tells (End who) own_says (settled (delivered who.pid idle))
      (λ id. subst (λ s. SayInTurn id (settled (delivered who.pid idle)).told s (standing (settled (delivered who.pid idle)).machine id)) (idle_stands id)
      (delivers_tells idle (delivered who.pid idle) (delivered_delivers idle who.pid) idle_lives id))

  -- ---- all that a thread does

  act_tells : (t : Thread) (done : Told) → ActCase m who t done → Tells (standing m) done
  act_tells t _ (Instructs x e) = executed_tells t x
  act_tells t _ (EndsThread e) = thread_end_tells (reg_at t.regs 10)
  act_tells t _ (EndsHandler e) = handler_end_tells

  abbrev done : Thread → Told
  done t = counted n (Some t) (acted n t)

  step_tells : (t : Thread) → m.threads who ≡ Some t → Tells (standing m) (acted n t) → Tells (standing m) (timed (done t))
  step_tells t there tells =
      timed_tells (standing m) (done t)
      (subst HandlersLive (step_of_thread m who t acts there) (handlers_live (step m).machine (every_step_keeps m h)))
      (acted_is_told n (Some t)).ordered tells

-- ---- any cause

-- how a thread stands leads from the state to the next by what is told
abbrev pub LeadsOn : Machine → Recorded → Type 0
LeadsOn m next = (who : ThreadId) → SayInTurn who (map (λ (rec : Rec). rec.what) next.records) (standing m who) (standing next.machine who)

numbered : (k : ℕ) (told : List What) → map (λ (rec : Rec). rec.what) (map (record_of k) told) ≡ told
numbered k [] = refl
numbered k (what ∷ told) = ap (λ later. what ∷ later) (numbered k told)

told_leads : (m : Machine) (k : ℕ) (done : Told) → Tells (standing m) done → LeadsOn m (record { machine = done.machine; records = map (record_of k) done.told })
told_leads m k done tells who =
    subst (λ told. SayInTurn who told (standing m who) (standing done.machine who)) (sym (numbered k done.told)) (tells who)

nothing_leads : (m : Machine) → LeadsOn m (record { machine = m; records = [] })
nothing_leads m who = say_none who (standing m who)

pub cause_leads : (cause : Cause) (m : Machine) → Matched m → LeadsOn m (record { machine = caused cause m; records = records_by cause m })
cause_leads cause m h = by cause (record { machine = caused cause m; records = records_by cause m }) (case_of cause m)
  where
    by : (cause : Cause) (next : Recorded) → CauseCase m cause next → LeadsOn m next
    by _ _ (Rests cause cursor reserved rest) = nothing_leads m
    by _ _ (Steps who t acts there case) =
        let done = acted (turned_to who m) t in
        told_leads m (m.steps + 1) (timed (counted (turned_to who m) (Some t) done)) (step_tells m h who acts t there (act_tells m h who acts t done case))
    by _ _ (Raises k claim e) =
        told_leads m m.steps (settled (pended k claim (unreserved m)))
        (delivers_tells (unreserved m) (pended k claim (unreserved m)) (pended_delivers (unreserved m) k claim)
        (handlers_live (unreserved m) (matched_reserved m h None)))
    by _ _ (Kills pid e) =
        told_leads m m.steps (settled (death pid (unreserved m)))
        (change_says (standing m) (death pid (unreserved m))
        (death_itself_fits (unreserved m) (matched_reserved m h None) pid e (standing m) (λ id. inl refl)))

-- ---- runs and histories

pub run_leads : (start : Machine) (moments : List Moment) → Matched start → IsRun start moments → StandingsFollow start moments
unfolding IsRun state_at records_of
run_leads start [] h run who = say_none who (standing start who)
run_leads start (moment ∷ moments) h run who =
    subst (λ told. SayInTurn who told (standing start who) (standing (state_at moment.machine moments (length moments)) who))
    (sym (map-append (λ (rec : Rec). rec.what) (records_by moment.cause start) (records_of moment.machine moments)))
    (say_append who (map (λ (rec : Rec). rec.what) (records_by moment.cause start))
    (map (λ (rec : Rec). rec.what) (records_of moment.machine moments)) (standing start who) (standing moment.machine who)
    (standing (state_at moment.machine moments (length moments)) who)
    (subst (λ (next : Machine). SayInTurn who (map (λ (rec : Rec). rec.what) (records_by moment.cause start)) (standing start who) (standing next who))
    (sym run.0) (cause_leads moment.cause start h who))
    (run_leads moment.machine moments (subst Matched (sym run.0) (every_cause_keeps moment.cause start h)) run.1 who))

pub history_leads_on : (events : List Event) (limit : ℕ) (start : Machine) → Matched start → StandingsFollow start (moments_of events limit start)
history_leads_on events limit start h = run_leads start (moments_of events limit start) h (history_is_run events limit start)

pub run_is_answered : (start : Machine) (moments : List Moment) → Matched start → IsRun start moments → AnsweredOnce start moments
run_is_answered start moments h run who =
    calls_answered who (map (λ (rec : Rec). rec.what) (records_of start moments)) (standing start who)
    (standing (state_at start moments (length moments)) who) (run_leads start moments h run who)

pub history_is_answered : (events : List Event) (limit : ℕ) (start : Machine) → Matched start → AnsweredOnce start (moments_of events limit start)
history_is_answered events limit start h = run_is_answered start (moments_of events limit start) h (history_is_run events limit start)
