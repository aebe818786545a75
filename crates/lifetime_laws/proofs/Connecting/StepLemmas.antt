-- Whatever leads to the next state connects a process by its own call alone, and so does a run.
use Rattle.std.proofs.Common.{◌≡◌, ℕ, zero, suc, ◌<◌, Bool, true, false, [], ◌∷◌, Some, None, refl, sym, ap, ◌∙◌, arith, subst}
use Rattle.std.specs.Prelude.{slice_get}
use Rattle.std.proofs.lemmas.Bool.{false≢true}
use Rattle.xk_base.specs.declared.ids.Pid.{Pid}
use Rattle.xk_base.specs.declared.ids.ThreadId.{ThreadId}
use Rattle.xk_base.specs.Calls.Registers.{arguments_of, reg_at}
use Rattle.machine_model.specs.Ending.Closing.{closed, senders_held_gone, senders_queued_gone, servers_closed}
use Rattle.machine_model.specs.Ending.Ends.{death, forgotten, handler_ended, thread_ended}
use Rattle.machine_model.specs.Hart.Instructions.{CallsKernel, Executed, Next, Stores, StoresToConsole, StoresToTimer, Traps}
use Rattle.machine_model.specs.Runs.Matched.{Matched}
use Rattle.machine_model.specs.Runs.Moments.{ByIrq, ByKill, ByStep, IsRun, Moment, moment_of, state_at}
use Rattle.machine_model.specs.State.Machine.{Idle, Machine, Process, Thread}
use Rattle.machine_model.specs.State.Order.{actor}
use Rattle.machine_model.specs.State.Threads.{change_thread, put_thread, thread_id, with_state}
use Rattle.machine_model.specs.State.Views.{stored, timer_set}
use Rattle.machine_model.specs.Stepping.Acts.{executes}
use Rattle.machine_model.specs.Stepping.Events.{killed, raised}
use Rattle.machine_model.specs.Stepping.Interrupts.{delivered}
use Rattle.machine_model.specs.Stepping.Reservations.{unreserved}
use Rattle.machine_model.specs.Stepping.Step.{Recorded, executed, step}
use Rattle.machine_model.proofs.Runs.TimerLemmas.{pended_raised}
use Rattle.machine_laws.proofs.Stepping.EveryStepLemmas.{every_cause_keeps}
use Rattle.machine_laws.proofs.Stepping.StepKindLemmas.{is_call}
use Rattle.machine_laws.proofs.Threading.ThreadStepLemmas.{turned_to}
use Rattle.loan_laws.proofs.Fates.LikeLemmas.{settled_like, step_like}
use Rattle.machine_laws.proofs.Stepping.CauseCaseLemmas.{ActCase, CauseCase, EndCase, EndsHandler, EndsThread, Instructs, IsLast, Kills, LeavesOthers, Raises, Rests, StartCase, Starts}
use Rattle.machine_laws.proofs.Stepping.CauseCaseLemmas.{StartsNone, Steps, case_of, end_of, start_of}
use Rattle.lifetime_laws.specs.Connecting.{ConnectsByOwnCalls, EveryMomentConnectsSo, EveryRunConnectsSo, IsConnecting, is_connected}
use Rattle.lifetime_laws.proofs.Connecting.CallLemmas.{HasOnlyOld, call_connects, dead_old, old_connects, same_old}
use Rattle.machine_laws.specs.Records.{records_by}
use Rattle.machine_model.specs.Runs.Moments.{Cause, caused}
use Rattle.machine_model.specs.State.Changes.{Change, Told}
use Rattle.machine_model.specs.Stepping.Step.{acted}

-- ---- interrupts leave the processes

delivered_process : (pid : Pid) (m : Machine) → (delivered pid m).machine.process ≡ m.process
delivered_process pid m = go (delivered pid m) (start_of pid m)
  where
    go : (change : Change) → StartCase pid m change → change.machine.process ≡ m.process
    go _ StartsNone = refl
    go _ (Starts k claim e) = refl

handler_process : (pid : Pid) (m : Machine) → (handler_ended pid m).machine.process ≡ m.process
unfolding handler_ended
handler_process pid m = delivered_process pid (change_thread (thread_id pid 1) (with_state Idle) m)

-- ---- the step of a thread

-- a death makes no connection
death_old : (pid : Pid) (m : Machine) (after : ℕ → Process) → after ≡ (death pid m).machine.process → HasOnlyOld m.process after
unfolding death servers_closed closed senders_queued_gone senders_held_gone forgotten
death_old pid m after same = dead_old m.process after pid.0 same

module _ (m : Machine) (who : ThreadId) (acts : actor m ≡ Some who) where
  abbrev here : Machine
  here = turned_to who m

  law : HasOnlyOld m.process (step m).machine.process → ConnectsByOwnCalls m (moment_of ByStep m)
  law old = old_connects m (moment_of ByStep m) old

  executed_connects : (t : Thread) → m.threads who ≡ Some t → (x : Executed) → executes m who t ≡ Some x
      → (step m).machine.process ≡ (executed here t x).machine.process → ConnectsByOwnCalls m (moment_of ByStep m)
  unfolding stored timer_set
  executed_connects t there (Next regs pc) e is = law (same_old m.process (step m).machine.process is)
  executed_connects t there (Stores address width value regs pc) e is = law (same_old m.process (step m).machine.process is)
  executed_connects t there (StoresToConsole offset value regs pc) e is = law (same_old m.process (step m).machine.process is)
  executed_connects t there (StoresToTimer offset width value regs pc) e is = law (same_old m.process (step m).machine.process is)
  executed_connects t there CallsKernel e is = call_connects m who (arguments_of t.regs) (record { acts = acts; call = is_call m who t there e })
  executed_connects t there (Traps cause value) e is =
      law (death_old who.pid here (step m).machine.process (is ∙ (settled_like (death who.pid here)).process))

  -- the end of a thread, and of its process with the last
  ended_old : (a0 : ℕ) (change : Change) → EndCase who a0 here change → (step m).machine.process ≡ change.machine.process
      → HasOnlyOld m.process (step m).machine.process
  ended_old a0 _ LeavesOthers is = same_old m.process (step m).machine.process is
  ended_old a0 _ IsLast is = death_old who.pid (put_thread who None here) (step m).machine.process is

  act_connects : (t : Thread) → m.threads who ≡ Some t → (done : Told) → ActCase m who t done → (step m).machine.process ≡ done.machine.process
      → ConnectsByOwnCalls m (moment_of ByStep m)
  act_connects t there _ (Instructs x e) is = executed_connects t there x e is
  act_connects t there _ (EndsThread ends) is =
      let ended = thread_ended who (reg_at t.regs 10) here in
      law (ended_old (reg_at t.regs 10) ended (end_of who (reg_at t.regs 10) here) (is ∙ (settled_like ended).process))
  act_connects t there _ (EndsHandler ends) is =
      law (same_old m.process (step m).machine.process (is ∙ ((settled_like (handler_ended who.pid here)).process ∙ handler_process who.pid here)))

pub every_moment_connects : EveryMomentConnectsSo
every_moment_connects cause m h = by cause (record { machine = caused cause m; records = records_by cause m }) (case_of cause m) refl
  where
    by : (cause : Cause) (next : Recorded) → CauseCase m cause next → (caused cause m).process ≡ next.machine.process
        → ConnectsByOwnCalls m (moment_of cause m)
    by _ _ (Rests cause cursor reserved rest) is = old_connects m (moment_of cause m) (same_old m.process (caused cause m).process is)
    by _ _ (Steps who t acts there case) is = act_connects m who acts t there (acted (turned_to who m) t) case (step_like m who t acts there).process
    by _ _ (Raises k claim e) is =
        old_connects m (moment_of (ByIrq k) m)
        (same_old m.process (raised k m).machine.process (is ∙ ap (λ (x : Machine). x.process) (pended_raised k claim (unreserved m)).is))
    by _ _ (Kills pid e) is =
        old_connects m (moment_of (ByKill pid) m)
        (death_old pid (unreserved m) (killed pid m).machine.process (is ∙ (settled_like (death pid (unreserved m))).process))

-- ---- runs

moment_connects : (start : Machine) (moment : Moment) → Matched start → moment ≡ moment_of moment.cause start → ConnectsByOwnCalls start moment
moment_connects start moment h is =
    subst (λ (x : Moment). ConnectsByOwnCalls start x) (sym is) (every_moment_connects moment.cause start h)

pub every_run_connects : EveryRunConnectsSo
unfolding IsRun state_at
every_run_connects start moments h run pid serial zero none some = absurd (false≢true (sym none ∙ some))
every_run_connects start [] h run pid serial (suc i) none some = absurd (false≢true (sym none ∙ some))
every_run_connects start (moment ∷ moments) h run pid serial (suc i) none some =
    go
    (λ later.
    every_run_connects moment.machine moments (subst Matched (sym run.0) (every_cause_keeps moment.cause start h)) run.1 pid serial i later some)
    (is_connected moment.machine pid serial) refl
  where
    Later : Type 0
    Later =
        is_connected moment.machine pid serial ≡ false
        → (j : ℕ) × (found : Moment) × (j < i) × (slice_get moments j ≡ Some found) × IsConnecting pid serial (state_at moment.machine moments j) found

    go : Later → (b : Bool) → is_connected moment.machine pid serial ≡ b
        → (j : ℕ) × (found : Moment) × (j < suc i) × (slice_get (moment ∷ moments) j ≡ Some found)
        × IsConnecting pid serial (state_at start (moment ∷ moments) j) found
    go later true e = (
      zero,
      moment,
      omega arith,
      refl,
      moment_connects start moment h (λ k. record { cause = moment.cause; machine = run.0 k }) pid serial none e,
    )
    go later false e =
        let at = later e in
        let low : at.0 < i = at.2 in
        (suc at.0, at.1, omega arith, at.3, at.4)
