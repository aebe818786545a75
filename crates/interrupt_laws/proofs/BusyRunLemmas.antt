-- Each moment keeps that no interrupt thread is Idle beside a pending number of its process, and so does each run.
use Rattle.std.proofs.Common.{◌≡◌, ℕ, zero, suc, [], ◌∷◌, Option, Some, sym, ap, ◌∙◌, subst}
use Rattle.std.proofs.lemmas.Bool.{false≢true}
use Rattle.xk_base.specs.declared.ids.ThreadId.{ThreadId}
use Rattle.xk_base.specs.Calls.Registers.{arguments_of, reg_at}
use Rattle.machine_model.specs.Ending.Ends.{death, handler_ended, thread_ended}
use Rattle.machine_model.specs.Hart.Instructions.{Executed, Next, Stores, StoresToConsole, StoresToTimer, CallsKernel, Traps}
use Rattle.machine_model.specs.Runs.Matched.{Matched}
use Rattle.machine_model.specs.Runs.Moments.{Cause, ByStep, IsRun, caused, state_at}
use Rattle.machine_model.specs.State.Changes.{Change, Told, settled}
use Rattle.machine_model.specs.State.Machine.{Claim, Machine, Thread}
use Rattle.machine_model.specs.State.Order.{actor}
use Rattle.machine_model.specs.State.Threads.{with_registers}
use Rattle.machine_model.specs.State.Views.{stored, timer_set}
use Rattle.machine_model.specs.Stepping.Reservations.{unreserved}
use Rattle.machine_model.specs.Stepping.Step.{Recorded, counted, executed, step}
use Rattle.machine_model.specs.Stepping.Timer.{is_due}
use Rattle.machine_model.proofs.Runs.TimerLemmas.{timed_raised}
use Rattle.machine_laws.proofs.Stepping.EveryStepLemmas.{every_cause_keeps}
use Rattle.machine_laws.proofs.Threading.ThreadStepLemmas.{turned_to}
use Rattle.machine_laws.proofs.Stepping.CauseCaseLemmas.{ActCase, CauseCase, EndsHandler, EndsThread, Instructs, Kills, Raises, Rests, Steps, case_of}
use Rattle.interrupt_laws.specs.Busy.{PendingMeansBusy, PendingStaysBusy, StartsBusy}
use Rattle.interrupt_laws.proofs.BusyDeliveryLemmas.{AreNumbers, handler_end_busy, pended_busy, timed_busy}
use Rattle.interrupt_laws.proofs.IdleCallLemmas.{call_calms}
use Rattle.interrupt_laws.proofs.IdleLemmas.{Calms, busy_kept, changed_idles, death_calms, settled_calms, then_calms, thread_end_calms}
use Rattle.interrupt_laws.proofs.KeptPendingLemmas.{PendingIsClaimed}
use Rattle.machine_laws.specs.Records.{records_by}
use Rattle.machine_laws.proofs.Threading.ThreadStepLemmas.{step_of_thread}
use Rattle.machine_model.specs.Stepping.Step.{acted}
use Rattle.machine_model.specs.Stepping.Timer.{timed}

-- a change that calms, with its answers
change_busy : (m : Machine) (change : Change) → Calms m change.machine → PendingMeansBusy m → PendingMeansBusy (settled change).machine
change_busy m change calms busy =
    busy_kept m (settled change).machine (then_calms m change.machine (settled change).machine calms (settled_calms change)) busy

-- ---- what a thread does

module _ (m : Machine) (claimed : PendingIsClaimed m) (numbers : AreNumbers m) (busy : PendingMeansBusy m) where
  executed_busy : (t : Thread) (x : Executed) → PendingMeansBusy (executed m t x).machine
  unfolding stored timer_set
  executed_busy t (Next regs pc) =
      busy_kept m (executed m t (Next regs pc)).machine
      (record { idles = changed_idles m m.cursor (with_registers regs pc) (λ u idle. idle); stood = λ k claim c p. (c, p) }) busy
  executed_busy t (Stores address width value regs pc) =
      busy_kept m (executed m t (Stores address width value regs pc)).machine
      (record { idles = changed_idles m m.cursor (with_registers regs pc) (λ u idle. idle); stood = λ k claim c p. (c, p) }) busy
  executed_busy t (StoresToConsole offset value regs pc) =
      busy_kept m (executed m t (StoresToConsole offset value regs pc)).machine
      (record { idles = changed_idles m m.cursor (with_registers regs pc) (λ u idle. idle); stood = λ k claim c p. (c, p) }) busy
  executed_busy t (StoresToTimer offset width value regs pc) =
      busy_kept m (executed m t (StoresToTimer offset width value regs pc)).machine
      (record { idles = changed_idles m m.cursor (with_registers regs pc) (λ u idle. idle); stood = λ k claim c p. (c, p) }) busy
  executed_busy t CallsKernel =
      busy_kept m (executed m t CallsKernel).machine (call_calms m (arguments_of t.regs) claimed) busy
  executed_busy t (Traps cause value) = change_busy m (death m.cursor.pid m) (death_calms m.cursor.pid m) busy

-- ---- a step

module _ (m : Machine) (h : Matched m) (busy : PendingMeansBusy m) where
  claimed : PendingIsClaimed m
  claimed k pending = h.rest.claims.pending_claimed k pending

  module _ (who : ThreadId) (t : Thread) (acts : actor m ≡ Some who) (there : m.threads who ≡ Some t) where
    abbrev n : Machine
    n = turned_to who m

    abbrev done : Told
    done = counted n (Some t) (acted n t)

    same_claims : (step m).machine.claims ≡ done.machine.claims
    same_claims = ap (λ (x : Machine). x.claims) (step_of_thread m who t acts there) ∙ ap (λ (x : Machine). x.claims) (timed_raised done).is

    numbers : AreNumbers done.machine
    numbers k claim c =
        (every_cause_keeps ByStep m h).rest.claims.numbers k claim (ap (λ (f : ℕ → Option Claim). f k) same_claims ∙ c)

    act_busy : (done : Told) → ActCase m who t done → PendingMeansBusy done.machine
    act_busy _ (Instructs x e) = executed_busy n claimed h.rest.claims.numbers busy t x
    act_busy _ (EndsThread e) = change_busy n (thread_ended who (reg_at t.regs 10) n) (thread_end_calms who (reg_at t.regs 10) n) busy
    act_busy _ (EndsHandler e) =
        busy_kept (handler_ended who.pid n).machine (settled (handler_ended who.pid n)).machine (settled_calms (handler_ended who.pid n))
        (handler_end_busy who.pid n h.rest.claims.numbers busy)

    stepped_busy : ActCase m who t (acted n t) → PendingMeansBusy (timed done).machine
    stepped_busy case = timed_busy (is_due done.machine.compare done.machine.steps) done numbers (act_busy (acted n t) case)

  pub cause_busy : (cause : Cause) → PendingMeansBusy (caused cause m)
  cause_busy cause = by cause (record { machine = caused cause m; records = records_by cause m }) (case_of cause m)
    where
      by : (cause : Cause) (next : Recorded) → CauseCase m cause next → PendingMeansBusy next.machine
      by _ _ (Rests cause cursor reserved rest) = busy
      by _ _ (Steps who t acts there case) = stepped_busy who t acts there case
      by _ _ (Raises k claim e) = pended_busy k claim (unreserved m) h.rest.claims.numbers e busy
      by _ _ (Kills pid e) = change_busy (unreserved m) (death pid (unreserved m)) (death_calms pid (unreserved m)) busy

-- ---- runs

pub pending_stays_busy : PendingStaysBusy
unfolding IsRun state_at
pending_stays_busy start moments h busy run zero = busy
pending_stays_busy start [] h busy run (suc i) = busy
pending_stays_busy start (moment ∷ moments) h busy run (suc i) =
    pending_stays_busy moment.machine moments (subst Matched (sym run.0) (every_cause_keeps moment.cause start h))
    (subst PendingMeansBusy (sym run.0) (cause_busy start h busy moment.cause)) run.1 i

pub starts_busy : StartsBusy
starts_busy m start k claim c p = absurd (false≢true (sym (start.pending k) ∙ p))
