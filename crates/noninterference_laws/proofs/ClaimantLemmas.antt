-- A step of another process keeps the interrupt thread and the pending numbers of the process that claimed the timer's interrupt, unless
-- the timer is due in it.
use Rattle.std.proofs.Common.{◌≡◌, ◌≢◌, ℕ, zero, suc, ◌+◌, Bool, true, false, List, [], ◌∷◌, Option, Some, None, refl, sym, ap, ◌∙◌, subst}
use Rattle.std.specs.Prelude.{nat_eq, is_some, slice_get, if◌then◌else◌}
use Rattle.std.specs.Option.{option_map_or}
use Rattle.std.proofs.lemmas.Bool.{eqb-true, false≢true}
use Rattle.std.proofs.lemmas.Option.{none-some, same_Some}
use Rattle.xk_base.specs.declared.ids.Pid.{Pid}
use Rattle.xk_base.specs.declared.ids.ThreadId.{ThreadId}
use Rattle.xk_base.specs.declared.limits.TheConstants.{TIMER_INTERRUPT}
use Rattle.xk_base.specs.Tables.Circle.{same_thread}
use Rattle.xk_base.specs.Tables.Counting.{put_at}
use Rattle.machine_model.specs.Runs.Matched.{Matched}
use Rattle.machine_model.specs.Runs.Moments.{ByStep, IsRun, Moment, caused, state_at}
use Rattle.machine_model.specs.State.Changes.{Told, settled}
use Rattle.machine_model.specs.State.Machine.{Claim, Machine, Thread}
use Rattle.machine_model.specs.State.Order.{actor}
use Rattle.machine_model.specs.State.Threads.{thread_id}
use Rattle.machine_model.specs.Stepping.Acts.{does_instruction}
use Rattle.machine_model.specs.Stepping.Events.{killed}
use Rattle.machine_model.specs.Stepping.Interrupts.{delivered, delivered_lowest, is_free_for_interrupt, lowest_pending, pended, with_handler_next}
use Rattle.machine_model.specs.Stepping.Step.{acted, acted_if_there, counted, step}
use Rattle.machine_model.specs.Stepping.Timer.{is_due, raised_by_timer, timed, timed_if}
use Rattle.machine_model.proofs.Runs.TimerLemmas.{timed_raised}
use Rattle.machine_laws.specs.HistoryMoments.{moments_of}
use Rattle.machine_laws.proofs.Histories.MomentLemmas.{history_is_run}
use Rattle.machine_laws.proofs.Stepping.EveryStepLemmas.{every_cause_keeps}
use Rattle.machine_laws.proofs.Threading.ThreadPutLemmas.{alike}
use Rattle.machine_laws.proofs.Threading.ThreadStepLemmas.{step_of_thread, turned_to}
use Rattle.noninterference_laws.proofs.InstructionLemmas.{LeftBefore, delivery_other, left_before, other_thread, unanswered}
use Rattle.interrupt_laws.specs.Raising.{IsRaise, other_effects, other_effects_of}
use Rattle.interrupt_laws.proofs.Runs.RaiseLemmas.{else_nothing}
use Rattle.noninterference_laws.specs.Causes.{by_kill, by_step}
use Rattle.noninterference_laws.specs.Claimant.{EffectsKeepThreads, HistoriesKeepThreads, KeepsThread, KeepsAllThreads, KillsKeepClaimants}
use Rattle.noninterference_laws.specs.Claimant.{StepsKeepPending, StepsKeepThreads, TimerStarts}
use Rattle.noninterference_laws.specs.Fates.{ThreadFate}
use Rattle.noninterference_laws.proofs.PartLemmas.{KeepsParts, counted_parts}
use Rattle.noninterference_laws.proofs.StepLemmas.{BeforeTimer, kill_parts, step_before}

due_value : (o : Option ℕ) (n : ℕ) → is_due o n ≡ true → o ≡ Some n
due_value None n e = absurd (false≢true e)
due_value (Some c) n e = ap Some (eqb-true c n e)

-- ---- a step of a thread: what it does before the timer, and the timer

module _ (m : Machine) (who : ThreadId) (acts : actor m ≡ Some who) (t : Thread) (there : m.threads who ≡ Some t) where
  abbrev done : Told
  done = counted (turned_to who m) (Some t) (acted (turned_to who m) t)

  effects_are : other_effects m ≡ done.machine
  unfolding other_effects
  effects_are =
      ap (λ o. option_map_or (other_effects_of m) o m) acts
      ∙ ap (λ o. (counted (turned_to who m) o (acted_if_there (turned_to who m) o)).machine) there

  raise_of : is_due done.machine.compare done.machine.steps ≡ true → IsRaise m ByStep
  raise_of e = record {
    step = refl;
    acts = ap is_some acts;
    due = ap (λ (x : Machine). x.compare) effects_are ∙ due_value done.machine.compare (m.steps + 1) e;
  }

  module _ (id : ThreadId) where
    -- an interrupt thread that runs a handler stays as it is
    busy_stays : (x : Machine) (pid : Pid) → is_free_for_interrupt x pid ≡ false
        → (settled (with_handler_next (delivered pid x))).machine.threads id ≡ x.threads id
    unfolding delivered settled
    busy_stays x pid e =
        ap
        (λ b. (settled (with_handler_next (delivered_lowest x pid (if b then lowest_pending x pid else None)))).machine.threads id) e
        ∙ unanswered (x.threads id)

    module _ (none : ¬ TimerStarts m id) where
      pended_stays : is_due done.machine.compare done.machine.steps ≡ true → (claim : Claim) → done.machine.claims TIMER_INTERRUPT ≡ Some claim
          → (a b : Bool) → is_free_for_interrupt done.machine claim.pid ≡ a → same_thread id (thread_id claim.pid 1) ≡ b
          → (settled (pended TIMER_INTERRUPT claim (record done.machine { compare = None }))).machine.threads id ≡ done.machine.threads id
      pended_stays due claim claimed false b free same =
          busy_stays (record done.machine { compare = None; pending = put_at nat_eq done.machine.pending TIMER_INTERRUPT true }) claim.pid free
      pended_stays due claim claimed true false free same =
          delivery_other id (record done.machine { compare = None; pending = put_at nat_eq done.machine.pending TIMER_INTERRUPT true })
          claim.pid same
      pended_stays due claim claimed true true free same =
          absurd (none (record {
            raise = raise_of due;
            claim = claim;
            claimed = ap (λ (x : Machine). x.claims TIMER_INTERRUPT) effects_are ∙ claimed;
            thread = alike id (thread_id claim.pid 1) same;
            idle = ap (λ (x : Machine). is_free_for_interrupt x claim.pid) effects_are ∙ free;
          }))

      raise_stays : is_due done.machine.compare done.machine.steps ≡ true → (o : Option Claim) → done.machine.claims TIMER_INTERRUPT ≡ o
          → (settled (raised_by_timer o (record done.machine { compare = None }))).machine.threads id ≡ done.machine.threads id
      unfolding settled
      raise_stays due None claimed = unanswered (done.machine.threads id)
      raise_stays due (Some claim) claimed =
          pended_stays due claim claimed (is_free_for_interrupt done.machine claim.pid) (same_thread id (thread_id claim.pid 1)) refl refl

      timed_if_stays : (b : Bool) → is_due done.machine.compare done.machine.steps ≡ b → (timed_if b done).machine.threads id ≡ done.machine.threads id
      timed_if_stays false due = refl
      timed_if_stays true due = raise_stays due (done.machine.claims TIMER_INTERRUPT) refl

      stays : (timed done).machine.threads id ≡ done.machine.threads id
      stays = timed_if_stays (is_due done.machine.compare done.machine.steps) refl

      step_stays : (step m).machine.threads id ≡ done.machine.threads id
      step_stays = ap (λ (x : Machine). x.threads id) (step_of_thread m who t acts there) ∙ stays

      -- so a fate before the timer is that of the step
      step_fate : ThreadFate (by_step who m) done.machine.servers id (done.machine.threads id)
          → ThreadFate (by_step who m) (step m).machine.servers id ((step m).machine.threads id)
      step_fate fate =
          let same_servers : (step m).machine.servers ≡ done.machine.servers =
          ap (λ (x : Machine). x.servers) (step_of_thread m who t acts there) ∙ ap (λ (x : Machine). x.servers) (timed_raised done).is in
          subst (λ servers. ThreadFate (by_step who m) servers id ((step m).machine.threads id)) (sym same_servers)
          (subst (ThreadFate (by_step who m) done.machine.servers id) (sym step_stays) fate)

-- ---- threads

module _ (m : Machine) (who id : ThreadId) (h : Matched m) (acts : actor m ≡ Some who) (other : id.pid ≢ who.pid) where
  -- another's thread after an instruction, before the timer
  left_thread : (by : LeftBefore m who) → (done m who acts by.thread by.there).machine.threads id ≡ m.threads id
  left_thread by = by.left.threads id (other_thread id who other)

  -- .. and its fate after any other step
  kept_thread : (before : BeforeTimer m who)
      → ThreadFate (by_step who m) (done m who acts before.thread before.there).machine.servers id ((done m who acts before.thread before.there).machine.threads id)
  kept_thread before =
      (counted_parts (by_step who m) (turned_to who m) before.thread (acted (turned_to who m) before.thread) before.keeps).threads id other

  effects_keep : KeepsThread who m id (other_effects m)
  effects_keep = record {
    instruction = λ does.
        let by : LeftBefore m who = left_before m who does in
        ap (λ (x : Machine). x.threads id) (effects_are m who acts by.thread by.there) ∙ left_thread by;
    other = λ does.
        let before : BeforeTimer m who = step_before m who h acts does in
        subst (λ (x : Machine). ThreadFate (by_step who m) x.servers id (x.threads id))
        (sym (effects_are m who acts before.thread before.there)) (kept_thread before);
  }

  step_keep : ¬ TimerStarts m id → KeepsThread who m id (step m).machine
  step_keep none = record {
    instruction = λ does.
        let by : LeftBefore m who = left_before m who does in
        step_stays m who acts by.thread by.there id none ∙ left_thread by;
    other = λ does.
        let before : BeforeTimer m who = step_before m who h acts does in
        step_fate m who acts before.thread before.there id none (kept_thread before);
  }

pub effects_keep_threads : EffectsKeepThreads
effects_keep_threads m who id h acts other = effects_keep m who id h acts other

pub steps_keep_threads : StepsKeepThreads
steps_keep_threads m h who id acts other none = step_keep m who id h acts other none

-- the first moment of a run, if it is a step
step_at : (start : Machine) (first : Moment) → Matched start → first.machine ≡ caused first.cause start → first.cause ≡ ByStep
    → KeepsAllThreads start first.machine
step_at start first h is by = subst (KeepsAllThreads start) (sym (is ∙ ap (λ cause. caused cause start) by)) (steps_keep_threads start h)

run_keeps : (start : Machine) (moments : List Moment) → Matched start → IsRun start moments → (i : ℕ) (moment : Moment)
    → slice_get moments i ≡ Some moment → moment.cause ≡ ByStep → KeepsAllThreads (state_at start moments i) moment.machine
unfolding IsRun state_at
run_keeps start [] h run i moment there by = absurd (none-some moment there)
run_keeps start (first ∷ moments) h run zero moment there by =
    subst (λ (x : Moment). x.cause ≡ ByStep → KeepsAllThreads start x.machine) (same_Some first moment there) (step_at start first h run.0) by
run_keeps start (first ∷ moments) h run (suc i) moment there by =
    run_keeps first.machine moments (subst Matched (sym run.0) (every_cause_keeps first.cause start h)) run.1 i moment there by

pub histories_keep_threads : HistoriesKeepThreads
histories_keep_threads events limit start h = run_keeps start (moments_of events limit start) h (history_is_run events limit start)

-- ---- pending numbers

module _ (m : Machine) (who : ThreadId) (k : ℕ) (claim : Claim) (h : Matched m) (acts : actor m ≡ Some who) (claimed : m.claims k ≡ Some claim)
    (other : claim.pid ≢ who.pid) where
  effects_pending : (b : Bool) → does_instruction m who ≡ b → (other_effects m).pending k ≡ m.pending k
  effects_pending true does =
      let by : LeftBefore m who = left_before m who does in
      ap (λ (x : Machine). x.pending k) (effects_are m who acts by.thread by.there) ∙ ap (λ (f : ℕ → Bool). f k) by.left.pending
  effects_pending false does =
      let before : BeforeTimer m who = step_before m who h acts does in
      ap (λ (x : Machine). x.pending k) (effects_are m who acts before.thread before.there) ∙ before.keeps.pending k claim claimed other

pub steps_keep_pending : StepsKeepPending
steps_keep_pending m who k claim h acts claimed other none =
    ap (λ (x : Machine). x.pending k) (else_nothing m none)
    ∙ effects_pending m who k claim h acts claimed other (does_instruction m who) refl

-- ---- kills

pub kills_keep_claimants : KillsKeepClaimants
kills_keep_claimants pid m h =
    let keeps : KeepsParts (by_kill pid m) (killed pid m).machine = kill_parts pid m h in
    record { threads = keeps.threads; pending = keeps.pending }
