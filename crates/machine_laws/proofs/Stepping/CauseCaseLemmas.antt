-- What leads to the next state, by cases: nothing happens, a thread does a step, a claimed interrupt comes, or a living process is killed.
-- A thread executes an instruction, ends, or ends its handler. Its end is that of its process or not, and a handler starts or not.
use Rattle.std.proofs.Common.{◌≡◌, ℕ, ◌+◌, ◌≤◌, Bool, true, false, [], map, Option, Some, None, is_some, refl, sym, ap, ◌∙◌, subst, arith}
use Rattle.std.specs.Prelude.{unwrap_or, if◌then◌else◌}
use Rattle.xk_base.specs.declared.ids.Pid.{Pid}
use Rattle.xk_base.specs.declared.ids.ThreadId.{ThreadId}
use Rattle.xk_base.specs.declared.records.What.TheVariants.{End}
use Rattle.xk_base.specs.Calls.Registers.{reg_at}
use Rattle.machine_model.specs.Ending.Ends.{death, end_with_last_thread, handler_ended, has_threads, joiners_answered, thread_ended}
use Rattle.machine_model.specs.Hart.Instructions.{Executed}
use Rattle.machine_model.specs.Runs.Moments.{ByIrq, ByKill, ByPick, ByStep, ByTurn, Cause, caused}
use Rattle.machine_model.specs.State.Changes.{Change, Told, only, settled}
use Rattle.machine_model.specs.State.Machine.{Claim, Machine, Reservation, Thread}
use Rattle.machine_model.specs.State.Order.{actor, next_ready, ready_at, turn}
use Rattle.machine_model.specs.State.Threads.{both_answers, put_thread}
use Rattle.machine_model.specs.Stepping.Acts.{executes}
use Rattle.machine_model.specs.Stepping.Events.{at_event, killed, killed_if, picked, raised, raised_if}
use Rattle.machine_model.specs.Stepping.Interrupts.{delivered, delivered_lowest, handler_started, is_free_for_interrupt, lowest_pending, pended}
use Rattle.machine_model.specs.Stepping.Reservations.{unreserved}
use Rattle.machine_model.specs.Stepping.Step.{Recorded, acted, acted_if_there, after, counted, ends_handler, ends_thread, executed, performed, record_of, step}
use Rattle.machine_model.specs.Stepping.Step.{step_by, step_by_if}
use Rattle.machine_model.specs.Stepping.Timer.{timed}
use Rattle.machine_model.proofs.StepLemmas.{no_step}
use Rattle.machine_laws.proofs.Histories.LimitLemmas.{irq_steps, kill_steps, pick_steps, step_steps, turn_steps}
use Rattle.machine_laws.proofs.Stepping.StepKindLemmas.{Executes, HandlerEnds, StepKind, ThreadEnds, acted_as_executed, kind_of}
use Rattle.machine_laws.proofs.Threading.ThreadStepLemmas.{then_acted, turned_to}
use Rattle.machine_laws.specs.Records.{records_by}

-- ---- what a thread does

pub data ActCase (m : Machine) (who : ThreadId) (t : Thread) : Told → Type 0 where
  Instructs : (x : Executed) → executes m who t ≡ Some x → ActCase m who t (executed (turned_to who m) t x)
  EndsThread : ends_thread who t.pc ≡ true → ActCase m who t (after (End who) (settled (thread_ended who (reg_at t.regs 10) (turned_to who m))))
  EndsHandler : ends_handler who t.pc ≡ true → ActCase m who t (after (End who) (settled (handler_ended who.pid (turned_to who m))))

-- the thread, which there is, and what it does
pub record ActsAs (m : Machine) (who : ThreadId) : Type 0 where
  pub thread : Thread
  pub there : m.threads who ≡ Some thread
  pub case : ActCase m who thread (acted (turned_to who m) thread)

pub act_of : (m : Machine) (who : ThreadId) → actor m ≡ Some who → ActsAs m who
act_of m who acts = go (kind_of m who acts)
  where
    by : Thread → Bool → Bool → Told
    by t a b = then_acted m who [] t a b (performed (turned_to who m) who t).executed

    go : StepKind m who → ActsAs m who
    go (Executes t x there e) =
        record { thread = t; there = there; case = subst (ActCase m who t) (sym (acted_as_executed m who t x e)) (Instructs x e) }
    go (ThreadEnds t there e) =
        record { thread = t; there = there; case = subst (λ a. ActCase m who t (by t a (ends_handler who t.pc))) (sym e) (EndsThread e) }
    go (HandlerEnds t there low e) = record {
      thread = t;
      there = there;
      case = subst (λ a. ActCase m who t (by t a (ends_handler who t.pc))) (sym low) (subst (λ b. ActCase m who t (by t false b)) (sym e) (EndsHandler e));
    }

-- ---- ends and interrupts

-- the end of a thread is that of its process, if it has no other
pub data EndCase (who : ThreadId) (a0 : ℕ) (m : Machine) : Change → Type 0 where
  LeavesOthers : EndCase who a0 m (record (only (put_thread who None m)) { answers = both_answers (joiners_answered m who a0) (only (put_thread who None m)).answers })
  IsLast : EndCase who a0 m (record (death who.pid (put_thread who None m)) {
    answers = both_answers (joiners_answered m who a0) (death who.pid (put_thread who None m)).answers;
  })

pub end_of : (who : ThreadId) (a0 : ℕ) (m : Machine) → EndCase who a0 m (thread_ended who a0 m)
unfolding thread_ended
end_of who a0 m = go (has_threads (put_thread who None m) who.pid)
  where
    go : (b : Bool) → EndCase who a0 m (record (end_with_last_thread b who.pid (put_thread who None m)) {
      answers = both_answers (joiners_answered m who a0) (end_with_last_thread b who.pid (put_thread who None m)).answers;
    })
    go true = LeavesOthers
    go false = IsLast

-- the delivery of an interrupt starts a handler, or nothing
pub data StartCase (pid : Pid) (m : Machine) : Change → Type 0 where
  StartsNone : StartCase pid m (only m)
  Starts : (k : ℕ) (claim : Claim) → m.claims k ≡ Some claim → StartCase pid m (handler_started m pid k (Some claim))

pub start_of : (pid : Pid) (m : Machine) → StartCase pid m (delivered pid m)
unfolding delivered
start_of pid m = lowest (if is_free_for_interrupt m pid then lowest_pending m pid else None)
  where
    by : (k : ℕ) (o : Option Claim) → m.claims k ≡ o → StartCase pid m (handler_started m pid k o)
    by k None e = StartsNone
    by k (Some claim) e = Starts k claim e

    lowest : (o : Option ℕ) → StartCase pid m (delivered_lowest m pid o)
    lowest None = StartsNone
    lowest (Some k) = by k (m.claims k) refl

-- ---- any cause

-- what a step records, if the thread did this
abbrev pub recorded_as : Machine → ThreadId → Thread → Told → Recorded
recorded_as m who t done = record {
  machine = (timed (counted (turned_to who m) (Some t) done)).machine;
  records = map (record_of (m.steps + 1)) (timed (counted (turned_to who m) (Some t) done)).told;
}

-- why nothing happens but that the cursor goes on or a reservation ends
pub data RestCase (m : Machine) : Cause → ThreadId → Option Reservation → Type 0 where
  NoneActs : actor m ≡ None → RestCase m ByStep m.cursor m.reserved
  Picks : (who : ThreadId) → RestCase m (ByPick who) (if ready_at m who then who else m.cursor) m.reserved
  Unclaimed : (k : ℕ) → m.claims k ≡ None → RestCase m (ByIrq k) m.cursor None
  IsDead : (pid : Pid) → (m.process pid.0).alive ≡ false → RestCase m (ByKill pid) m.cursor None
  Turns : RestCase m ByTurn (unwrap_or (next_ready m m.cursor) m.cursor) m.reserved

pub data CauseCase (m : Machine) : Cause → Recorded → Type 0 where
  Rests : (cause : Cause) (cursor : ThreadId) (reserved : Option Reservation) → RestCase m cause cursor reserved
      → CauseCase m cause (record { machine = record m { cursor = cursor; reserved = reserved }; records = [] })
  Steps : (who : ThreadId) (t : Thread) → actor m ≡ Some who → m.threads who ≡ Some t → ActCase m who t (acted (turned_to who m) t)
      → CauseCase m ByStep (recorded_as m who t (acted (turned_to who m) t))
  Raises : (k : ℕ) (claim : Claim) → m.claims k ≡ Some claim → CauseCase m (ByIrq k) (at_event m.steps (settled (pended k claim (unreserved m))))
  Kills : (pid : Pid) → (m.process pid.0).alive ≡ true → CauseCase m (ByKill pid) (at_event m.steps (settled (death pid (unreserved m))))

pub step_is : (m : Machine) (who : ThreadId) (t : Thread) → actor m ≡ Some who → m.threads who ≡ Some t
    → step m ≡ recorded_as m who t (acted (turned_to who m) t)
unfolding step step_by
step_is m who t acts there =
    ap (λ a. step_by_if a m) acts
    ∙ ap (λ o.
    let done = timed (counted (turned_to who m) o (acted_if_there (turned_to who m) o)) in
    let next : Recorded = record { machine = done.machine; records = map (record_of (m.steps + 1)) done.told } in
    next) there

step_case : (m : Machine) (o : Option ThreadId) → actor m ≡ o → CauseCase m ByStep (step m)
step_case m None e = subst (CauseCase m ByStep) (sym (no_step m e)) (Rests ByStep m.cursor m.reserved (NoneActs e))
step_case m (Some who) e =
    let act = act_of m who e in
    subst (CauseCase m ByStep) (sym (step_is m who act.thread e act.there))
    (Steps who act.thread e act.there act.case)

pub case_of : (cause : Cause) (m : Machine) → CauseCase m cause (record { machine = caused cause m; records = records_by cause m })
unfolding picked raised killed turn
case_of ByStep m = step_case m (actor m) refl
case_of (ByPick who) m = Rests (ByPick who) (if ready_at m who then who else m.cursor) m.reserved (Picks who)
case_of (ByIrq k) m = go (m.claims k) refl
  where
    go : (o : Option Claim) → m.claims k ≡ o → CauseCase m (ByIrq k) (raised_if k o (unreserved m))
    go None e = Rests (ByIrq k) m.cursor None (Unclaimed k e)
    go (Some claim) e = Raises k claim e
case_of (ByKill pid) m = go (m.process pid.0).alive refl
  where
    go : (b : Bool) → (m.process pid.0).alive ≡ b → CauseCase m (ByKill pid) (killed_if b pid (unreserved m))
    go false e = Rests (ByKill pid) m.cursor None (IsDead pid e)
    go true e = Kills pid e
case_of ByTurn m = Rests ByTurn _ m.reserved Turns

-- ---- steps

abbrev pub is_step : Cause → Bool
is_step ByStep = true
is_step (ByPick who) = false
is_step (ByIrq k) = false
is_step (ByKill pid) = false
is_step ByTurn = false

-- at most one is counted
pub cause_counts : (cause : Cause) (m : Machine) → (m.steps ≤ (caused cause m).steps) × ((caused cause m).steps ≤ m.steps + 1)
cause_counts ByStep m = go (actor m) refl
  where
    go : (o : Option ThreadId) → actor m ≡ o → (m.steps ≤ (step m).machine.steps) × ((step m).machine.steps ≤ m.steps + 1)
    go None e =
        let same : (step m).machine.steps ≡ m.steps = ap (λ (s : Recorded). s.machine.steps) (no_step m e) in
        (omega arith, omega arith)
    go (Some who) e =
        let one : (step m).machine.steps ≡ m.steps + 1 = step_steps m (ap is_some e) in
        (omega arith, omega arith)
cause_counts (ByPick who) m = let e = pick_steps who m in (omega (arith, e), omega (arith, e))
cause_counts (ByIrq k) m = let e = irq_steps k m in (omega (arith, e), omega (arith, e))
cause_counts (ByKill pid) m = let e = kill_steps pid m in (omega (arith, e), omega (arith, e))
cause_counts ByTurn m = let e = turn_steps m in (omega (arith, e), omega (arith, e))
