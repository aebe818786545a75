-- One moment delivers no more than was pending or is raised in it.
use Rattle.std.proofs.Common.{◌≡◌, ℕ, ◌+◌, ◌≤◌, Bool, true, false, [], map, Option, Some, None, refl, ap, ◌∙◌, arith}
use Rattle.std.specs.Prelude.{◌==◌, ◌&&◌, is_some, if◌then◌else◌}
use Rattle.xk_base.specs.declared.ids.ThreadId.{ThreadId}
use Rattle.xk_base.specs.declared.limits.TheConstants.{TIMER_INTERRUPT}
use Rattle.xk_base.specs.Calls.Registers.{arguments_of, reg_at}
use Rattle.machine_model.specs.Calling.Calls.{call}
use Rattle.machine_model.specs.Ending.Ends.{death, handler_ended, thread_ended}
use Rattle.machine_model.specs.Hart.Instructions.{Executed, Next, Stores, StoresToConsole, StoresToTimer, CallsKernel, Traps}
use Rattle.machine_model.specs.Runs.Moments.{Cause, ByIrq, ByStep, caused}
use Rattle.machine_model.specs.State.Changes.{Change, Outcome, Refused, Retried, Served, Told, call_settled, settled}
use Rattle.machine_model.specs.State.Machine.{Claim, Machine, Thread}
use Rattle.machine_model.specs.State.Order.{turn}
use Rattle.machine_model.specs.State.Threads.{change_thread, passed}
use Rattle.machine_model.specs.State.Views.{stored, timer_set}
use Rattle.machine_model.specs.Stepping.Interrupts.{pended}
use Rattle.machine_model.specs.Stepping.Reservations.{unreserved}
use Rattle.machine_model.specs.Stepping.Step.{Recorded, acted, console_told, executed, record_of}
use Rattle.machine_model.specs.Stepping.Timer.{is_due, raised_by_timer, timed, timed_if, timer_change}
use Rattle.machine_laws.proofs.Threading.ThreadStepLemmas.{turned_to}
use Rattle.machine_laws.specs.Records.{records_by}
use Rattle.machine_laws.proofs.Stepping.CauseCaseLemmas.{ActCase, CauseCase, EndsHandler, EndsThread, Instructs, Kills, Raises, Rests, Steps, case_of}
use Rattle.interrupt_laws.specs.Delivering.{deliveries, once_if, raises_in}
use Rattle.interrupt_laws.proofs.BalanceLemmas.{deliveries-recorded, settled_count, timed_count, told_count, told_delivery}
use Rattle.interrupt_laws.proofs.BeforeTimerLemmas.{before_timer, raises_if_due}
use Rattle.interrupt_laws.proofs.CallQuietLemmas.{call_quiet}
use Rattle.interrupt_laws.proofs.DeliveryLemmas.{DeliversPending, handler_end_pending, pended_pending}
use Rattle.interrupt_laws.proofs.KeptPendingLemmas.{and_true}
use Rattle.interrupt_laws.proofs.QuietLemmas.{IsQuiet, OutcomeQuiet, death_quiet, thread_end_quiet}

once_le : (a b : Bool) → (a ≡ true → b ≡ true) → once_if a ≤ once_if b
once_le false b h = omega arith
once_le true b h = let e : once_if b ≡ 1 = ap once_if (h refl) in omega arith

module _ (k : ℕ) where
  -- what is told delivers no more than was pending before
  abbrev IsBalanced : Machine → Told → Type 0
  IsBalanced m done = told_count k done.told + once_if (done.machine.pending k) ≤ once_if (m.pending k)

  -- ---- changes

  delivering : (m : Machine) (change : Change) → DeliversPending k m change → IsBalanced m (settled change)
  unfolding settled
  delivering m change h =
      let tells : told_count k (settled change).told ≡ told_delivery k change.delivery = settled_count k change in
      omega arith

  quiet : (m : Machine) (change : Change) → IsQuiet m change → IsBalanced m (settled change)
  unfolding settled told_delivery
  quiet m change (leaves, none) =
      let tells : told_count k (settled change).told ≡ 0 = settled_count k change ∙ ap (told_delivery k) none in
      let less : once_if (change.machine.pending k) ≤ once_if (m.pending k) = once_le (change.machine.pending k) (m.pending k) (leaves k) in
      omega arith

  quiet_call : (m : Machine) (outcome : Outcome) → OutcomeQuiet m outcome → IsBalanced m (call_settled m outcome)
  unfolding call_settled turn
  quiet_call m (Refused error) of = omega arith
  quiet_call m Retried of = omega arith
  quiet_call m (Served change) of = quiet m (record change { machine = change_thread m.cursor passed change.machine }) of

  -- ---- what a thread does

  no_byte : (who : ThreadId) (offset value : ℕ) → told_count k (console_told who offset value) ≡ 0
  no_byte who offset value = go (offset == 0)
    where
      go : (b : Bool) → told_count k (if b then console_told who 0 value else []) ≡ 0
      go true = refl
      go false = refl

  by_executed : (m : Machine) (t : Thread) (x : Executed) → IsBalanced m (executed m t x)
  unfolding stored timer_set
  by_executed m t (Next regs pc) = omega arith
  by_executed m t (Stores address width value regs pc) = omega arith
  by_executed m t (StoresToConsole offset value regs pc) =
      let none : told_count k (console_told m.cursor offset value) ≡ 0 = no_byte m.cursor offset value in
      omega arith
  by_executed m t (StoresToTimer offset width value regs pc) = omega arith
  by_executed m t CallsKernel = quiet_call m (call m (arguments_of t.regs)) (call_quiet m (arguments_of t.regs))
  by_executed m t (Traps cause value) = quiet m (death m.cursor.pid m) (death_quiet m.cursor.pid m)

  act_balanced : (m : Machine) (who : ThreadId) (t : Thread) (done : Told) → ActCase m who t done → IsBalanced m done
  act_balanced m who t _ (Instructs x e) = by_executed (turned_to who m) t x
  act_balanced m who t _ (EndsThread e) =
      quiet (turned_to who m) (thread_ended who (reg_at t.regs 10) (turned_to who m)) (thread_end_quiet who (reg_at t.regs 10) (turned_to who m))
  act_balanced m who t _ (EndsHandler e) =
      delivering (turned_to who m) (handler_ended who.pid (turned_to who m)) (handler_end_pending k who.pid (turned_to who m))

  -- ---- the timer

  timer_delivers : (o : Option Claim) (m : Machine)
      → told_delivery k (raised_by_timer o m).delivery + once_if ((raised_by_timer o m).machine.pending k) ≤ once_if (TIMER_INTERRUPT == k) + once_if (m.pending k)
  unfolding told_delivery
  timer_delivers None m = omega arith
  timer_delivers (Some claim) m = pended_pending k TIMER_INTERRUPT claim m

  -- what a step did, and then the timer
  module _ (m : Machine) (done : Told) (before : IsBalanced m done) where
    by_timer : (b : Bool)
        → told_count k (timed_if b done).told + once_if ((timed_if b done).machine.pending k) ≤ once_if ((TIMER_INTERRUPT == k) && b) + once_if (m.pending k)
    unfolding settled
    by_timer false = omega arith
    by_timer true =
        let change : Change = timer_change done.machine in
        let delivers : told_delivery k change.delivery + once_if (change.machine.pending k) ≤ once_if (TIMER_INTERRUPT == k) + once_if (done.machine.pending k) =
        timer_delivers (done.machine.claims TIMER_INTERRUPT) (record done.machine { compare = None }) in
        let tells : told_count k (timed_if true done).told ≡ told_delivery k change.delivery + told_count k done.told = timed_count k change.delivery done.told in
        let raise : once_if ((TIMER_INTERRUPT == k) && true) ≡ once_if (TIMER_INTERRUPT == k) = ap once_if (and_true (TIMER_INTERRUPT == k)) in
        omega arith

  -- ---- a moment

  -- it delivers no more than was pending or is raised in it
  abbrev DeliversIn : Machine → Cause → Recorded → Type 0
  DeliversIn m cause next = deliveries k next.records + once_if (next.machine.pending k) ≤ raises_in k cause m + once_if (m.pending k)

  module _ (m : Machine) where
    by_cause : (cause : Cause) (next : Recorded) → CauseCase m cause next → DeliversIn m cause next
    unfolding settled
    by_cause _ _ (Rests cause cursor reserved rest) = omega arith
    by_cause _ _ (Steps who t acts there case) =
        let done : Told = before_timer m who t in
        let balanced : IsBalanced m done = act_balanced m who t (acted (turned_to who m) t) case in
        let tells : deliveries k (map (record_of (m.steps + 1)) (timed done).told) ≡ told_count k (timed done).told = deliveries-recorded k (m.steps + 1) (timed done).told in
        let timed_so : told_count k (timed done).told + once_if ((timed done).machine.pending k) ≤ once_if ((TIMER_INTERRUPT == k) && is_due done.machine.compare done.machine.steps) + once_if (m.pending k) =
        by_timer m done balanced (is_due done.machine.compare done.machine.steps) in
        let raise : raises_in k ByStep m ≡ once_if ((TIMER_INTERRUPT == k) && is_due done.machine.compare done.machine.steps) =
        ap (λ b. once_if ((TIMER_INTERRUPT == k) && b)) (raises_if_due m who t acts there) in
        omega arith
    by_cause _ _ (Raises n claim e) =
        let change : Change = pended n claim (unreserved m) in
        let delivers : told_delivery k change.delivery + once_if (change.machine.pending k) ≤ once_if (n == k) + once_if (m.pending k) = pended_pending k n claim (unreserved m) in
        let settles : told_count k (settled change).told ≡ told_delivery k change.delivery = settled_count k change in
        let tells : deliveries k (map (record_of m.steps) (settled change).told) ≡ told_count k (settled change).told = deliveries-recorded k m.steps (settled change).told in
        let raise : raises_in k (ByIrq n) m ≡ once_if (n == k) = ap (λ o. once_if ((n == k) && is_some o)) e ∙ ap once_if (and_true (n == k)) in
        omega arith
    by_cause _ _ (Kills pid e) =
        let change : Change = death pid (unreserved m) in
        let balanced : told_count k (settled change).told + once_if ((settled change).machine.pending k) ≤ once_if (m.pending k) = quiet (unreserved m) change (death_quiet pid (unreserved m)) in
        let tells : deliveries k (map (record_of m.steps) (settled change).told) ≡ told_count k (settled change).told = deliveries-recorded k m.steps (settled change).told in
        omega arith

  pub moment_delivers : (cause : Cause) (m : Machine) → DeliversIn m cause (record { machine = caused cause m; records = records_by cause m })
  moment_delivers cause m = by_cause m cause (record { machine = caused cause m; records = records_by cause m }) (case_of cause m)
