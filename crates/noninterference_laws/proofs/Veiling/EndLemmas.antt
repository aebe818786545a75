-- Deaths, ends, deliveries and the timer make the same of a machine beside what is hidden.
use Rattle.std.proofs.Common.{◌≡◌, ℕ, Bool, true, false, List, [], Option, Some, None, refl, sym, ap, ◌∙◌}
use Rattle.std.specs.Prelude.{if◌then◌else◌, nat_eq}
use Rattle.std.specs.Option.{option_map}
use Rattle.xk_base.specs.declared.ids.Pid.{Pid}
use Rattle.xk_base.specs.declared.ids.ThreadId.{ThreadId}
use Rattle.xk_base.specs.declared.limits.TheConstants.{TIMER_INTERRUPT}
use Rattle.xk_base.specs.declared.records.What.TheVariants.{Call, Fault}
use Rattle.xk_base.specs.Calls.Registers.{arguments_of}
use Rattle.xk_base.specs.Tables.Circle.{same_thread}
use Rattle.xk_base.specs.Tables.Counting.{put_at}
use Rattle.machine_model.specs.Ending.Closing.{any_server, closed, senders_held_gone, senders_queued_gone, servers_closed}
use Rattle.machine_model.specs.Ending.Ends.{death, end_with_last_thread, forgotten, handler_ended, has_threads, thread_ended}
use Rattle.machine_model.specs.Hart.Instructions.{CallsKernel, Executed, Next, Stores, StoresToConsole, StoresToTimer, Traps}
use Rattle.machine_model.specs.State.Changes.{Change, Told, settled}
use Rattle.machine_model.specs.State.Machine.{Claim, Idle, Machine, Thread}
use Rattle.machine_model.specs.State.Order.{turn}
use Rattle.machine_model.specs.State.Threads.{both_answers, change_thread, handler_thread, thread_id, with_registers, with_state}
use Rattle.machine_model.specs.State.Views.{stored, timer_set}
use Rattle.machine_model.specs.Stepping.Events.{at_event, killed, killed_if, picked, raised, raised_if}
use Rattle.machine_model.specs.Stepping.Interrupts.{delivered, delivered_lowest, handler_started, is_free_for_interrupt, lowest_pending, pended, with_handler_next}
use Rattle.machine_model.specs.Stepping.Reservations.{unreserved}
use Rattle.machine_model.specs.Stepping.Step.{Recorded, after, executed}
use Rattle.machine_model.specs.Stepping.Timer.{is_due, raised_by_timer, timed, timed_if, with_irq_if}
use Rattle.noninterference_laws.specs.Inside.{Group, hidden_threads}
use Rattle.noninterference_laws.proofs.Veiling.EffectLemmas.{called_veil, change_veil, settled_alike, told_veil, turn_veil}
use Rattle.noninterference_laws.proofs.Veiling.VeilLemmas.{again, changed_veil, forgotten_veil, free_for_veil, has_threads_veil}
use Rattle.noninterference_laws.proofs.Veiling.VeilLemmas.{joiners_veil, put_veil, ready_veil, reserved_twice, veil}

abbrev pub recorded_veil : Group → Recorded → Recorded
recorded_veil group r = record r { machine = veil group r.machine }

module _ (group : Group) where
  -- ---- processes

  pub death_veil : (pid : Pid) (m : Machine) → change_veil group (death pid m) ≡ change_veil group (death pid (veil group m))
  unfolding death servers_closed closed any_server senders_queued_gone senders_held_gone forgotten
  death_veil pid m = λ i. record (death pid m) {
    machine = record (death pid m).machine {
      threads = forgotten_veil group pid m.threads i;
      reserved = reserved_twice group m.reserved i;
    };
  }

  -- ---- threads

  last_veil : (others : Bool) (pid : Pid) (m : Machine)
      → change_veil group (end_with_last_thread others pid m) ≡ change_veil group (end_with_last_thread others pid (veil group m))
  last_veil true pid m = λ i. record (end_with_last_thread true pid m) { machine = again group m i }
  last_veil false pid m = death_veil pid m

  without : ThreadId → Machine → Machine
  without who m = record m { threads = put_at same_thread m.threads who None }

  without_veil : (who : ThreadId) (m : Machine) → veil group (without who m) ≡ veil group (without who (veil group m))
  unfolding without
  without_veil who m = λ i. record m { threads = put_veil group m.threads who None i; reserved = reserved_twice group m.reserved i }

  others_veil : (who : ThreadId) (m : Machine) → has_threads (without who m) who.pid ≡ has_threads (without who (veil group m)) who.pid
  others_veil who m =
      sym (has_threads_veil group (without who m) who.pid)
      ∙ (ap (λ x. has_threads x who.pid) (without_veil who m) ∙ has_threads_veil group (without who (veil group m)) who.pid)

  left_veil : (who : ThreadId) (m : Machine)
      → change_veil group (end_with_last_thread (has_threads (without who m) who.pid) who.pid (without who m))
      ≡ change_veil group (end_with_last_thread (has_threads (without who (veil group m)) who.pid) who.pid (without who (veil group m)))
  left_veil who m =
      last_veil (has_threads (without who m) who.pid) who.pid (without who m)
      ∙ ((λ i. change_veil group (end_with_last_thread (others_veil who m i) who.pid (without_veil who m i)))
      ∙ sym (last_veil (has_threads (without who (veil group m)) who.pid) who.pid (without who (veil group m))))

  pub thread_ended_veil : (who : ThreadId) (a0 : ℕ) (m : Machine)
      → change_veil group (thread_ended who a0 m) ≡ change_veil group (thread_ended who a0 (veil group m))
  unfolding thread_ended without
  thread_ended_veil who a0 m = λ i. record (left_veil who m i) {
    answers = both_answers (sym (joiners_veil group m who a0) i) (left_veil who m i).answers;
  }

  -- ---- handlers

  started_veil : (m : Machine) (pid : Pid) (k : ℕ) (o : Option Claim)
      → change_veil group (handler_started m pid k o) ≡ change_veil group (handler_started (veil group m) pid k o)
  started_veil m pid k None = λ i. record (handler_started m pid k None) { machine = again group m i }
  started_veil m pid k (Some claim) = λ i. record (handler_started m pid k (Some claim)) {
    machine = record (handler_started m pid k (Some claim)).machine {
      threads = put_veil group m.threads (thread_id pid 1) (Some (handler_thread k claim)) i;
      reserved = reserved_twice group m.reserved i;
    };
  }

  lowest_veil : (m : Machine) (pid : Pid) (o : Option ℕ)
      → change_veil group (delivered_lowest m pid o) ≡ change_veil group (delivered_lowest (veil group m) pid o)
  lowest_veil m pid None = λ i. record (delivered_lowest m pid None) { machine = again group m i }
  lowest_veil m pid (Some k) = started_veil m pid k (m.claims k)

  pub delivered_veil : (pid : Pid) (m : Machine)
      → change_veil group (delivered pid m) ≡ change_veil group (delivered pid (veil group m))
  unfolding delivered lowest_pending
  delivered_veil pid m =
      lowest_veil m pid (if is_free_for_interrupt m pid then lowest_pending m pid else None)
      ∙ ap (λ b. change_veil group (delivered_lowest (veil group m) pid (if b then lowest_pending m pid else None)))
      (sym (free_for_veil group m pid))

  idle_veil : (pid : Pid) (m : Machine)
      → veil group (change_thread (thread_id pid 1) (with_state Idle) m)
      ≡ veil group (change_thread (thread_id pid 1) (with_state Idle) (veil group m))
  idle_veil pid m = λ i. record m {
    threads = changed_veil group (with_state Idle) (λ t. refl) m.threads (thread_id pid 1) i;
    reserved = reserved_twice group m.reserved i;
  }

  pub handler_ended_veil : (pid : Pid) (m : Machine)
      → change_veil group (handler_ended pid m) ≡ change_veil group (handler_ended pid (veil group m))
  unfolding handler_ended
  handler_ended_veil pid m =
      delivered_veil pid (change_thread (thread_id pid 1) (with_state Idle) m)
      ∙ (ap (λ x. change_veil group (delivered pid x)) (idle_veil pid m)
      ∙ sym (delivered_veil pid (change_thread (thread_id pid 1) (with_state Idle) (veil group m))))

  pub pended_veil : (k : ℕ) (claim : Claim) (m : Machine)
      → change_veil group (pended k claim m) ≡ change_veil group (pended k claim (veil group m))
  pended_veil k claim m = ap with_handler_next (delivered_veil claim.pid (record m { pending = put_at nat_eq m.pending k true }))

  -- ---- the timer

  raised_veil : (o : Option Claim) (m : Machine) → change_veil group (raised_by_timer o m) ≡ change_veil group (raised_by_timer o (veil group m))
  raised_veil None m = λ i. record (raised_by_timer None m) { machine = again group m i }
  raised_veil (Some claim) m = pended_veil TIMER_INTERRUPT claim m

  timed_if_veil : (b : Bool) (done : Told) → told_veil group (timed_if b done) ≡ told_veil group (timed_if b (told_veil group done))
  timed_if_veil false done = λ i. record done { machine = again group done.machine i }
  timed_if_veil true done = λ i. record {
    machine = (settled_alike group mine its same i).machine;
    told = with_irq_if (same i).delivery done.told;
  }
    where
      unarmed : Machine
      unarmed = record done.machine { compare = None }

      mine : Change
      mine = raised_by_timer (done.machine.claims TIMER_INTERRUPT) unarmed

      its : Change
      its = raised_by_timer (done.machine.claims TIMER_INTERRUPT) (veil group unarmed)

      same : change_veil group mine ≡ change_veil group its
      same = raised_veil (done.machine.claims TIMER_INTERRUPT) unarmed

  pub timed_veil : (done : Told) → told_veil group (timed done) ≡ told_veil group (timed (told_veil group done))
  timed_veil done = timed_if_veil (is_due done.machine.compare done.machine.steps) done

  -- ---- what a thread executes

  registers_veil : (m : Machine) (regs : List ℕ) (pc : ℕ)
      → hidden_threads group (put_at same_thread m.threads m.cursor (option_map (with_registers regs pc) (m.threads m.cursor)))
      ≡ hidden_threads group (put_at same_thread (hidden_threads group m.threads) m.cursor
      (option_map (with_registers regs pc) (hidden_threads group m.threads m.cursor)))
  registers_veil m regs pc = changed_veil group (with_registers regs pc) (λ t. refl) m.threads m.cursor

  pub executed_veil : (m : Machine) (t : Thread) (x : Executed) → told_veil group (executed m t x) ≡ told_veil group (executed (veil group m) t x)
  unfolding stored timer_set
  executed_veil m t (Next regs pc) = λ i. record (executed m t (Next regs pc)) {
    machine = record m { threads = registers_veil m regs pc i; reserved = reserved_twice group m.reserved i };
  }
  executed_veil m t (Stores address width value regs pc) = λ i. record (executed m t (Stores address width value regs pc)) {
    machine = record (executed m t (Stores address width value regs pc)).machine {
      threads = registers_veil m regs pc i;
      reserved = reserved_twice group m.reserved i;
    };
  }
  executed_veil m t (StoresToConsole offset value regs pc) = λ i. record (executed m t (StoresToConsole offset value regs pc)) {
    machine = record m { threads = registers_veil m regs pc i; reserved = reserved_twice group m.reserved i };
  }
  executed_veil m t (StoresToTimer offset width value regs pc) = λ i. record (executed m t (StoresToTimer offset width value regs pc)) {
    machine = record (executed m t (StoresToTimer offset width value regs pc)).machine {
      threads = registers_veil m regs pc i;
      reserved = reserved_twice group m.reserved i;
    };
  }
  executed_veil m t CallsKernel = ap (after (Call m.cursor (arguments_of t.regs))) (called_veil group m (arguments_of t.regs))
  executed_veil m t (Traps cause value) =
      ap (after (Fault m.cursor cause value))
      (settled_alike group (death m.cursor.pid m) (death m.cursor.pid (veil group m)) (death_veil m.cursor.pid m))

  -- ---- events

  pub picked_veil : (who : ThreadId) (m : Machine) → recorded_veil group (picked who m) ≡ recorded_veil group (picked who (veil group m))
  unfolding picked
  picked_veil who m = λ i. record {
    machine = record (again group m i) { cursor = if sym (ready_veil group m who) i then who else m.cursor };
    records = [];
  }

  pub turned_veil : (m : Machine) → veil group (turn m) ≡ veil group (turn (veil group m))
  turned_veil m = turn_veil group m

  event_veil : (steps : ℕ) (change other : Change) → change_veil group change ≡ change_veil group other
      → recorded_veil group (at_event steps (settled change)) ≡ recorded_veil group (at_event steps (settled other))
  event_veil steps change other e = ap (at_event steps) (settled_alike group change other e)

  raised_if_veil : (k : ℕ) (o : Option Claim) (m : Machine)
      → recorded_veil group (raised_if k o m) ≡ recorded_veil group (raised_if k o (veil group m))
  raised_if_veil k None m = λ i. record { machine = again group m i; records = [] }
  raised_if_veil k (Some claim) m =
      event_veil m.steps (pended k claim m) (pended k claim (veil group m)) (pended_veil k claim m)

  pub irq_veil : (k : ℕ) (m : Machine) → recorded_veil group (raised k m) ≡ recorded_veil group (raised k (veil group m))
  unfolding raised
  irq_veil k m = raised_if_veil k (m.claims k) (unreserved m)

  killed_if_veil : (alive : Bool) (pid : Pid) (m : Machine)
      → recorded_veil group (killed_if alive pid m) ≡ recorded_veil group (killed_if alive pid (veil group m))
  killed_if_veil false pid m = λ i. record { machine = again group m i; records = [] }
  killed_if_veil true pid m = event_veil m.steps (death pid m) (death pid (veil group m)) (death_veil pid m)

  pub kill_veil : (pid : Pid) (m : Machine) → recorded_veil group (killed pid m) ≡ recorded_veil group (killed pid (veil group m))
  unfolding killed
  kill_veil pid m = killed_if_veil (m.process pid.0).alive pid (unreserved m)
