-- If nobody has claimed the timer's interrupt, a thread's step does the same with another count of steps and the timer not armed.
use Rattle.std.proofs.Common.{◌≡◌, ℕ, Bool, true, false, List, Option, Some, None, refl, sym, ap, ◌∙◌}
use Rattle.std.specs.Prelude.{◌&&◌, ◌||◌, ◌%◌, is_some, not, if◌then◌else◌}
use Rattle.std.specs.Option.{option_map_or}
use Rattle.std.proofs.lemmas.Bool.{false≢true}
use Rattle.xk_base.specs.declared.ids.Pid.{Pid}
use Rattle.xk_base.specs.declared.ids.ThreadId.{ThreadId}
use Rattle.xk_base.specs.declared.records.What.TheVariants.{Call, End, Fault}
use Rattle.xk_base.specs.Calls.Registers.{arguments_of, reg_at}
use Rattle.xk_base.specs.UserMemory.{Memory, Timer, timer_at}
use Rattle.ledger_model.specs.Ledger.{byte_of, has_bytes}
use Rattle.machine_model.specs.Calling.Calls.{call}
use Rattle.machine_model.specs.Ending.Closing.{any_server, closed, senders_held_gone, senders_queued_gone, servers_closed}
use Rattle.machine_model.specs.Ending.Ends.{death, end_with_last_thread, forgotten, handler_ended, has_threads, thread_ended}
use Rattle.machine_model.specs.Hart.Atomics.{Performed, execute_at}
use Rattle.machine_model.specs.Hart.Instructions.{Executed, Next, Stores, StoresToConsole, StoresToTimer, CallsKernel, Traps}
use Rattle.machine_model.specs.State.Changes.{Change, Told, call_settled, settled}
use Rattle.machine_model.specs.State.Machine.{Claim, Idle, Machine, Reservation, Thread}
use Rattle.machine_model.specs.State.Threads.{both_answers, change_thread, put_thread, thread_id, with_state}
use Rattle.machine_model.specs.State.Views.{contents_seen, is_of_timer_page, memory_of, page_reached, stored, timer_of}
use Rattle.machine_model.specs.Ending.Ends.{joiners_answered}
use Rattle.machine_model.specs.Stepping.Interrupts.{delivered, delivered_lowest, handler_started, is_claim_of, is_free_for_interrupt, lowest_pending}
use Rattle.machine_model.specs.Stepping.Reservations.{reservation_of, reserved_by}
use Rattle.machine_model.specs.Stepping.Step.{acted_if_there, after, ends_handler, ends_thread, executed, performed, reservation_left_if_there}
use Rattle.machine_laws.proofs.Executing.InstructionEffectLemmas.{execute_at_sound, has_timer}
use Rattle.order_model.specs.Counts.{IsUncounted}
use Rattle.order_model.proofs.Counting.EffectLemmas.{call_settled_with, call_with, change_with, settled_with, told_with, unarmed_with}

-- the timer as a process sees it: there if the process has claimed its interrupt
abbrev claimed_timer : Pid → Timer → Option Claim → Option Timer
claimed_timer pid timer o = if is_claim_of pid o then Some timer else None

-- if nobody has claimed it, no process sees it
no_timer : (m : Machine) (pid : Pid) → IsUncounted m → timer_of m pid ≡ None
no_timer m pid none = ap (claimed_timer pid (record { steps = m.steps; compare = m.compare })) none

module _ (n : ℕ) where
  -- ---- ends

  death_with : (pid : Pid) (m : Machine) → change_with n (death pid m) ≡ death pid (unarmed_with n m)
  unfolding death servers_closed closed any_server senders_queued_gone senders_held_gone forgotten
  death_with pid m = refl

  last_with : (others : Bool) (pid : Pid) (m : Machine)
      → change_with n (end_with_last_thread others pid m) ≡ end_with_last_thread others pid (unarmed_with n m)
  last_with true pid m = refl
  last_with false pid m = death_with pid m

  thread_ended_with : (who : ThreadId) (a0 : ℕ) (m : Machine)
      → change_with n (thread_ended who a0 m) ≡ thread_ended who a0 (unarmed_with n m)
  unfolding thread_ended has_threads
  thread_ended_with who a0 m =
      ap answered (last_with (has_threads (put_thread who None m) who.pid) who.pid (put_thread who None m))
    where
      answered : Change → Change
      answered left = record left { answers = both_answers (joiners_answered m who a0) left.answers }

  started_with : (m : Machine) (pid : Pid) (k : ℕ) (o : Option Claim)
      → change_with n (handler_started m pid k o) ≡ handler_started (unarmed_with n m) pid k o
  started_with m pid k None = refl
  started_with m pid k (Some claim) = refl

  lowest_with : (m : Machine) (pid : Pid) (o : Option ℕ) → change_with n (delivered_lowest m pid o) ≡ delivered_lowest (unarmed_with n m) pid o
  lowest_with m pid None = refl
  lowest_with m pid (Some k) = started_with m pid k (m.claims k)

  delivered_with : (pid : Pid) (m : Machine) → change_with n (delivered pid m) ≡ delivered pid (unarmed_with n m)
  unfolding delivered lowest_pending
  delivered_with pid m = lowest_with m pid (if is_free_for_interrupt m pid then lowest_pending m pid else None)

  handler_ended_with : (pid : Pid) (m : Machine) → change_with n (handler_ended pid m) ≡ handler_ended pid (unarmed_with n m)
  unfolding handler_ended
  handler_ended_with pid m = delivered_with pid (change_thread (thread_id pid 1) (with_state Idle) m)

  -- ---- what was executed

  executed_with : (m : Machine) (t : Thread) (x : Executed) → IsUncounted m → has_timer (memory_of m m.cursor.pid) x ≡ true
      → told_with n (executed m t x) ≡ executed (unarmed_with n m) t x
  unfolding stored memory_of
  executed_with m t (Next regs pc) none there = refl
  executed_with m t (Stores address width value regs pc) none there = refl
  executed_with m t (StoresToConsole offset value regs pc) none there = refl
  executed_with m t (StoresToTimer offset width value regs pc) none there =
      absurd (false≢true (sym (ap is_some (no_timer m m.cursor.pid none)) ∙ there))
  executed_with m t CallsKernel none there =
      ap (after (Call m.cursor words)) (call_settled_with n m (call m words) ∙ ap (call_settled (unarmed_with n m)) (call_with n m words))
    where
      words : List ℕ
      words = arguments_of t.regs
  executed_with m t (Traps cause value) none there =
      ap (after (Fault m.cursor cause value)) (settled_with n (death m.cursor.pid m) ∙ ap settled (death_with m.cursor.pid m))

  -- what a thread does that ends, ends its handler or executes this
  abbrev acts : Machine → Thread → Bool → Bool → Executed → Told
  acts m t a b x =
      if a then after (End m.cursor) (settled (thread_ended m.cursor (reg_at t.regs 10) m)) else (
      if b then after (End m.cursor) (settled (handler_ended m.cursor.pid m)) else
      executed m t x)

  acts_with : (m : Machine) (t : Thread) (a b : Bool) (x : Executed) → IsUncounted m → has_timer (memory_of m m.cursor.pid) x ≡ true
      → told_with n (acts m t a b x) ≡ acts (unarmed_with n m) t a b x
  acts_with m t true b x none there =
      ap (after (End m.cursor))
      (settled_with n (thread_ended m.cursor (reg_at t.regs 10) m) ∙ ap settled (thread_ended_with m.cursor (reg_at t.regs 10) m))
  acts_with m t false true x none there =
      ap (after (End m.cursor)) (settled_with n (handler_ended m.cursor.pid m) ∙ ap settled (handler_ended_with m.cursor.pid m))
  acts_with m t false false x none there = executed_with m t x none there

  -- ---- what is executed

  module _ (m : Machine) (none : IsUncounted m) where
    timer_with : (pid : Pid) → timer_of m pid ≡ timer_of (unarmed_with n m) pid
    timer_with pid = no_timer m pid none ∙ sym (no_timer (unarmed_with n m) pid none)

    memory_with : (pid : Pid) → memory_of m pid ≡ memory_of (unarmed_with n m) pid
    unfolding memory_of
    memory_with pid = ap seen (timer_with pid)
      where
        seen : Option Timer → Memory
        seen timer = record {
          may = λ access address. (is_some (timer_at timer address) && is_of_timer_page access) || is_some (page_reached m pid access address);
          console = λ address. option_map_or (λ contents. not (has_bytes contents)) (contents_seen m pid address) false;
          byte = λ address. option_map_or (byte_of (address % 4096)) (contents_seen m pid address) 0;
          timer = timer;
        }

    performed_with : (who : ThreadId) (t : Thread) → performed m who t ≡ performed (unarmed_with n m) who t
    performed_with who t = ap (execute_at t.regs t.pc (reserved_by who m.reserved)) (memory_with who.pid)

    -- ---- a step of the cursor's thread

    pub acted_with : (o : Option Thread) → ((t : Thread) → o ≡ Some t → t.pc % 4 ≡ 0)
        → told_with n (acted_if_there m o) ≡ acted_if_there (unarmed_with n m) o
    acted_with None aligned = refl
    acted_with (Some t) aligned =
        acts_with m t (ends_thread m.cursor t.pc) (ends_handler m.cursor t.pc) (performed m m.cursor t).executed none
        (execute_at_sound t.regs t.pc (reserved_by m.cursor m.reserved) (memory_of m m.cursor.pid) (aligned t refl)).2
        ∙ ap (λ (p : Performed). acts (unarmed_with n m) t (ends_thread m.cursor t.pc) (ends_handler m.cursor t.pc) p.executed)
        (performed_with m.cursor t)

    pub left_with : (o : Option Thread) → reservation_left_if_there m o ≡ reservation_left_if_there (unarmed_with n m) o
    left_with None = refl
    left_with (Some t) =
        ap (λ (p : Performed). if_neither (ends_thread m.cursor t.pc) (ends_handler m.cursor t.pc) (reservation_of m.cursor p.reserved))
        (performed_with m.cursor t)
      where
        if_neither : Bool → Bool → Option Reservation → Option Reservation
        if_neither a b r = if a then None else (if b then None else r)
