-- Where the cursor goes in a step: it stays with the thread that does it, or goes on to the next ready one, unless the timer starts a
-- handler in another thread.
use Rattle.std.proofs.Common.{◌≡◌, ℕ, ◌+◌, ◌⊎◌, inl, inr, zero, suc, Bool, true, false, List, [], ◌∷◌, map, Option, Some, None, refl, sym, ap, ◌∙◌, subst, arith}
use Rattle.std.specs.Prelude.{◌==◌, ◌||◌, if◌then◌else◌, nat_eq}
use Rattle.std.specs.Bool.{⊤}
use Rattle.std.specs.List.{All}
use Rattle.std.proofs.lemmas.Bool.{eqb-true}
use Rattle.std.proofs.lemmas.Option.{same_Some}
use Rattle.xk_base.specs.declared.errors.XousError.{XousError}
use Rattle.xk_base.specs.declared.ids.Pid.{Pid}
use Rattle.xk_base.specs.declared.ids.ThreadId.{ThreadId}
use Rattle.xk_base.specs.declared.limits.TheConstants.{TIMER_INTERRUPT}
use Rattle.xk_base.specs.declared.records.Rec.{Rec}
use Rattle.xk_base.specs.declared.records.What.{What}
use Rattle.xk_base.specs.declared.records.What.TheVariants.{Irq, End}
use Rattle.syscall_codec.specs.CallNumbers.{yield_turn}
use Rattle.syscall_codec.specs.CallWords.{call_number}
use Rattle.xk_base.specs.Calls.Registers.{arguments_of, reg_at}
use Rattle.xk_base.specs.Tables.Counting.{put_at}
use Rattle.call_effects.specs.Footprints.{CursorPart}
use Rattle.call_effects.proofs.FootprintLemmas.{calls_leave_the_rest}
use Rattle.transcript_laws.proofs.Turning.FootprintLemmas.{unnamed_by}
use Rattle.machine_model.specs.Calling.Calls.{any_refusals, call, call_at, call_table}
use Rattle.machine_model.specs.Calling.ThreadCalls.{yield_call}
use Rattle.machine_model.specs.Ending.Closing.{closed, senders_held_gone, senders_queued_gone, servers_closed}
use Rattle.machine_model.specs.Ending.Ends.{death, end_with_last_thread, forgotten, handler_ended, has_threads, thread_ended}
use Rattle.machine_model.specs.Hart.Instructions.{CallsKernel, Executed, Next, Stores, StoresToConsole, StoresToTimer, Traps}
use Rattle.machine_model.specs.State.Changes.{Change, Delivery, Outcome, Refused, Retried, Served, Told, call_settled, first_refusal, refused_or, settled}
use Rattle.machine_model.specs.State.Machine.{Claim, Idle, Machine, Thread}
use Rattle.machine_model.specs.State.Order.{actor, turn}
use Rattle.machine_model.specs.State.Threads.{change_thread, put_thread, thread_id, with_state}
use Rattle.machine_model.specs.State.Views.{stored, timer_set}
use Rattle.machine_model.specs.Stepping.Interrupts.{cursor_after, delivered, delivered_lowest, handler_started, is_free_for_interrupt, lowest_pending}
use Rattle.machine_model.specs.Stepping.Step.{Recorded, acted_if_there, after, counted, ends_handler, ends_thread, executed, performed, record_of, step, step_by, step_by_if}
use Rattle.machine_model.specs.Stepping.Timer.{is_due, raised_by_timer, stands_after_irq, timed, timed_if, timer_change, with_irq, with_irq_if}
use Rattle.machine_laws.proofs.Threading.ThreadStepLemmas.{turned_to}
use Rattle.transcript_laws.specs.Turns.{StartsNoOther}

-- as many processes, and the cursor as it was or at the next ready thread
pub record GoesOn (m n : Machine) : Type 0 where
  pub processes : n.processes ≡ m.processes
  pub cursor : (n.cursor ≡ m.cursor) ⊎ (n.cursor ≡ (turn m).cursor)

-- ---- calls

-- this of the change of a yield, where it is served
abbrev EndsTurn : Machine → Outcome → Type 0
EndsTurn m (Refused error) = ⊤
EndsTurn m Retried = ⊤
EndsTurn m (Served change) = change.machine.cursor ≡ (turn m).cursor

yield_ends_turn : (m : Machine) (w : List ℕ) → call_number w ≡ yield_turn → EndsTurn m (call m w)
unfolding call yield_call
yield_ends_turn m w e = go (first_refusal (any_refusals m w))
  where
    row : EndsTurn m (call_at (call_number w) call_table m w)
    row = subst (λ k. EndsTurn m (call_at k call_table m w)) (sym e) refl

    go : (o : Option XousError) → EndsTurn m (refused_or o (call_at (call_number w) call_table m w))
    go None = row
    go (Some error) = tt

served_cursor : (m : Machine) (w : List ℕ) (change : Change) → call m w ≡ Served change
    → (change.machine.cursor ≡ m.cursor) ⊎ (change.machine.cursor ≡ (turn m).cursor)
served_cursor m w change e = go (call_number w == yield_turn) refl
  where
    go : (b : Bool) → (call_number w == yield_turn) ≡ b → (change.machine.cursor ≡ m.cursor) ⊎ (change.machine.cursor ≡ (turn m).cursor)
    go true p = inr (subst (EndsTurn m) e (yield_ends_turn m w (eqb-true (call_number w) yield_turn p)))
    go false p = inl ((calls_leave_the_rest m w change e).cursor (unnamed_by CursorPart (call_number w) (λ i. p i || false)))

call_goes_on : (m : Machine) (w : List ℕ) → GoesOn m (call_settled m (call m w)).machine
unfolding call_settled settled turn
call_goes_on m w = go (call m w) refl
  where
    go : (o : Outcome) → call m w ≡ o → GoesOn m (call_settled m o).machine
    go (Refused error) e = record { processes = refl; cursor = inl refl }
    go Retried e = record { processes = refl; cursor = inr refl }
    go (Served change) e = record { processes = (calls_leave_the_rest m w change e).processes; cursor = served_cursor m w change e }

-- ---- what a thread does

death_goes_on : (m : Machine) (pid : Pid) → GoesOn m (settled (death pid m)).machine
unfolding settled death servers_closed closed senders_queued_gone senders_held_gone forgotten
death_goes_on m pid = record { processes = refl; cursor = inl refl }

thread_end_goes_on : (m : Machine) (who : ThreadId) (a0 : ℕ) → GoesOn m (settled (thread_ended who a0 m)).machine
unfolding settled thread_ended death servers_closed closed senders_queued_gone senders_held_gone forgotten
thread_end_goes_on m who a0 =
    let stays = go (has_threads (put_thread who None m) who.pid) in
    record { processes = stays.0; cursor = inl stays.1 }
  where
    go : (b : Bool)
        → ((end_with_last_thread b who.pid (put_thread who None m)).machine.processes ≡ m.processes)
        × ((end_with_last_thread b who.pid (put_thread who None m)).machine.cursor ≡ m.cursor)
    go true = (refl, refl)
    go false = (refl, refl)

pub delivered_stays : (m : Machine) (pid : Pid) → ((delivered pid m).machine.processes ≡ m.processes) × ((delivered pid m).machine.cursor ≡ m.cursor)
unfolding delivered
delivered_stays m pid = lowest (if is_free_for_interrupt m pid then lowest_pending m pid else None)
  where
    started : (k : ℕ) (claim : Option Claim)
        → ((handler_started m pid k claim).machine.processes ≡ m.processes) × ((handler_started m pid k claim).machine.cursor ≡ m.cursor)
    started k None = (refl, refl)
    started k (Some claim) = (refl, refl)

    lowest : (o : Option ℕ) → ((delivered_lowest m pid o).machine.processes ≡ m.processes) × ((delivered_lowest m pid o).machine.cursor ≡ m.cursor)
    lowest None = (refl, refl)
    lowest (Some k) = started k (m.claims k)

handler_end_goes_on : (m : Machine) (pid : Pid) → GoesOn m (settled (handler_ended pid m)).machine
unfolding settled handler_ended
handler_end_goes_on m pid =
    let idle : Machine = change_thread (thread_id pid 1) (with_state Idle) m in
    record { processes = (delivered_stays idle pid).0; cursor = inl (delivered_stays idle pid).1 }

executed_goes_on : (m : Machine) (t : Thread) (x : Executed) → GoesOn m (executed m t x).machine
unfolding stored timer_set
executed_goes_on m t (Next regs pc) = record { processes = refl; cursor = inl refl }
executed_goes_on m t (Stores address width value regs pc) = record { processes = refl; cursor = inl refl }
executed_goes_on m t (StoresToConsole offset value regs pc) = record { processes = refl; cursor = inl refl }
executed_goes_on m t (StoresToTimer offset width value regs pc) = record { processes = refl; cursor = inl refl }
executed_goes_on m t CallsKernel = call_goes_on m (arguments_of t.regs)
executed_goes_on m t (Traps cause value) = death_goes_on m m.cursor.pid

pub acted_goes_on : (m : Machine) (o : Option Thread) → GoesOn m (acted_if_there m o).machine
acted_goes_on m None = record { processes = refl; cursor = inl refl }
acted_goes_on m (Some t) = go (ends_thread m.cursor t.pc) (ends_handler m.cursor t.pc)
  where
    go : (a b : Bool) → GoesOn m (if a then after (End m.cursor) (settled (thread_ended m.cursor (reg_at t.regs 10) m)) else (
        if b then after (End m.cursor) (settled (handler_ended m.cursor.pid m)) else
        executed m t (performed m m.cursor t).executed)).machine
    go true b = thread_end_goes_on m m.cursor (reg_at t.regs 10)
    go false true = handler_end_goes_on m m.cursor.pid
    go false false = executed_goes_on m t (performed m m.cursor t).executed

-- ---- the timer

-- what holds of all that is told holds of the interrupt's record
irq_holds : (P : What → Type 0) (d : Delivery) (told : List What) → All P (with_irq d told) → P (Irq d.pid d.number)
irq_holds P d [] h = h 0 (Irq d.pid d.number) (omega arith)
irq_holds P d (what ∷ told) h = go (irq_holds P d told) (stands_after_irq d.pid what) h
  where
    go : (All P (with_irq d told) → P (Irq d.pid d.number)) → (b : Bool)
        → All P (if b then Irq d.pid d.number ∷ what ∷ told else what ∷ with_irq d told) → P (Irq d.pid d.number)
    go later true all = all 0 (Irq d.pid d.number) (omega arith)
    go later false all = later (λ k x l. all (suc k) x (omega arith))

-- the cursor of a change that may have started a handler
raise_stays : (m : Machine) (o : Option Claim)
    → ((raised_by_timer o m).machine.processes ≡ m.processes)
    × ((raised_by_timer o m).machine.cursor ≡ cursor_after (raised_by_timer o m).delivery m.cursor)
raise_stays m None = (refl, refl)
raise_stays m (Some claim) =
    let next : Machine = record m { pending = put_at nat_eq m.pending TIMER_INTERRUPT true } in
    let stays = delivered_stays next claim.pid in
    (stays.0, ap (cursor_after (delivered claim.pid next).delivery) stays.1)

module _ (who : ThreadId) where
  -- a handler that starts is the thread's own
  abbrev pub Own : What → Type 0
  Own what = (pid : Pid) (k : ℕ) → what ≡ Irq pid k → thread_id pid 1 ≡ who

  timed_goes_on : (done : Told) → All Own (timed done).told
      → ((timed done).machine.processes ≡ done.machine.processes)
      × (((timed done).machine.cursor ≡ done.machine.cursor) ⊎ ((timed done).machine.cursor ≡ who))
  timed_goes_on done = go (is_due done.machine.compare done.machine.steps)
    where
      change : Change
      change = timer_change done.machine

      stays : (change.machine.processes ≡ done.machine.processes) × (change.machine.cursor ≡ cursor_after change.delivery done.machine.cursor)
      stays = raise_stays (record done.machine { compare = None }) (done.machine.claims TIMER_INTERRUPT)

      by_delivery : (o : Option Delivery) → All Own (with_irq_if o done.told)
          → (cursor_after o done.machine.cursor ≡ done.machine.cursor) ⊎ (cursor_after o done.machine.cursor ≡ who)
      by_delivery None own = inl refl
      by_delivery (Some d) own = inr (irq_holds Own d done.told own d.pid d.number refl)

      settled_machine : ((settled change).machine.processes ≡ change.machine.processes) × ((settled change).machine.cursor ≡ change.machine.cursor)
      settled_machine = unfold settled in (refl, refl)

      go : (b : Bool) → All Own (timed_if b done).told
          → ((timed_if b done).machine.processes ≡ done.machine.processes)
          × (((timed_if b done).machine.cursor ≡ done.machine.cursor) ⊎ ((timed_if b done).machine.cursor ≡ who))
      go false own = (refl, inl refl)
      go true own = (settled_machine.0 ∙ stays.0, with_cursor (by_delivery change.delivery own))
        where
          is : (settled change).machine.cursor ≡ cursor_after change.delivery done.machine.cursor
          is = settled_machine.1 ∙ stays.1

          with_cursor : (cursor_after change.delivery done.machine.cursor ≡ done.machine.cursor) ⊎ (cursor_after change.delivery done.machine.cursor ≡ who)
              → ((settled change).machine.cursor ≡ done.machine.cursor) ⊎ ((settled change).machine.cursor ≡ who)
          with_cursor (inl e) = inl (is ∙ e)
          with_cursor (inr e) = inr (is ∙ e)

-- ---- a step

-- as many processes, and the cursor with the thread or at the next ready one
pub record StepGoesOn (m : Machine) (who : ThreadId) : Type 0 where
  pub processes : (step m).machine.processes ≡ m.processes
  pub cursor : ((step m).machine.cursor ≡ who) ⊎ ((step m).machine.cursor ≡ (turn (turned_to who m)).cursor)

module _ (m : Machine) (who : ThreadId) (acts : actor m ≡ Some who) where
  abbrev turned : Machine
  turned = turned_to who m

  abbrev done : Told
  done = counted turned (m.threads who) (acted_if_there turned (m.threads who))

  step_is : step m ≡ record { machine = (timed done).machine; records = map (record_of (m.steps + 1)) (timed done).told }
  unfolding step step_by
  step_is = ap (λ a. step_by_if a m) acts

  own_told : (told : List What) → All (λ (rec : Rec). StartsNoOther m rec.what) (map (record_of (m.steps + 1)) told) → All (Own who) told
  own_told [] h k d l = absurd (omega arith)
  own_told (what ∷ told) h zero d l = λ pid k e.
      same_Some (thread_id pid 1) who (sym (subst (StartsNoOther m) e (h 0 (record_of (m.steps + 1) what) (omega arith))) ∙ acts)
  own_told (what ∷ told) h (suc k) d l = own_told told (λ j x low. h (suc j) x (omega arith)) k d (omega arith)

  pub step_goes_on : All (λ (rec : Rec). StartsNoOther m rec.what) (step m).records → StepGoesOn m who
  step_goes_on h =
      let told : All (Own who) (timed done).told =
      own_told (timed done).told (subst (λ (s : Recorded). All (λ (rec : Rec). StartsNoOther m rec.what) s.records) step_is h) in
      let goes : GoesOn turned (acted_if_there turned (m.threads who)).machine = acted_goes_on turned (m.threads who) in
      let late = timed_goes_on who done told in
      let machine : (step m).machine ≡ (timed done).machine = ap (λ (s : Recorded). s.machine) step_is in
      record {
        processes = ap (λ (x : Machine). x.processes) machine ∙ (late.0 ∙ goes.processes);
        cursor = both late.1 goes.cursor (ap (λ (x : Machine). x.cursor) machine);
      }
    where
      both : ((timed done).machine.cursor ≡ done.machine.cursor) ⊎ ((timed done).machine.cursor ≡ who)
          → (done.machine.cursor ≡ who) ⊎ (done.machine.cursor ≡ (turn turned).cursor)
          → (step m).machine.cursor ≡ (timed done).machine.cursor
          → ((step m).machine.cursor ≡ who) ⊎ ((step m).machine.cursor ≡ (turn turned).cursor)
      both (inr e) goes is = inl (is ∙ e)
      both (inl e) (inl g) is = inl (is ∙ (e ∙ g))
      both (inl e) (inr g) is = inr (is ∙ (e ∙ g))
