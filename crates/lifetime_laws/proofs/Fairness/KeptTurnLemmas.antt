-- Where no record is a retry, a call of Yield or the start of a handler, the cursor stays with the thread that does the step.
use Rattle.std.proofs.Common.{◌≡◌, ℕ, zero, suc, ◌+◌, ◌-◌, ◌<◌, ◌≤◌, ◌⊎◌, inl, inr, Bool, true, false, List, [], ◌∷◌, map, Option, Some, None, refl, sym, ap, ◌∙◌, subst, arith}
use Rattle.std.specs.Prelude.{◌==◌, ◌||◌, if◌then◌else◌, nat_eq, slice_get}
use Rattle.std.specs.List.{All, Contains}
use Rattle.std.proofs.lemmas.List.Elements.{Contains-append_left, Contains-append_right, Contains-push}
use Rattle.std.proofs.lemmas.Option.{none-some, same_Some}
use Rattle.xk_base.specs.declared.events.Event.{Event}
use Rattle.xk_base.specs.declared.ids.Pid.{Pid}
use Rattle.xk_base.specs.declared.ids.ThreadId.{ThreadId}
use Rattle.xk_base.specs.declared.limits.TheConstants.{TIMER_INTERRUPT}
use Rattle.xk_base.specs.declared.records.Rec.{Rec}
use Rattle.xk_base.specs.declared.records.What.{What}
use Rattle.xk_base.specs.declared.records.What.TheVariants.{Call, Reply, Retry, Byte, Fault, End, Irq, Gone}
use Rattle.syscall_codec.specs.CallNumbers.{yield_turn}
use Rattle.syscall_codec.specs.CallWords.{call_number}
use Rattle.xk_base.specs.Calls.Registers.{arguments_of, reg_at}
use Rattle.xk_base.specs.Tables.Counting.{put_at}
use Rattle.call_effects.specs.Footprints.{CursorPart}
use Rattle.call_effects.proofs.FootprintLemmas.{calls_leave_the_rest}
use Rattle.machine_laws.specs.Records.{records_by}
use Rattle.machine_laws.specs.HistoryMoments.{moments_of}
use Rattle.machine_laws.proofs.Histories.MomentLemmas.{history_is_run}
use Rattle.machine_laws.proofs.Threading.ThreadStepLemmas.{turned_to}
use Rattle.machine_model.specs.Calling.Calls.{call}
use Rattle.machine_model.specs.Ending.Closing.{closed, senders_held_gone, senders_queued_gone, servers_closed}
use Rattle.machine_model.specs.Ending.Ends.{death, end_with_last_thread, forgotten, handler_ended, has_threads, thread_ended}
use Rattle.machine_model.specs.Hart.Instructions.{CallsKernel, Executed, Next, Stores, StoresToConsole, StoresToTimer, Traps}
use Rattle.machine_model.specs.Runs.Moments.{Cause, ByStep, ByPick, ByIrq, ByKill, ByTurn, IsRun, Moment, caused, state_at}
use Rattle.machine_model.specs.State.Changes.{Change, Delivery, Outcome, Refused, Retried, Served, Told, call_settled, settled}
use Rattle.machine_model.specs.State.Machine.{Claim, Idle, Machine, Thread}
use Rattle.machine_model.specs.State.Order.{actor}
use Rattle.machine_model.specs.State.Threads.{change_thread, put_thread, thread_id, with_state}
use Rattle.machine_model.specs.State.Views.{stored, timer_set}
use Rattle.machine_model.specs.Stepping.Interrupts.{cursor_after, delivered}
use Rattle.machine_model.specs.Stepping.Step.{Recorded, acted_if_there, after, counted, ends_handler, ends_thread, executed, performed, record_of, step}
use Rattle.machine_model.specs.Stepping.Timer.{is_due, raised_by_timer, stands_after_irq, timed, timed_if, timer_change, with_irq, with_irq_if}
use Rattle.transcript_laws.specs.Turns.{IsOrderKept, KeepsOrder, StartsNoOther}
use Rattle.lifetime_laws.proofs.Fairness.SteppedLemmas.{step_is}
use Rattle.transcript_laws.proofs.Serving.ServedStepLemmas.{timed_tells}
use Rattle.transcript_laws.proofs.Turning.FairLemmas.{Caused, Ended, Link, link}
use Rattle.transcript_laws.proofs.Turning.FootprintLemmas.{unnamed_by}
use Rattle.transcript_laws.proofs.Turning.GoingLemmas.{delivered_stays}
use Rattle.lifetime_laws.specs.Scheduling.{AreTicksUpTo, KeepsTurn, LosesTurn, NobodyYields, WaitsInLine}
use Rattle.lifetime_laws.proofs.Fairness.TickedLemmas.{ByKind, Ticked, history_ticked}

-- each of what is told keeps the turn
abbrev Quiet : List What → Type 0
Quiet told = (what : What) → Contains told what → KeepsTurn what

-- ---- what a thread does

call_stays : (m : Machine) (w : List ℕ) → (call_number w == yield_turn) ≡ false → Quiet (call_settled m (call m w)).told
    → (call_settled m (call m w)).machine.cursor ≡ m.cursor
unfolding call_settled settled
call_stays m w other quiet = go (call m w) refl quiet
  where
    go : (o : Outcome) → call m w ≡ o → Quiet (call_settled m o).told → (call_settled m o).machine.cursor ≡ m.cursor
    go (Refused error) e q = refl
    go Retried e q = absurd (q (Retry m.cursor) (Contains-push [] (Retry m.cursor)))
    go (Served change) e q = (calls_leave_the_rest m w change e).cursor (unnamed_by CursorPart (call_number w) (λ i. other i || false))

thread_end_stays : (m : Machine) (who : ThreadId) (a0 : ℕ) → (settled (thread_ended who a0 m)).machine.cursor ≡ m.cursor
unfolding settled thread_ended death servers_closed closed senders_queued_gone senders_held_gone forgotten
thread_end_stays m who a0 = go (has_threads (put_thread who None m) who.pid)
  where
    go : (b : Bool) → (end_with_last_thread b who.pid (put_thread who None m)).machine.cursor ≡ m.cursor
    go true = refl
    go false = refl

handler_end_stays : (m : Machine) (pid : Pid) → (settled (handler_ended pid m)).machine.cursor ≡ m.cursor
unfolding settled handler_ended
handler_end_stays m pid = (delivered_stays (change_thread (thread_id pid 1) (with_state Idle) m) pid).1

executed_stays : (m : Machine) (t : Thread) (x : Executed) → Quiet (executed m t x).told → (executed m t x).machine.cursor ≡ m.cursor
unfolding stored timer_set settled death servers_closed closed senders_queued_gone senders_held_gone forgotten
executed_stays m t (Next regs pc) quiet = refl
executed_stays m t (Stores address width value regs pc) quiet = refl
executed_stays m t (StoresToConsole offset value regs pc) quiet = refl
executed_stays m t (StoresToTimer offset width value regs pc) quiet = refl
executed_stays m t CallsKernel quiet =
    let w : List ℕ = arguments_of t.regs in
    call_stays m w
    (quiet (Call m.cursor w) (Contains-append_left (Call m.cursor w ∷ []) (call_settled m (call m w)).told (Call m.cursor w) (Contains-push [] (Call m.cursor w))))
    (λ what at. quiet what (Contains-append_right (Call m.cursor w ∷ []) (call_settled m (call m w)).told what at))
executed_stays m t (Traps cause value) quiet = refl

acted_stays : (m : Machine) (o : Option Thread) → Quiet (acted_if_there m o).told → (acted_if_there m o).machine.cursor ≡ m.cursor
acted_stays m None quiet = refl
acted_stays m (Some t) quiet = go (ends_thread m.cursor t.pc) (ends_handler m.cursor t.pc) quiet
  where
    done : Bool → Bool → Told
    done a b =
        if a then after (End m.cursor) (settled (thread_ended m.cursor (reg_at t.regs 10) m)) else (
        if b then after (End m.cursor) (settled (handler_ended m.cursor.pid m)) else
        executed m t (performed m m.cursor t).executed)

    go : (a b : Bool) → Quiet (done a b).told → (done a b).machine.cursor ≡ m.cursor
    go true b q = thread_end_stays m m.cursor (reg_at t.regs 10)
    go false true q = handler_end_stays m m.cursor.pid
    go false false q = executed_stays m t (performed m m.cursor t).executed q

-- ---- the timer

raise_stays : (m : Machine) (o : Option Claim) → (raised_by_timer o m).machine.cursor ≡ cursor_after (raised_by_timer o m).delivery m.cursor
raise_stays m None = refl
raise_stays m (Some claim) =
    let next : Machine = record m { pending = put_at nat_eq m.pending TIMER_INTERRUPT true } in
    ap (cursor_after (delivered claim.pid next).delivery) (delivered_stays next claim.pid).1

irq_there : (d : Delivery) (told : List What) → Contains (with_irq d told) (Irq d.pid d.number)
irq_there d [] = Contains-push [] (Irq d.pid d.number)
irq_there d (what ∷ told) = go (stands_after_irq d.pid what) (irq_there d told)
  where
    go : (b : Bool) → Contains (with_irq d told) (Irq d.pid d.number)
        → Contains (if b then Irq d.pid d.number ∷ what ∷ told else what ∷ with_irq d told) (Irq d.pid d.number)
    go true later =
        Contains-append_left (Irq d.pid d.number ∷ []) (what ∷ told) (Irq d.pid d.number) (Contains-push [] (Irq d.pid d.number))
    go false later = Contains-append_right (what ∷ []) (with_irq d told) (Irq d.pid d.number) later

timed_stays : (done : Told) → Quiet (timed done).told → (timed done).machine.cursor ≡ done.machine.cursor
unfolding settled
timed_stays done = go (is_due done.machine.compare done.machine.steps)
  where
    change : Change
    change = timer_change done.machine

    raised : change.machine.cursor ≡ cursor_after change.delivery done.machine.cursor
    raised = raise_stays (record done.machine { compare = None }) (done.machine.claims TIMER_INTERRUPT)

    by_delivery : (o : Option Delivery) → Quiet (with_irq_if o done.told) → cursor_after o done.machine.cursor ≡ done.machine.cursor
    by_delivery None q = refl
    by_delivery (Some d) q = absurd (q (Irq d.pid d.number) (irq_there d done.told))

    go : (b : Bool) → Quiet (timed_if b done).told → (timed_if b done).machine.cursor ≡ done.machine.cursor
    go false q = refl
    go true q = raised ∙ by_delivery change.delivery q

-- ---- a step

module _ (m : Machine) (who : ThreadId) (acts : actor m ≡ Some who) where
  abbrev turned : Machine
  turned = turned_to who m

  abbrev done : Told
  done = counted turned (m.threads who) (acted_if_there turned (m.threads who))

  quiet_told : (k : ℕ) (told : List What) → All (λ (rec : Rec). KeepsTurn rec.what) (map (record_of k) told) → Quiet told
  quiet_told k [] h what at = absurd (let low : at.0 < 0 = at.1 in omega arith)
  quiet_told k (first ∷ told) h what (zero, low, is) = subst KeepsTurn is (h 0 (record_of k first) (omega arith))
  quiet_told k (first ∷ told) h what (suc j, low, is) =
      quiet_told k told (λ i x l. h (suc i) x (omega arith)) what (j, omega arith, is)

  pub quiet_step_stays : All (λ (rec : Rec). KeepsTurn rec.what) (step m).records → (step m).machine.cursor ≡ who
  quiet_step_stays h =
      let quiet : Quiet (timed done).told =
      quiet_told (m.steps + 1) (timed done).told (subst (λ (s : Recorded). All (λ (rec : Rec). KeepsTurn rec.what) s.records) (step_is m who acts) h) in
      ap (λ (s : Recorded). s.machine.cursor) (step_is m who acts)
      ∙ (timed_stays done quiet
      ∙ acted_stays turned (m.threads who) (λ what at. quiet what (timed_tells ByStep what done at)))

-- ---- runs

ticked_alone : (most rest : ℕ) (fresh : Bool) (start : Machine) (moments : List Moment) → Ticked most rest fresh start moments
    → (i : ℕ) (moment : Moment)
    → slice_get moments i ≡ Some moment → (moment.cause ≡ ByStep) ⊎ (moment.cause ≡ ByTurn)
unfolding Ticked
ticked_alone most rest fresh start [] t zero moment there = absurd (none-some moment there)
ticked_alone most rest fresh start [] t (suc i) moment there = absurd (none-some moment there)
ticked_alone most rest fresh start (first ∷ moments) t zero moment there =
    subst (λ (x : Moment). (x.cause ≡ ByStep) ⊎ (x.cause ≡ ByTurn)) (same_Some first moment there) (go first.cause refl t)
  where
    go : (cause : Cause) → first.cause ≡ cause
        → ByKind cause ((1 ≤ rest) × Ticked most (rest - 1) false first.machine moments)
        ((fresh ≡ true → actor start ≡ None) × Ticked most most true first.machine moments)
        → (first.cause ≡ ByStep) ⊎ (first.cause ≡ ByTurn)
    go ByStep e t = inl e
    go (ByPick who) e t = absurd t
    go (ByIrq k) e t = absurd t
    go (ByKill pid) e t = absurd t
    go ByTurn e t = inr e
ticked_alone most rest fresh start (first ∷ moments) t (suc i) moment there =
    go first.cause t (λ r f t. ticked_alone most r f first.machine moments t i moment there)
  where
    go : (cause : Cause)
        → ByKind cause ((1 ≤ rest) × Ticked most (rest - 1) false first.machine moments)
        ((fresh ≡ true → actor start ≡ None) × Ticked most most true first.machine moments)
        → ((r : ℕ) (f : Bool) → Ticked most r f first.machine moments → (moment.cause ≡ ByStep) ⊎ (moment.cause ≡ ByTurn))
        → (moment.cause ≡ ByStep) ⊎ (moment.cause ≡ ByTurn)
    go ByStep t later = later (rest - 1) false t.1
    go (ByPick who) t later = absurd t
    go (ByIrq k) t later = absurd t
    go (ByKill pid) t later = absurd t
    go ByTurn t later = later most true t.1

starts_none : (m : Machine) (what : What) → KeepsTurn what → StartsNoOther m what
starts_none m (Call who words) k = tt
starts_none m (Reply who words) k = tt
starts_none m (Retry who) k = tt
starts_none m (Byte who byte) k = tt
starts_none m (Fault who cause value) k = tt
starts_none m (End who) k = tt
starts_none m (Irq pid number) k = absurd k
starts_none m (Gone pid) k = tt

module _ (start : Machine) (moments : List Moment) (run : IsRun start moments)
    (alone : (i : ℕ) (moment : Moment) → slice_get moments i ≡ Some moment → (moment.cause ≡ ByStep) ⊎ (moment.cause ≡ ByTurn))
    (first last : ℕ) (quiet : NobodyYields start moments first last) where
  abbrev at : ℕ → Machine
  at i = state_at start moments i

  order_kept : IsOrderKept start moments first last
  order_kept i moment p q there = elim (alone i moment there) [
    | inl step ↦
        subst (λ c. KeepsOrder c (at i)) (sym step)
        (λ k x low. starts_none (at i) _ (subst (λ c. All (λ (rec : Rec). KeepsTurn rec.what) (records_by c (at i))) step (quiet i moment p q there) k x low))
    | inr turn ↦ subst (λ c. KeepsOrder c (at i)) (sym turn) tt
  ]

  keeps_turns : (who : ThreadId) (i : ℕ) → first ≤ i → suc i < last → ¬ LosesTurn who start moments i
  keeps_turns who i p q loses = go (link start moments run i)
    where
      go : Link start moments i → ⊥
      go (Ended none e) = none-some loses.step.moment (sym none ∙ loses.step.there)
      go (Caused moment there e) =
          let cause : moment.cause ≡ ByStep =
          ap (λ (x : Moment). x.cause) (same_Some moment loses.step.moment (sym there ∙ loses.step.there)) ∙ loses.step.step in
          let stays : (step (at i)).machine.cursor ≡ loses.other =
          quiet_step_stays (at i) loses.other loses.step.turn
          (subst (λ c. All (λ (rec : Rec). KeepsTurn rec.what) (records_by c (at i))) cause (quiet i moment p (omega arith) there)) in
          loses.apart (sym stays ∙ (sym (ap (λ (m : Machine). m.cursor) (e ∙ ap (λ c. caused c (at i)) cause)) ∙ loses.given))

pub waits_in_line : (events : List Event) (limit most : ℕ) (start : Machine) → AreTicksUpTo most events
    → WaitsInLine start (moments_of events limit start)
waits_in_line events limit most start ticks who first last ready quiet =
    let run : IsRun start (moments_of events limit start) = history_is_run events limit start in
    let alone = ticked_alone most most true start (moments_of events limit start) (history_ticked most events limit start ticks) in
    record {
      ready = ready;
      order = order_kept start (moments_of events limit start) run alone first last quiet;
      turns = λ i p q. keeps_turns start (moments_of events limit start) run alone first last quiet who i p q;
    }
