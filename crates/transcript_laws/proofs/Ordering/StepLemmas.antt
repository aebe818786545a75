-- The records of each step, and of whatever else leads from a state to the next, stand in order.
use Rattle.std.proofs.Common.{◌≡◌, ◌≢◌, ℕ, zero, suc, ◌+◌, ◌≤◌, Bool, true, false, List, [], ◌∷◌, map, Option, Some, None, refl, sym, ap, ◌∙◌, subst, arith}
use Rattle.std.specs.Prelude.{◌==◌, if◌then◌else◌, nat_eq, slice_index_or}
use Rattle.std.specs.Bool.{⊤}
use Rattle.std.specs.List.{All}
use Rattle.std.proofs.lemmas.Bool.{false≢true}
use Rattle.std.proofs.lemmas.List.Elements.{All-nil}
use Rattle.std.proofs.lemmas.Option.{none-some, same_Some}
use Rattle.xk_base.specs.declared.ids.Pid.{Pid}
use Rattle.xk_base.specs.declared.ids.ThreadId.{ThreadId}
use Rattle.xk_base.specs.declared.limits.TheConstants.{TIMER_INTERRUPT}
use Rattle.xk_base.specs.declared.records.Rec.{Rec}
use Rattle.xk_base.specs.declared.records.What.{What}
use Rattle.xk_base.specs.declared.records.What.TheVariants.{Call, Reply, Retry, Byte, Fault, End, Irq, Gone}
use Rattle.xk_base.specs.Calls.Registers.{arguments_of, reg_at}
use Rattle.syscall_codec.specs.ReplyWords.{refused_words}
use Rattle.xk_base.specs.Tables.Counting.{put_at}
use Rattle.call_effects.proofs.LeadingLemmas.{Leads, call_leads}
use Rattle.machine_laws.specs.Records.{records_by}
use Rattle.machine_model.specs.Calling.Calls.{call}
use Rattle.machine_model.specs.Ending.Closing.{closed, servers_closed}
use Rattle.machine_model.specs.Ending.Ends.{death, end_with_last_thread, handler_ended, has_threads, thread_ended}
use Rattle.machine_model.specs.Hart.Instructions.{CallsKernel, Executed, Next, Stores, StoresToConsole, StoresToTimer, Traps}
use Rattle.machine_model.specs.Runs.Moments.{Cause}
use Rattle.machine_model.specs.State.Changes.{Change, Delivery, Outcome, Refused, Retried, Served, Told, call_settled, change_told, delivery_told, settled}
use Rattle.machine_model.specs.State.Machine.{Claim, Idle, Machine, Thread}
use Rattle.machine_model.specs.State.Threads.{change_thread, passed, put_thread, thread_id, with_state}
use Rattle.machine_model.specs.Stepping.Interrupts.{delivered, delivered_lowest, handler_started, is_free_for_interrupt, lowest_pending, pended}
use Rattle.machine_model.specs.Stepping.Reservations.{unreserved}
use Rattle.machine_model.specs.Stepping.Step.{acted_if_there, after, console_told, counted, ends_handler, ends_thread, executed, performed, record_of}
use Rattle.machine_model.specs.Stepping.Timer.{is_due, raised_by_timer, timed, timed_if, timer_change}
use Rattle.machine_laws.proofs.Threading.ThreadAnswerLemmas.{same_thread-self}
use Rattle.machine_laws.proofs.Stepping.CauseCaseLemmas.{CauseCase, Kills, Raises, Rests, Steps, case_of}
use Rattle.transcript_laws.specs.RecordOrder.{IsBefore, StandInOrder, rank}
use Rattle.transcript_laws.proofs.Ordering.ChangeLemmas.{IsNoIrqOf, IsOrdered, all_told, first_ordered, settled_late, settled_ordered}
use Rattle.transcript_laws.proofs.Ordering.ChangeLemmas.{with_irq_if_ordered}
use Rattle.transcript_laws.proofs.Ordering.PairLemmas.{pairs_none, pairs_one, pairs_to_map}
use Rattle.call_effects.proofs.ServedLemmas.{done}
use Rattle.machine_laws.proofs.Threading.ThreadStepLemmas.{turned_to}
use Rattle.machine_model.specs.Runs.Moments.{caused}
use Rattle.machine_model.specs.Stepping.Step.{Recorded, acted}

-- ---- a handler that is started by a change runs

-- each interrupt that is told is that of a process whose interrupt thread runs a handler now
abbrev pub IsRunning : Machine → What → Type 0
IsRunning m what = (pid : Pid) (k : ℕ) → what ≡ Irq pid k → is_free_for_interrupt m pid ≡ false

-- what is told stands in order, and its handlers run
pub record IsTold (done : Told) : Type 0 where
  pub ordered : IsOrdered done.told
  pub running : All (IsRunning done.machine) done.told

no_irq : (m : Machine) (what : What) → ((pid : Pid) (k : ℕ) → what ≢ Irq pid k) → IsRunning m what
no_irq m what none pid k e = absurd (none pid k e)

reply_runs : (m : Machine) (id : ThreadId) (words : List ℕ) → IsRunning m (Reply id words)
reply_runs m id words pid k e = absurd (let d : Reply id words ≡ Irq pid k = e in cc)

gone_runs : (m : Machine) (dead : Pid) → IsRunning m (Gone dead)
gone_runs m dead pid k e = absurd (let d : Gone dead ≡ Irq pid k = e in cc)

module _ (m : Machine) where
  -- one record, and then what a change tells
  then_told : (what : What) → (rank what).kind ≡ 0 → ((pid : Pid) (k : ℕ) → what ≢ Irq pid k) → (change : Change)
      → All (IsRunning (settled change).machine) (delivery_told change.delivery) → IsTold (after what (settled change))
  unfolding settled
  then_told what first none change runs = record {
    ordered = first_ordered what (settled change).told first (settled_ordered change) (λ k d lt. some (slice_index_or (settled change).told k d) (settled_late change k d lt));
    running = all;
  }
    where
      some : (x : What) → 2 ≤ (rank x).kind → 1 ≤ (rank x).kind
      some x l = omega arith

      rest : All (IsRunning (settled change).machine) (change_told change.machine.processes change)
      rest = all_told (IsRunning (settled change).machine) (reply_runs (settled change).machine) (gone_runs (settled change).machine)
          change.machine.processes change runs

      all : All (IsRunning (settled change).machine) (what ∷ change_told change.machine.processes change)
      all zero d lt = no_irq (settled change).machine what none
      all (suc k) d lt = rest k d (omega arith)

no_delivery : (m : Machine) (o : Option Delivery) → o ≡ None → All (IsRunning m) (delivery_told o)
no_delivery m None e k d lt = absurd (omega arith)
no_delivery m (Some delivery) e k d lt = absurd (none-some delivery (sym e))

-- ---- a call

call_is_told : (m : Machine) (w : List ℕ) → IsTold (after (Call m.cursor w) (call_settled m (call m w)))
unfolding call_settled
call_is_told m w = go (call m w) (call_leads (λ a b. ⊤) (λ a. tt) (λ a b c p q. tt) (λ effect a. tt) m w)
  where
    call_no_irq : (pid : Pid) (k : ℕ) → Call m.cursor w ≢ Irq pid k
    call_no_irq pid k e = let d : Call m.cursor w ≡ Irq pid k = e in cc

    two : (what : What) (n : Machine) → 1 ≤ (rank what).kind → ((pid : Pid) (k : ℕ) → what ≢ Irq pid k)
        → IsTold (record { machine = n; told = Call m.cursor w ∷ what ∷ [] })
    two what n late none = record {
      ordered = first_ordered (Call m.cursor w) (what ∷ []) refl (pairs_one IsBefore what) one;
      running = each;
    }
      where
        one : All (λ x. 1 ≤ (rank x).kind) (what ∷ [])
        one zero d lt = late
        one (suc k) d lt = absurd (omega arith)

        each : All (IsRunning n) (Call m.cursor w ∷ what ∷ [])
        each zero d lt = no_irq n (Call m.cursor w) call_no_irq
        each (suc zero) d lt = no_irq n what none
        each (suc (suc k)) d lt = absurd (omega arith)

    go : (o : Outcome) → Leads (λ a b. ⊤) m o → IsTold (after (Call m.cursor w) (call_settled m o))
    go (Refused error) leads =
        two (Reply m.cursor (refused_words error)) (call_settled m (Refused error)).machine (omega arith)
        (λ pid k e. let d : Reply m.cursor (refused_words error) ≡ Irq pid k = e in cc)
    go Retried leads =
        two (Retry m.cursor) (call_settled m Retried).machine (omega arith) (λ pid k e. let d : Retry m.cursor ≡ Irq pid k = e in cc)
    go (Served change) leads =
        let passed_change : Change = record change { machine = change_thread m.cursor passed change.machine } in
        then_told m (Call m.cursor w) refl call_no_irq passed_change
        (no_delivery (settled passed_change).machine change.delivery leads.1)

-- ---- ends

end_no_irq : (who : ThreadId) (pid : Pid) (k : ℕ) → End who ≢ Irq pid k
end_no_irq who pid k e = let d : End who ≡ Irq pid k = e in cc

thread_end_delivers_none : (m : Machine) (who : ThreadId) (a0 : ℕ) → (thread_ended who a0 m).delivery ≡ None
unfolding thread_ended death servers_closed closed
thread_end_delivers_none m who a0 = go (has_threads (put_thread who None m) who.pid)
  where
    go : (b : Bool) → (end_with_last_thread b who.pid (put_thread who None m)).delivery ≡ None
    go true = refl
    go false = refl

thread_end_is_told : (m : Machine) (who : ThreadId) (a0 : ℕ) → IsTold (after (End who) (settled (thread_ended who a0 m)))
thread_end_is_told m who a0 =
    then_told m (End who) refl (end_no_irq who) (thread_ended who a0 m)
    (no_delivery (settled (thread_ended who a0 m)).machine (thread_ended who a0 m).delivery (thread_end_delivers_none m who a0))

death_delivers_none : (m : Machine) (pid : Pid) → (death pid m).delivery ≡ None
unfolding death servers_closed closed
death_delivers_none m pid = refl

module _ (m : Machine) (pid : Pid) where
  -- the handler that starts runs
  handler_runs : (k : ℕ) (claim : Claim) → is_free_for_interrupt (settled (handler_started m pid k (Some claim))).machine pid ≡ false
  unfolding settled
  handler_runs k claim = rw (same_thread-self (thread_id pid 1)) refl

  started_runs : (k : ℕ) (o : Option Claim)
      → All (IsRunning (settled (handler_started m pid k o)).machine) (delivery_told (handler_started m pid k o).delivery)
  started_runs k None j d lt = absurd (omega arith)
  started_runs k (Some claim) zero d lt = λ other n e.
      subst (λ p. is_free_for_interrupt (settled (handler_started m pid k (Some claim))).machine p ≡ false)
      (let f : Irq pid k ≡ Irq other n = e in cc) (handler_runs k claim)
  started_runs k (Some claim) (suc j) d lt = absurd (omega arith)

  lowest_runs : (o : Option ℕ) → All (IsRunning (settled (delivered_lowest m pid o)).machine) (delivery_told (delivered_lowest m pid o).delivery)
  lowest_runs None = All-nil (IsRunning (settled (delivered_lowest m pid None)).machine)
  lowest_runs (Some k) = started_runs k (m.claims k)

  delivered_runs : All (IsRunning (settled (delivered pid m)).machine) (delivery_told (delivered pid m).delivery)
  unfolding delivered
  delivered_runs = lowest_runs (if is_free_for_interrupt m pid then lowest_pending m pid else None)

handler_end_is_told : (m : Machine) (pid : Pid) (who : ThreadId) → IsTold (after (End who) (settled (handler_ended pid m)))
unfolding handler_ended
handler_end_is_told m pid who =
    then_told m (End who) refl (end_no_irq who) (delivered pid (change_thread (thread_id pid 1) (with_state Idle) m))
    (delivered_runs (change_thread (thread_id pid 1) (with_state Idle) m) pid)

-- ---- what a thread does

nothing_told : (m : Machine) → IsTold (record { machine = m; told = [] })
nothing_told m = record { ordered = pairs_none IsBefore; running = λ k d lt. absurd (omega arith) }

byte_told : (m : Machine) (who : ThreadId) (offset value : ℕ) → IsTold (record { machine = m; told = console_told who offset value })
byte_told m who offset value = go (offset == 0)
  where
    one : (what : What) → ((pid : Pid) (k : ℕ) → what ≢ Irq pid k) → IsTold (record { machine = m; told = what ∷ [] })
    one what none = record { ordered = pairs_one IsBefore what; running = each }
      where
        each : All (IsRunning m) (what ∷ [])
        each zero d lt = no_irq m what none
        each (suc k) d lt = absurd (omega arith)

    go : (b : Bool) → IsTold (record { machine = m; told = if b then console_told who 0 value else [] })
    go true = one (Byte who _) (λ pid k e. let d : Byte who _ ≡ Irq pid k = e in cc)
    go false = nothing_told m

executed_is_told : (m : Machine) (t : Thread) (x : Executed) → IsTold (executed m t x)
executed_is_told m t (Next regs pc) = nothing_told _
executed_is_told m t (Stores address width value regs pc) = nothing_told _
executed_is_told m t (StoresToConsole offset value regs pc) = byte_told _ m.cursor offset value
executed_is_told m t (StoresToTimer offset width value regs pc) = nothing_told _
executed_is_told m t CallsKernel = call_is_told m (arguments_of t.regs)
executed_is_told m t (Traps cause value) =
    then_told m (Fault m.cursor cause value) refl (λ pid k e. let d : Fault m.cursor cause value ≡ Irq pid k = e in cc) (death m.cursor.pid m)
    (no_delivery (settled (death m.cursor.pid m)).machine (death m.cursor.pid m).delivery (death_delivers_none m m.cursor.pid))

pub acted_is_told : (m : Machine) (o : Option Thread) → IsTold (acted_if_there m o)
acted_is_told m None = nothing_told m
acted_is_told m (Some t) = go (ends_thread m.cursor t.pc) (ends_handler m.cursor t.pc)
  where
    go : (a b : Bool) → IsTold (if a then after (End m.cursor) (settled (thread_ended m.cursor (reg_at t.regs 10) m)) else (
        if b then after (End m.cursor) (settled (handler_ended m.cursor.pid m)) else
        executed m t (performed m m.cursor t).executed))
    go true b = thread_end_is_told m m.cursor (reg_at t.regs 10)
    go false true = handler_end_is_told m m.cursor.pid m.cursor
    go false false = executed_is_told m t (performed m m.cursor t).executed

-- ---- the timer

-- what is delivered starts the handler of this process, whose interrupt thread ran none
delivery_free : (pid : Pid) (m : Machine) (d : Delivery) → (delivered pid m).delivery ≡ Some d → (d.pid ≡ pid) × (is_free_for_interrupt m pid ≡ true)
unfolding delivered
delivery_free pid m d e = go (is_free_for_interrupt m pid) refl e
  where
    started : (k : ℕ) (o : Option Claim) → (handler_started m pid k o).delivery ≡ Some d → d.pid ≡ pid
    started k None q = absurd (none-some d q)
    started k (Some claim) q = ap (λ (x : Delivery). x.pid) (sym (same_Some (record { pid = pid; number = k }) d q))

    lowest : (o : Option ℕ) → (delivered_lowest m pid o).delivery ≡ Some d → d.pid ≡ pid
    lowest None q = absurd (none-some d q)
    lowest (Some k) q = started k (m.claims k) q

    go : (b : Bool) → is_free_for_interrupt m pid ≡ b → (delivered_lowest m pid (if b then lowest_pending m pid else None)).delivery ≡ Some d
        → (d.pid ≡ pid) × (is_free_for_interrupt m pid ≡ true)
    go true p q = (lowest (lowest_pending m pid) q, p)
    go false p q = absurd (none-some d q)

raise_free : (o : Option Claim) (m : Machine) (d : Delivery) → (raised_by_timer o m).delivery ≡ Some d → is_free_for_interrupt m d.pid ≡ true
raise_free None m d e = absurd (none-some d e)
raise_free (Some claim) m d e =
    let free = delivery_free claim.pid (record m { pending = put_at nat_eq m.pending TIMER_INTERRUPT true }) d e in
    subst (λ pid. is_free_for_interrupt m pid ≡ true) (sym free.0) free.1

timed_ordered : (done : Told) → IsTold done → IsOrdered (timed done).told
timed_ordered done told = go (is_due done.machine.compare done.machine.steps)
  where
    none : (d : Delivery) → (timer_change done.machine).delivery ≡ Some d → All (IsNoIrqOf d.pid) done.told
    none d e k x lt other number irq same =
        false≢true
        (sym (told.running k x lt other number irq)
        ∙ (ap (is_free_for_interrupt done.machine) (λ i. record { 0 = same i })
        ∙ raise_free (done.machine.claims TIMER_INTERRUPT) (record done.machine { compare = None }) d e))

    go : (b : Bool) → IsOrdered (timed_if b done).told
    go false = told.ordered
    go true = with_irq_if_ordered (timer_change done.machine).delivery done.told none told.ordered

-- ---- records

recorded : (n : ℕ) (told : List What) → IsOrdered told → StandInOrder (map (record_of n) told)
recorded n told ordered = pairs_to_map (λ (a b : Rec). IsBefore a.what b.what) (record_of n) told ordered

none_in_order : StandInOrder []
none_in_order = pairs_none (λ (a b : Rec). IsBefore a.what b.what)

pub records_in_order : (cause : Cause) (m : Machine) → StandInOrder (records_by cause m)
records_in_order cause m = by cause (record { machine = caused cause m; records = records_by cause m }) (case_of cause m)
  where
    by : (cause : Cause) (next : Recorded) → CauseCase m cause next → StandInOrder next.records
    by _ _ (Rests cause cursor reserved rest) = none_in_order
    by _ _ (Steps who t acts there case) =
        let told : IsTold (acted_if_there (turned_to who m) (Some t)) = acted_is_told (turned_to who m) (Some t) in
        let done = counted (turned_to who m) (Some t) (acted (turned_to who m) t) in
        recorded (m.steps + 1) (timed done).told (timed_ordered done (record { ordered = told.ordered; running = told.running }))
    by _ _ (Raises k claim e) = recorded m.steps (settled (pended k claim (unreserved m))).told (settled_ordered (pended k claim (unreserved m)))
    by _ _ (Kills pid e) = recorded m.steps (settled (death pid (unreserved m))).told (settled_ordered (death pid (unreserved m)))
