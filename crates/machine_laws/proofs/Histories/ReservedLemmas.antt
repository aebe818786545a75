-- The reservation stays that of a thread that the machine can have.
use Rattle.std.proofs.Common.{◌≡◌, ℕ, Bool, true, false, List, Option, Some, None, refl, sym, ap, ◌∙◌}
use Rattle.std.specs.Prelude.{if◌then◌else◌}
use Rattle.std.proofs.lemmas.Option.{same_Some}
use Rattle.xk_base.specs.declared.events.Event.{Event}
use Rattle.xk_base.specs.declared.ids.ThreadId.{ThreadId}
use Rattle.xk_base.specs.declared.pages.Access.TheVariants.{Fetch}
use Rattle.xk_base.specs.declared.pages.Width.TheVariants.{Word}
use Rattle.xk_base.specs.declared.records.What.TheVariants.{End}
use Rattle.xk_base.specs.Calls.Registers.{reg_at}
use Rattle.xk_base.specs.Tables.Circle.{is_thread_id}
use Rattle.xk_base.specs.UserMemory.{Memory, number_at}
use Rattle.machine_model.specs.Ending.Closing.{closed, servers_closed, senders_queued_gone, senders_held_gone}
use Rattle.machine_model.specs.Ending.Ends.{death, forgotten, handler_ended, thread_ended}
use Rattle.machine_model.specs.Hart.Atomics.{Atomic, atomic_at, execute, execute_at, leaving, perform, reserves, unless_ended}
use Rattle.machine_model.specs.Hart.Instructions.{Executed, Next, Stores, StoresToConsole, StoresToTimer, CallsKernel, Traps, fetch_page_fault}
use Rattle.machine_model.specs.Runs.Matched.{Matched}
use Rattle.machine_model.specs.Runs.Moments.{Cause, caused}
use Rattle.machine_model.specs.State.Changes.{settled}
use Rattle.machine_model.specs.State.Machine.{Machine, Reservation, Thread}
use Rattle.machine_model.specs.State.Views.{stored, timer_set}
use Rattle.machine_model.specs.Stepping.Reservations.{reservation_of, unreserved}
use Rattle.machine_model.specs.Stepping.Step.{Recorded, acted, after, counted, ends_handler, ends_thread, executed, performed, reservation_left}
use Rattle.machine_model.proofs.Runs.TimerLemmas.{pended_raised, timed_raised}
use Rattle.machine_laws.proofs.Stepping.EveryStepLemmas.{every_cause_keeps}
use Rattle.machine_laws.proofs.Stepping.CauseCaseLemmas.{CauseCase, IsDead, Kills, NoneActs, Picks, Raises, RestCase, Rests, Steps, Turns, Unclaimed, case_of}
use Rattle.machine_laws.proofs.Threading.ThreadStepLemmas.{turned_to}
use Rattle.machine_laws.specs.History.{history}
use Rattle.machine_laws.specs.Records.{records_by}
use Rattle.machine_laws.specs.Reserved.{IsReservedByThread}
use Rattle.machine_laws.proofs.Histories.MomentLemmas.{history_keeps}

-- ---- one instruction

-- what it leaves of a reservation is what it would leave, unless it ends
record IsLeaving (reserved : Option ℕ) (e : Executed) : Type 0 where
  left : Option ℕ
  is : reserved ≡ unless_ended left e

leaves : (regs : List ℕ) (pc : ℕ) (reserved : Option ℕ) (mem : Memory)
    → IsLeaving (execute_at regs pc reserved mem).reserved (execute_at regs pc reserved mem).executed
unfolding execute_at execute
leaves regs pc reserved mem = go (mem.may Fetch pc) (atomic_at (number_at mem.byte pc Word))
  where
    go : (b : Bool) (o : Option Atomic)
        → IsLeaving (if b then perform mem regs pc (number_at mem.byte pc Word) reserved o else leaving reserved (Traps fetch_page_fault pc)).reserved
        (if b then perform mem regs pc (number_at mem.byte pc Word) reserved o else leaving reserved (Traps fetch_page_fault pc)).executed
    go false o = record { left = reserved; is = refl }
    go true None = record { left = reserved; is = refl }
    go true (Some atomic) = record { left = reserves regs reserved atomic; is = refl }

-- where it leaves one, it doesn't end
goes_on : (m : Machine) (t : Thread) (left : Option ℕ) (a : ℕ) (e : Executed) → unless_ended left e ≡ Some a
    → (executed m t e).machine.processes ≡ m.processes
unfolding stored timer_set
goes_on m t left a (Next regs pc) h = refl
goes_on m t left a (Stores address width value regs pc) h = refl
goes_on m t left a (StoresToConsole offset value regs pc) h = refl
goes_on m t left a (StoresToTimer offset width value regs pc) h = refl
goes_on m t left a CallsKernel h = absurd (cc)
goes_on m t left a (Traps cause value) h = absurd (cc)

-- ---- one step

-- the reservation is the thread's own, and there are as many processes as before
record IsOwn (who : ThreadId) (processes : ℕ) (r : Reservation) (m : Machine) : Type 0 where
  own : r.who ≡ who
  same : m.processes ≡ processes

module _ (m : Machine) (t : Thread) (r : Reservation) where
  by_performed : (o : Option ℕ) → (performed m m.cursor t).reserved ≡ o → reservation_of m.cursor o ≡ Some r
      → IsOwn m.cursor m.processes r (executed m t (performed m m.cursor t).executed).machine
  by_performed None e h = absurd (cc)
  by_performed (Some a) e h =
      let p : IsLeaving (performed m m.cursor t).reserved (performed m m.cursor t).executed = leaves t.regs t.pc _ _ in
      record {
        own = sym (ap (λ (x : Reservation). x.who) (same_Some (record { who = m.cursor; address = a }) r h));
        same = goes_on m t p.left a (performed m m.cursor t).executed (sym p.is ∙ e);
      }

  acted_own : reservation_left m t ≡ Some r → IsOwn m.cursor m.processes r (acted m t).machine
  acted_own = go (ends_thread m.cursor t.pc) (ends_handler m.cursor t.pc)
    where
      go : (a b : Bool) → (if a then None else (if b then None else reservation_of m.cursor (performed m m.cursor t).reserved)) ≡ Some r
          → IsOwn m.cursor m.processes r (if a then after (End m.cursor) (settled (thread_ended m.cursor (reg_at t.regs 10) m)) else (
          if b then after (End m.cursor) (settled (handler_ended m.cursor.pid m)) else
          executed m t (performed m m.cursor t).executed)).machine
      go true b h = absurd (cc)
      go false true h = absurd (cc)
      go false false h = by_performed (performed m m.cursor t).reserved refl h

-- ---- any cause

pub cause_reserved : (cause : Cause) (m : Machine) → Matched m → IsReservedByThread m → IsReservedByThread (caused cause m)
unfolding settled death servers_closed closed senders_queued_gone senders_held_gone forgotten
cause_reserved cause m h c = by cause (record { machine = caused cause m; records = records_by cause m }) (case_of cause m)
  where
    rests : (cause : Cause) (cursor : ThreadId) (reserved : Option Reservation) → RestCase m cause cursor reserved
        → IsReservedByThread (record m { cursor = cursor; reserved = reserved })
    rests _ _ _ (NoneActs e) = c
    rests _ _ _ (Picks who) = c
    rests _ _ _ (Unclaimed k e) = λ r q. absurd (let d : None ≡ Some r = q in cc)
    rests _ _ _ (IsDead pid e) = λ r q. absurd (let d : None ≡ Some r = q in cc)
    rests _ _ _ Turns = c

    by : (cause : Cause) (next : Recorded) → CauseCase m cause next → IsReservedByThread next.machine
    by _ _ (Rests cause cursor reserved rest) = rests cause cursor reserved rest
    by _ _ (Steps who t acts there case) = λ r q.
        let turned : Machine = turned_to who m in
        let is = (timed_raised (counted turned (Some t) (acted turned t))).is in
        let own : IsOwn who m.processes r (acted turned t).machine = acted_own turned t r (sym (ap (λ (x : Machine). x.reserved) is) ∙ q) in
        (λ i. is_thread_id ((ap (λ (x : Machine). x.processes) is ∙ own.same) i) (own.own i)) ∙ h.body.ids.known who t there
    by _ _ (Raises k claim e) = λ r q.
        absurd (let d : None ≡ Some r = sym (ap (λ (n : Machine). n.reserved) (pended_raised k claim (unreserved m)).is) ∙ q in cc)
    by _ _ (Kills pid e) = λ r q. absurd (let d : None ≡ Some r = q in cc)

-- ---- histories

both_kept : (cause : Cause) (m : Machine) → Matched m × IsReservedByThread m → Matched (caused cause m) × IsReservedByThread (caused cause m)
both_kept cause m h = (every_cause_keeps cause m h.0, cause_reserved cause m h.0 h.1)

pub history_reserved : (events : List Event) (limit : ℕ) (start : Machine) → Matched start → IsReservedByThread start
    → IsReservedByThread (history events limit start).machine
history_reserved events limit start h c =
    let P : Machine → Type 0 = λ (m : Machine). Matched m × IsReservedByThread m in
    (history_keeps P both_kept events limit start (h, c)).1
