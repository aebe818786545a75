-- The balance of a history, and that an Idle interrupt thread has nothing pending.
use Rattle.std.proofs.Common.{◌≡◌, ℕ, ◌+◌, true, false, List, length, Some, refl, sym, ap, ◌∙◌, subst}
use Rattle.std.specs.Option.{option_map_or}
use Rattle.std.proofs.lemmas.Bool.{false_from_ne_true, false≢true}
use Rattle.xk_base.specs.declared.events.Event.{Event}
use Rattle.xk_base.specs.declared.ids.ThreadId.{ThreadId}
use Rattle.xk_base.specs.declared.records.Rec.{Rec}
use Rattle.xk_base.proofs.CircleLemmas.{same_ids}
use Rattle.machine_model.specs.Runs.Matched.{Matched}
use Rattle.machine_model.specs.Runs.Moments.{state_at}
use Rattle.machine_model.specs.State.Machine.{Idle, Machine, Thread}
use Rattle.machine_model.specs.State.Threads.{thread_id}
use Rattle.machine_model.specs.Stepping.Interrupts.{is_free_for_interrupt, is_idle}
use Rattle.machine_model.proofs.State.StartLemmas.{start_matched}
use Rattle.machine_laws.proofs.Stepping.EveryStepLemmas.{every_run_keeps}
use Rattle.machine_laws.specs.History.{history}
use Rattle.machine_laws.specs.HistoryMoments.{moments_of}
use Rattle.machine_laws.proofs.Histories.MomentLemmas.{history_is_run, history_last}
use Rattle.machine_laws.proofs.Histories.RecordLemmas.{history_tells}
use Rattle.transcript_laws.specs.Stuck.{WaitsFor}
use Rattle.interrupt_laws.specs.Balance.{given_up, merges}
use Rattle.interrupt_laws.specs.Busy.{PendingMeansBusy}
use Rattle.interrupt_laws.specs.Delivering.{deliveries, once_if, raises}
use Rattle.interrupt_laws.proofs.BusyRunLemmas.{pending_stays_busy, starts_busy}
use Rattle.interrupt_laws.proofs.EvenRunLemmas.{no_interrupt_is_lost}
use Rattle.laws.specs.Interrupts.{HistoriesAreBalanced, IdleAtTheEnd, IdleMeansNothingPending, IdleSinceBoot, IdleSinceBusy}

-- ---- the balance

module _ (k : ℕ) (events : List Event) (limit : ℕ) (start : Machine) where
  -- the balance, by these records and this last state
  abbrev Balance : List Rec → Machine → Type 0
  Balance records last =
      once_if (start.pending k) + raises k start (moments_of events limit start)
      ≡ deliveries k records + merges k start (moments_of events limit start) + given_up k start (moments_of events limit start)
      + once_if (last.pending k)

  history_balanced : Matched start → Balance (history events limit start).records (history events limit start).machine
  history_balanced h =
      subst (Balance (history events limit start).records) (history_last events limit start)
      (subst (λ (records : List Rec). Balance records (state_at start (moments_of events limit start) (length (moments_of events limit start))))
      (sym (history_tells events limit start))
      (no_interrupt_is_lost k start (moments_of events limit start) h (history_is_run events limit start)))

pub histories_are_balanced : HistoriesAreBalanced
histories_are_balanced k events limit start h = history_balanced k events limit start h

-- ---- who waits for an interrupt

module _ (m : Machine) (h : Matched m) (busy : PendingMeansBusy m) where
  idle_is_free : (who : ThreadId) (thread : Thread) → m.threads who ≡ Some thread → thread.state ≡ Idle → who.tid.0 ≡ 1
      → is_free_for_interrupt m who.pid ≡ true
  idle_is_free who thread there idle low =
      ap (λ id. option_map_or (λ (t : Thread). is_idle t.state) (m.threads id) false) (same_ids (thread_id who.pid 1) who refl (sym low))
      ∙ (ap (λ o. option_map_or (λ (t : Thread). is_idle t.state) o false) there ∙ ap is_idle idle)

  nothing_pending : IdleMeansNothingPending m
  nothing_pending who thread there idle =
      let first : who.tid.0 ≡ 1 = (h.body.threads.idle who thread there idle).0 in (
        subst (WaitsFor m who) (sym idle) first,
        λ k claim claimed own.
            false_from_ne_true (m.pending k)
            (λ pending.
            false≢true (sym (busy k claim claimed pending) ∙ (ap (is_free_for_interrupt m) own ∙ idle_is_free who thread there idle first))),
      )

pub idle_since_busy : IdleSinceBusy
idle_since_busy events limit start h busy i =
    nothing_pending (state_at start (moments_of events limit start) i)
    (every_run_keeps start (moments_of events limit start) h (history_is_run events limit start) i)
    (pending_stays_busy start (moments_of events limit start) h busy (history_is_run events limit start) i)

pub idle_since_boot : IdleSinceBoot
idle_since_boot events limit start begins = idle_since_busy events limit start (start_matched start begins) (starts_busy start begins)

pub idle_at_the_end : IdleAtTheEnd
idle_at_the_end events limit start begins =
    subst IdleMeansNothingPending (history_last events limit start)
    (idle_since_boot events limit start begins (length (moments_of events limit start)))
