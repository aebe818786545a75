-- What holds of every run holds of every history, whose moments are a run.
use Rattle.std.proofs.Common.{◌≡◌, ℕ, ◌+◌, ◌≤◌, List, length, slice_get, Some, sym, subst}
use Rattle.xk_base.specs.declared.events.Event.{Event}
use Rattle.xk_base.specs.declared.ids.Number.{Number}
use Rattle.xk_base.specs.declared.records.Rec.{Rec}
use Rattle.machine_model.specs.Runs.LoanSpan.{LoanSpan, SpansHold}
use Rattle.machine_model.specs.Runs.Matched.{Matched}
use Rattle.machine_model.specs.Runs.Moments.{Moment, state_at}
use Rattle.machine_model.specs.Runs.Reserving.{IsSucceeding}
use Rattle.machine_model.specs.State.Machine.{Machine, Reservation}
use Rattle.machine_laws.proofs.Stepping.EveryStepLemmas.{every_cause_keeps}
use Rattle.confidentiality_laws.specs.Differences.{OnlyMovesDifferences}
use Rattle.confidentiality_laws.proofs.Spreading.RunLemmas.{run_moves}
use Rattle.loan_laws.proofs.Fates.CauseFateLemmas.{all_have_fates}
use Rattle.loan_laws.proofs.Spans.RunSpanLemmas.{spans_hold}
use Rattle.interrupt_laws.specs.TimerLaw.{TimerLaw}
use Rattle.interrupt_laws.proofs.Runs.RunLemmas.{timer_holds}
use Rattle.interrupt_laws.specs.Delivering.{deliveries, once_if, raises}
use Rattle.interrupt_laws.proofs.RunLemmas.{delivered_at_most_once}
use Rattle.machine_laws.specs.History.{history}
use Rattle.machine_laws.specs.HistoryMoments.{moments_of}
use Rattle.confidentiality_laws.specs.TwoHistories.{StartSideBySide}
use Rattle.machine_laws.proofs.Histories.MomentLemmas.{history_is_run, history_last}
use Rattle.machine_laws.proofs.Histories.RecordLemmas.{history_tells}
use Rattle.confidentiality_laws.proofs.Histories.SideBySideLemmas.{side_by_side}
use Rattle.laws.specs.Standing.{IsReservedBefore}
use Rattle.laws.proofs.ReservedLemmas.{every_reservation_holds}

pub run_spans : SpansHold
run_spans = spans_hold every_cause_keeps all_have_fates

pub history_spans : (events : List Event) (limit : ℕ) (start : Machine) (number : Number) → Matched start
    → LoanSpan start (moments_of events limit start) number
history_spans events limit start number h = run_spans start (moments_of events limit start) number h (history_is_run events limit start)

pub history_moves : (events : List Event) (limit : ℕ) (m n : Machine) → StartSideBySide events limit m n → Matched m → (i : ℕ)
    → OnlyMovesDifferences m.ledger n.ledger (state_at m (moments_of events limit m) i).ledger (state_at n (moments_of events limit n) i).ledger
history_moves events limit m n beside h i =
    run_moves m n (moments_of events limit m) (moments_of events limit n) (side_by_side events limit m n beside) h i

pub history_timer : (events : List Event) (limit : ℕ) (start : Machine) → TimerLaw start (moments_of events limit start)
history_timer events limit start = timer_holds start (moments_of events limit start) (history_is_run events limit start)

pub history_delivers : (k : ℕ) (events : List Event) (limit : ℕ) (start : Machine)
    → deliveries k (history events limit start).records + once_if ((history events limit start).machine.pending k)
    ≤ raises k start (moments_of events limit start) + once_if (start.pending k)
history_delivers k events limit start =
    subst (λ (machine : Machine). deliveries k (history events limit start).records + once_if (machine.pending k) ≤ most) (history_last events limit start)
    (subst (λ (records : List Rec). deliveries k records + once_if (last.pending k) ≤ most) (sym (history_tells events limit start))
    (delivered_at_most_once k start (moments_of events limit start) (history_is_run events limit start)))
  where
    last : Machine
    last = state_at start (moments_of events limit start) (length (moments_of events limit start))

    most : ℕ
    most = raises k start (moments_of events limit start) + once_if (start.pending k)

pub history_reserves : (events : List Event) (limit : ℕ) (start : Machine) (i : ℕ) (moment : Moment) (r : Reservation)
    → slice_get (moments_of events limit start) i ≡ Some moment → IsSucceeding r (state_at start (moments_of events limit start) i) moment.cause
    → IsReservedBefore r start (moments_of events limit start) i
history_reserves events limit start i moment r there succeeds =
    every_reservation_holds start (moments_of events limit start) i moment r (history_is_run events limit start) there succeeds
