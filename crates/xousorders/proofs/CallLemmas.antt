-- How a call ends, by what its parts say.
use Rattle.std.proofs.Common.{◌≡◌, ◌≤◌, ◌⊎◌, inl, inr, ℕ, Bool, true, false, List, None, Option, Some, IsSome, is_some, refl, sym, ap, subst, ◌∙◌}
use Rattle.std.proofs.lemmas.Bool.{false≢true}
use Rattle.std.specs.declared.cmp.Ordering.{Ordering}
use Rattle.boot_plan.specs.ImageFault.{IsImageFault}
use Rattle.host_io.specs.Reading.{IsFile}
use Rattle.program_status.specs.Notes.{SinkSide}
use Rattle.program_status.specs.Plans.{RefusesBytes}
use Rattle.program_status.specs.declared.status.Status.{Status}
use Rattle.program_status.specs.declared.status.Status.TheVariants.{Done, EventFault, ImageFault, NoMemory, ReadFault, StepLimit, SwapFault, Usage, WriteFault}
use Rattle.xk_base.specs.Outside.{Rose}
use Rattle.order_search.specs.declared.quest.OrderFault.TheVariants.{Timer as TimerFault}
use Rattle.order_search.specs.declared.subject.Subject.{Subject}
use Rattle.order_search.specs.Faults.{IsFault}
use Rattle.xousorders.specs.Asked.{Asking, HostFiles, IsAsked, IsTooLong, RefusesEvents, RefusesImage, Stops}
use Rattle.xousorders.specs.Calls.{AreTold, Command, Ends, EndsEarly, EndsHalted, Sides, WritesFiles, outcome_in, sink_in}
use Rattle.xousorders.specs.Failures.{asks_failure, tells_failure}
use Rattle.xousorders.specs.Halts.{EndsIn, IsBreak, IsHalt, outcome_for}
use Rattle.xousorders.specs.Levels.{Account}
use Rattle.xousorders.specs.Outcomes.{IsUnfiled, is_whole, outcome_of, passed}
use Rattle.xousorders.specs.Reports.{Report}
use Rattle.xousorders.specs.Searched.{IsStopped}
use Rattle.xousorders.proofs.FailureLemmas.{failure_told, is_cut, passes_unasked, passes_whole}
use Rattle.xousorders.proofs.SinkLemmas.{rose_before}
use Rattle.xousorders.specs.declared.halt.Halt.{Halt}
use Rattle.xousorders.specs.declared.halt.Halt.TheVariants.{Stopped, Timer, Unwritten}
use Rattle.xousorders.specs.declared.limits.Limits.{Limits}
use Rattle.xousorders.specs.declared.outcome.Outcome.{Outcome}
use Rattle.xousorders.specs.declared.outcome.Outcome.TheVariants.{Ended}
use Rattle.xousorders.specs.declared.view.View.{View}

-- ---- why nothing is told

-- a folder that failed later
pub unfiled_later : (old mid new : ℕ) → old ≤ mid → (status : Status) → IsUnfiled (Rose mid new) status → IsUnfiled (Rose old new) status
unfiled_later old mid new later WriteFault why = rose_before old mid new later why
unfiled_later old mid new later NoMemory why = tt
unfiled_later old mid new later Done why = absurd why
unfiled_later old mid new later SwapFault why = absurd why
unfiled_later old mid new later Usage why = absurd why
unfiled_later old mid new later ReadFault why = absurd why
unfiled_later old mid new later (ImageFault fault) why = absurd why
unfiled_later old mid new later (EventFault line) why = absurd why
unfiled_later old mid new later (StepLimit limit) why = absurd why

-- the events before are read behind the image
module _ (files behind : HostFiles) (name : Option (List ℕ)) (old mid new : ℕ) (same : behind ≡ files) (later : old ≤ mid) where
  unread : Rose mid new ⊎ IsTooLong behind name → Rose old new ⊎ IsTooLong files name
  unread (inl rose) = inl (rose_before old mid new later rose)
  unread (inr long) = inr (subst (λ (fs : HostFiles). IsTooLong fs name) same long)

  pub events_refused : (status : Status) → RefusesEvents behind name (Rose mid new) status → RefusesEvents files name (Rose old new) status
  events_refused ReadFault why = unread why
  events_refused NoMemory why = tt
  events_refused Done why = absurd why
  events_refused SwapFault why = absurd why
  events_refused Usage why = absurd why
  events_refused WriteFault why = absurd why
  events_refused (ImageFault fault) why = absurd why
  events_refused (EventFault line) why = absurd why
  events_refused (StepLimit limit) why = absurd why

module _ (files : HostFiles) (asking : Asking) (rose unopened : Type 0) where
  pub image_stops : (status : Status) → RefusesImage files asking.image rose status → Stops files asking rose unopened status
  image_stops (ImageFault fault) why = why
  image_stops ReadFault why = inl why
  image_stops NoMemory why = tt
  image_stops Done why = absurd why
  image_stops SwapFault why = absurd why
  image_stops Usage why = absurd why
  image_stops WriteFault why = absurd why
  image_stops (EventFault line) why = absurd why
  image_stops (StepLimit limit) why = absurd why

  pub bytes_stop : (image bytes : List ℕ) → IsFile files asking.image image → bytes ≡ image → (status : Status) → RefusesBytes bytes None status
      → Stops files asking rose unopened status
  bytes_stop image bytes read same (ImageFault fault) why =
      (image, read, subst (λ (b : List ℕ). IsImageFault b None (Some fault)) same why)
  bytes_stop image bytes read same NoMemory why = tt
  bytes_stop image bytes read same Done why = absurd why
  bytes_stop image bytes read same SwapFault why = absurd why
  bytes_stop image bytes read same Usage why = absurd why
  bytes_stop image bytes read same ReadFault why = absurd why
  bytes_stop image bytes read same WriteFault why = absurd why
  bytes_stop image bytes read same (EventFault line) why = absurd why
  bytes_stop image bytes read same (StepLimit limit) why = absurd why

  pub events_stop : (status : Status) → RefusesEvents files asking.before rose status → Stops files asking rose unopened status
  events_stop ReadFault why = why
  events_stop NoMemory why = tt
  events_stop Done why = absurd why
  events_stop SwapFault why = absurd why
  events_stop Usage why = absurd why
  events_stop WriteFault why = absurd why
  events_stop (ImageFault fault) why = absurd why
  events_stop (EventFault line) why = absurd why
  events_stop (StepLimit limit) why = absurd why

  pub stopped_stops : (asked : Subject) → IsAsked files asking asked → (status : Status) → IsStopped asked status
      → Stops files asking rose unopened status
  stopped_stops asked is_asked (StepLimit limit) why = record { asked = asked; is_asked = is_asked; why = why }
  stopped_stops asked is_asked (EventFault line) why = record { asked = asked; is_asked = is_asked; why = why }
  stopped_stops asked is_asked NoMemory why = tt
  stopped_stops asked is_asked Done why = absurd why
  stopped_stops asked is_asked SwapFault why = absurd why
  stopped_stops asked is_asked Usage why = absurd why
  stopped_stops asked is_asked ReadFault why = absurd why
  stopped_stops asked is_asked WriteFault why = absurd why
  stopped_stops asked is_asked (ImageFault fault) why = absurd why

  -- it isn't for the folder
  pub stops_so : (status : Status) → Stops files asking rose ⊥ status → Stops files asking rose unopened status
  stops_so (ImageFault fault) why = why
  stops_so ReadFault why = why
  stops_so (EventFault line) why = why
  stops_so (StepLimit limit) why = why
  stops_so NoMemory why = tt
  stops_so WriteFault why = absurd why
  stops_so Done why = absurd why
  stops_so SwapFault why = absurd why
  stops_so Usage why = absurd why

-- ---- faults of a search

pub stopped_of : (s later : Subject) → s ≡ later → (status : Status) → IsStopped s status → IsStopped later status
stopped_of s later same status why = subst (λ (x : Subject). IsStopped x status) same why

-- orders with a bound don't end for a claim of the timer's interrupt
no_claim : (s : Subject) → IsFault s TimerFault → IsSome s.orders.bound → ⊥
no_claim s why bound = false≢true (ap is_some (sym why.0) ∙ bound)

pub break_bounded : (s : Subject) (rose : Type 0) → IsSome s.orders.bound → (halt : Halt) → IsHalt s rose halt → IsBreak s rose halt
break_bounded s rose bound Timer why = no_claim s why bound
break_bounded s rose bound (Stopped status) why = why
break_bounded s rose bound Unwritten why = why

-- another cause than such a claim
pub break_other : (s : Subject) (rose : Type 0) (halt : Halt) → (halt ≡ Timer → ⊥) → IsHalt s rose halt → IsBreak s rose halt
break_other s rose Timer other why = other refl
break_other s rose (Stopped status) other why = why
break_other s rose Unwritten other why = why

-- ---- how a call ends

module _ (cmp : List ℕ → List ℕ → Ordering) (limits : Limits) (view : View) (s : Subject) (sink : SinkSide) where
  none_done : EndsIn cmp limits view s sink (Stopped Done) → ⊥
  none_done (inl course) = course.why
  none_done (inr report) = let same : Stopped Done ≡ Unwritten = report.0 in cc

  none_timer : EndsIn cmp limits view s sink Timer → ⊥
  none_timer (inl course) = course.why
  none_timer (inr report) = let same : Timer ≡ Unwritten = report.0 in cc

module _ (cmp : List ℕ → List ℕ → Ordering) (command : Command) (sides : Sides) where
  not_done : EndsEarly cmp command sides Done → ⊥
  not_done (inl untold) = untold.stops
  not_done (inr (inl halted)) = none_done cmp command.limits command.view halted.asked (sink_in sides) halted.ends
  not_done (inr (inr unfiled)) = unfiled.unfiled

  -- early
  pub early_ends : (status : Status) → EndsEarly cmp command sides status → Ends cmp command sides (Ended status)
  early_ends Done early = absurd (not_done early)
  early_ends WriteFault early = inr early
  early_ends SwapFault early = early
  early_ends Usage early = early
  early_ends ReadFault early = early
  early_ends (ImageFault fault) early = early
  early_ends (EventFault line) early = early
  early_ends (StepLimit limit) early = early
  early_ends NoMemory early = early

  -- in searches
  pub halted_ends : (halt : Halt) → EndsHalted cmp command sides halt → Ends cmp command sides (outcome_for halt)
  halted_ends Timer halted = absurd (none_timer cmp command.limits command.view halted.asked (sink_in sides) halted.ends)
  halted_ends (Stopped status) halted = early_ends status (inr (inl halted))
  halted_ends Unwritten halted = inl halted

  -- with all told
  pub told_ends : (account : Account) (outcome : Outcome) → AreTold cmp command sides account → WritesFiles command sides account.last.report
      → outcome ≡ outcome_in command.view account.last.report → Ends cmp command sides outcome
  told_ends account outcome told filed is = subst (Ends cmp command sides) (sym is) (go tells refl)
    where
      report : Report
      report = account.last.report

      tells : Bool
      tells = tells_failure command.view.fails.items command.view.differ account.last.report.endings.list.items

      asks : Bool
      asks = asks_failure command.view.fails.items command.view.differ

      whole : Bool
      whole = is_whole account.last.report.finding.extent

      by : tells ≡ false → (a w : Bool) → asks ≡ a → whole ≡ w → Ends cmp command sides (passed a w)
      by none true true e f =
          record { account = account; told = told; filed = filed; is = passes_whole command.view report none cmp command.limits told.right.last.so f }
      by none false w e f =
          record { account = account; told = told; filed = filed; is = passes_unasked command.view report none cmp command.limits told.right.last.so e }
      by none true false e f =
          record { account = account; told = told; filed = filed; is = is_cut command.view report none cmp command.limits told.right.last.so e f }

      go : (t : Bool) → tells ≡ t → Ends cmp command sides (outcome_of t asks whole)
      go true e = record { account = account; told = told; filed = filed; is = failure_told command.view report e }
      go false e = by e asks whole refl refl
