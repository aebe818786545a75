-- Two histories of one list of events, from states that are the same but for bytes of pages: while no process does a step that
-- can load a page which differs then, they have the same records, and the same states but for the bytes of pages.
use Rattle.std.specs.Prelude.{◌≡◌, ℕ, List, slice_get, Some}
use Rattle.xk_base.specs.declared.events.Event.{Event}
use Rattle.confidentiality_laws.specs.TwoRuns.{ActsAlike}
use Rattle.machine_model.specs.Runs.Isolation.{without_bytes}
use Rattle.machine_model.specs.Runs.Moments.{ByStep, Moment, state_at}
use Rattle.machine_model.specs.State.Machine.{Machine}
use Rattle.machine_laws.specs.History.{History}
use Rattle.machine_laws.specs.HistoryMoments.{moments_of}

-- The starts are the same but for bytes of pages, and at each step of the first history the process of that step can load no page
-- that differs from the other history at that moment. Events and the ends of turns are free.
pub record StartSideBySide (events : List Event) (limit : ℕ) (m n : Machine) : Type 0 where
  pub but_bytes : without_bytes m ≡ without_bytes n
  pub steps : (i : ℕ) (moment : Moment) → slice_get (moments_of events limit m) i ≡ Some moment → moment.cause ≡ ByStep
      → ActsAlike (state_at m (moments_of events limit m) i) (state_at n (moments_of events limit n) i)

-- two histories have the same records, met the limit alike, and end in states that are the same but for bytes of pages
pub record TellTheSame (one other : History) : Type 0 where
  pub records : one.records ≡ other.records
  pub met : one.met ≡ other.met
  pub last : without_bytes one.machine ≡ without_bytes other.machine
