-- Two runs side by side, over one list of causes, from states that differ only in bytes of pages: while no process does a step that
-- can load a page which differs then, the runs have the same records, and the same states but for the bytes of pages.
use Rattle.std.specs.Prelude.{◌≡◌, ℕ, List, map, slice_get, Some}
use Rattle.xk_base.specs.declared.ids.Pid.{Pid}
use Rattle.xk_base.specs.declared.ids.Place.{Place}
use Rattle.xk_base.specs.declared.ids.ThreadId.{ThreadId}
use Rattle.xk_base.specs.declared.pages.Access.TheVariants.{Load}
use Rattle.ledger_model.specs.Ledger.{PageName, contents_of}
use Rattle.ledger_model.specs.Reach.{reach}
use Rattle.machine_model.specs.Runs.Isolation.{without_bytes}
use Rattle.machine_model.specs.Runs.Moments.{ByStep, Moment, IsRun, state_at}
use Rattle.machine_model.specs.State.Machine.{Machine}
use Rattle.machine_model.specs.State.Order.{actor}
use Rattle.machine_laws.specs.Records.{records_of}

-- ---- side by side

-- each page that the process can load in the one state holds the same in the other: it can load no page that differs
abbrev pub LoadsAlike : Pid → Machine → Machine → Type 0
LoadsAlike pid m n =
    (place : Place) (page : PageName) → place.pid ≡ pid → reach m.processes m.ledger place Load ≡ Some page
    → contents_of m.ledger page ≡ contents_of n.ledger page

-- .. and so it is of the process that does the next step
abbrev pub ActsAlike : Machine → Machine → Type 0
ActsAlike m n = (who : ThreadId) → actor m ≡ Some who → LoadsAlike who.pid m n

-- Two runs of the same causes from states that are the same but for bytes, and in each step the process can load no page that
-- differs from the other run at that moment. Events and the ends of turns are free.
pub record IsSideBySide (m n : Machine) (moments others : List Moment) : Type 0 where
  pub run : IsRun m moments
  pub other : IsRun n others
  pub causes : map (λ moment. moment.cause) moments ≡ map (λ moment. moment.cause) others
  pub but_bytes : without_bytes m ≡ without_bytes n
  pub steps : (i : ℕ) (moment : Moment) → slice_get moments i ≡ Some moment → moment.cause ≡ ByStep
      → ActsAlike (state_at m moments i) (state_at n others i)

-- they have the same records
abbrev pub RunsTellTheSame : Type 0
RunsTellTheSame =
    (m n : Machine) (moments others : List Moment) → IsSideBySide m n moments others → records_of m moments ≡ records_of n others

-- .. and each state of the one is that of the other but for the bytes of pages
abbrev pub RunsAreSameButBytes : Type 0
RunsAreSameButBytes =
    (m n : Machine) (moments others : List Moment) → IsSideBySide m n moments others
    → (i : ℕ) → without_bytes (state_at m moments i) ≡ without_bytes (state_at n others i)
