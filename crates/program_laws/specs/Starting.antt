-- How runs begin: in the first state of a plan, or in the state that a file spells. Each state of each history from there is one that
-- state bytes spell.
use Rattle.std.specs.Prelude.{◌≡◌, ◌⊎◌, ℕ, ◌<◌, ◌≤◌, All, List, length}
use Rattle.xk_base.specs.declared.events.Event.{Event}
use Rattle.boot_plan.specs.declared.plans.BootPlan.{BootPlan}
use Rattle.boot_plan.specs.Lawful.{CanStart, IsLawfulPlan}
use Rattle.machine_model.specs.Runs.Moments.{state_at}
use Rattle.machine_model.specs.State.Machine.{Machine}
use Rattle.machine_laws.specs.History.{history}
use Rattle.machine_laws.specs.HistoryMoments.{moments_of}
use Rattle.resume_path.specs.Resumable.{CanSplit, IsResumable}
use Rattle.snapshot_rows.specs.declared.state.State.{State}
use Rattle.snapshot_rows.specs.Machines.{machine_of}
use Rattle.suspend_image.specs.Saveable.{IsSpellable}
use Rattle.snapshot_laws.specs.Words.{greatest}
use Rattle.xk_kernel.specs.Start.{start}
use Rattle.xk_base.specs.declared.limits.TheConstants.{STEP_LIMIT}

-- ---- beginnings

-- the machine starts in the first state of a lawful plan of a file's bytes, whose processes can start at entries that are words
pub record StartsIn (m : Machine) : Type 0 where
  pub plan : BootPlan
  pub file : List ℕ
  pub bytes : All (λ b. b < 256) file
  pub lawful : IsLawfulPlan (length file) plan
  pub can : All CanStart plan.procs
  pub entries : All (λ process. process.entry ≤ greatest) plan.procs
  pub start : m ≡ start plan file

-- it goes on from the state that a file of bytes spells, whose pages can be split into frames and slots
pub record GoesOnFrom (m : Machine) : Type 0 where
  pub file : List ℕ
  pub state : State
  pub bytes : All (λ b. b < 256) file
  pub resumable : IsResumable file state
  pub slots : ℕ
  pub split : CanSplit state slots
  pub resumed : m ≡ machine_of file state

abbrev pub Begins : Machine → Type 0
Begins m = StartsIn m ⊎ GoesOnFrom m

-- ---- the states behind them

-- the first
abbrev pub BeginsSpellable : Type 0
BeginsSpellable = (m : Machine) → Begins m → IsSpellable m

-- each one of every history up to a limit
abbrev pub EveryStateSpellable : Type 0
EveryStateSpellable =
    (m : Machine) → Begins m → (events : List Event) (limit : ℕ) → m.steps ≤ limit → limit ≤ STEP_LIMIT → (i : ℕ)
    → IsSpellable (state_at m (moments_of events limit m) i)

-- .. and its last
abbrev pub EveryLastSpellable : Type 0
EveryLastSpellable =
    (m : Machine) → Begins m → (events : List Event) (limit : ℕ) → m.steps ≤ limit → limit ≤ STEP_LIMIT
    → IsSpellable (history events limit m).machine
