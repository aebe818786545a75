-- A service that is exchanged: one plan with two files that differ in nothing but the pages of a group of processes.
use Rattle.std.specs.Prelude.{◌≡◌, ◌+◌, ◌<◌, ℕ, false, All, List, length, Some, slice_index}
use Rattle.xk_base.specs.declared.events.Event.{Event}
use Rattle.boot_plan.specs.Lawful.{CanStart, IsLawfulPlan}
use Rattle.boot_plan.specs.declared.plans.BootPlan.{BootPlan}
use Rattle.boot_plan.specs.declared.plans.PagePlan.{PagePlan}
use Rattle.boot_plan.specs.declared.plans.ProcPlan.{ProcPlan}
use Rattle.event_text.specs.EventFile.{input_of}
use Rattle.machine_laws.specs.History.{history}
use Rattle.noninterference_laws.specs.Inside.{Group, SameButInside}
use Rattle.noninterference_laws.specs.TwoInsides.{ActAlong, TellTheSameOutside}
use Rattle.vm_memory.specs.FirstLedger.{planned_page, process_of}
use Rattle.xk_kernel.specs.Start.{start}
use Rattle.event_player.specs.History.{run_of}
use Rattle.event_player.specs.Telling.{output}
use Rattle.event_player.specs.declared.telling.Telling.{Telling}

-- ---- what differs

-- both files have the same bytes for a page of the plan
abbrev pub FillAlike : PagePlan → List ℕ → List ℕ → Type 0
FillAlike page one other =
    (offset : ℕ) → offset < page.len → slice_index one (page.from + offset) ≡ slice_index other (page.from + offset)

-- Two files for one plan, which differ in nothing that a process outside the group starts with: so in the code and the data of the group
-- alone, and in what no page has.
abbrev pub DifferInGroup : Group → BootPlan → List ℕ → List ℕ → Type 0
DifferInGroup group plan one other =
    (pid : ℕ) (process : ProcPlan) (vpn : ℕ) (page : PagePlan) → process_of plan pid ≡ Some process → group pid ≡ false
    → planned_page vpn process ≡ Some page → FillAlike page one other

-- two runs of one plan with such files, over one list of events, in which the group acts alike
pub record IsExchanged (group : Group) (plan : BootPlan) (one other : List ℕ) (events : List Event) (limit : ℕ) : Type 0 where
  pub lawful : IsLawfulPlan (length one) plan
  pub can_start : All CanStart plan.procs
  pub differ : DifferInGroup group plan one other
  pub acts : ActAlong group events limit (start plan one) (start plan other)

-- ---- the laws

abbrev pub StartsAreAlike : Type 0
StartsAreAlike =
    (group : Group) (plan : BootPlan) (one other : List ℕ) → DifferInGroup group plan one other
    → SameButInside group (start plan one) (start plan other)

abbrev pub HistoriesAreAlike : Type 0
HistoriesAreAlike =
    (group : Group) (plan : BootPlan) (one other : List ℕ) (events : List Event) (limit : ℕ) → IsExchanged group plan one other events limit
    → TellTheSameOutside group (history events limit (start plan one)) (history events limit (start plan other))

-- what a command writes of an event file, and how the file ends
pub record WriteAlike (plan : BootPlan) (one other events : List ℕ) (limit : ℕ) : Type 0 where
  pub written : (tells : Telling) → output tells (run_of limit (start plan one) events) ≡ output tells (run_of limit (start plan other) events)
  pub ended : (run_of limit (start plan one) events).ending ≡ (run_of limit (start plan other) events).ending

abbrev pub OutputsAreAlike : Type 0
OutputsAreAlike =
    (group : Group) (plan : BootPlan) (one other events : List ℕ) (limit : ℕ)
    → IsExchanged group plan one other (input_of events).events limit → WriteAlike plan one other events limit
