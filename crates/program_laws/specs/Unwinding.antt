-- Images that an unwinding exchanges: their starts are related. So two images are exchanged that differ in a secret sum alone.
use Rattle.std.specs.Prelude.{◌≡◌, ◌≢◌, ℕ, All, List, length, Some}
use Rattle.boot_plan.specs.Lawful.{CanStart, IsLawfulPlan}
use Rattle.boot_plan.specs.declared.plans.BootPlan.{BootPlan}
use Rattle.boot_plan.specs.declared.plans.PagePlan.{PagePlan}
use Rattle.boot_plan.specs.declared.plans.ProcPlan.{ProcPlan}
use Rattle.machine_model.specs.State.Machine.{Machine}
use Rattle.machine_model.specs.State.Threads.{first_thread, thread_id}
use Rattle.noninterference_laws.specs.Inside.{Group}
use Rattle.noninterference_laws.specs.SecretSum.{IsLoaded, entry, sum_place}
use Rattle.program_laws.specs.Exchanged.{DifferInGroup, FillAlike}
use Rattle.vm_memory.specs.FirstLedger.{planned_page, process_of}
use Rattle.xk_base.specs.declared.ids.Pid.{Pid}
use Rattle.xk_base.specs.declared.ids.Place.{Place}
use Rattle.xk_kernel.specs.Start.{start}

-- two images of one plan, which differ in nothing that a process outside the group starts with, and whose starts are related
pub record StartRelated (group : Group) (related : Machine → Machine → Type 0) (plan : BootPlan) (one other : List ℕ) : Type 0 where
  pub lawful : IsLawfulPlan (length one) plan
  pub can_start : All CanStart plan.procs
  pub differ : DifferInGroup group plan one other
  pub starts : related (start plan one) (start plan other)

-- both files have the same bytes for each page of the plan but that of the sum
abbrev pub DifferInSumPage : Pid → BootPlan → List ℕ → List ℕ → Type 0
DifferInSumPage pid plan one other =
    (place : Place) (process : ProcPlan) (page : PagePlan) → place ≢ sum_place pid → process_of plan place.pid.0 ≡ Some process
    → planned_page place.vpn.0 process ≡ Some page → FillAlike page one other

-- Two images of one plan, which differ in the page of the sum alone: the process is loaded with the program that keeps a sum, and its
-- first thread begins with the first line.
pub record StartWithSums (pid : Pid) (plan : BootPlan) (one other : List ℕ) : Type 0 where
  pub lawful : IsLawfulPlan (length one) plan
  pub can_start : All CanStart plan.procs
  pub loaded : IsLoaded (start plan one).ledger pid
  pub begins : (start plan one).threads (thread_id pid 2) ≡ Some (first_thread entry)
  pub differ : DifferInSumPage pid plan one other
