-- What memory and a kernel ask of a plan.
use Rattle.std.specs.Prelude.{◌≡◌, ◌≢◌, ◌≤◌, ℕ, ◌+◌, ◌*◌, ◌/◌, ◌%◌, length, IsTrue, IsSome, Some, All, Any, AllPairs}
use Rattle.xk_base.specs.Numbers.Limits.{table_frames}
use Rattle.xk_base.specs.Numbers.Windows.{window_at}
use Rattle.xk_base.specs.declared.windows.Window.TheVariants.{Heap}
use Rattle.boot_plan.specs.declared.plans.BootPlan.{BootPlan}
use Rattle.boot_plan.specs.declared.plans.ProcPlan.{ProcPlan}
use Rattle.boot_plan.specs.declared.plans.PagePlan.{PagePlan}
use Rattle.boot_plan.specs.Capacity.{capacity}
use Rattle.boot_plan.specs.FirstPages.{planned_pages}
use Rattle.xk_base.specs.declared.limits.TheConstants.{PROCESS_LIMIT}

-- the page lies in a window, and its bytes within a page and within a file of this many bytes
pub record IsLawfulPage (file_len : ℕ) (page : PagePlan) : Type 0 where
  pub in_window : IsSome (window_at page.vpn.0)
  pub len : page.len ≤ 4096
  pub within : page.from + page.len ≤ file_len

-- the pages of a process are lawful and different
pub record IsLawfulProcess (file_len : ℕ) (p : ProcPlan) : Type 0 where
  pub pages : All (IsLawfulPage file_len) p.pages
  pub different : AllPairs (λ a b. a.vpn.0 ≢ b.vpn.0) p.pages

-- Memory can hold the first pages of the plan, with their bytes from a file of this many bytes.
pub record IsLawfulPlan (file_len : ℕ) (plan : BootPlan) : Type 0 where
  pub some : 1 ≤ length plan.procs
  pub few : length plan.procs ≤ PROCESS_LIMIT
  pub tables : table_frames (length plan.procs) + 2 ≤ plan.frames
  pub frames : plan.frames ≤ 16384
  pub start_whole : plan.ram_start % 4096 ≡ 0
  pub below : plan.ram_start + 4096 * plan.frames ≤ 0xF0000000
  pub slots : plan.slots ≤ 16384
  pub procs : All (IsLawfulProcess file_len) plan.procs
  pub fits : planned_pages plan ≤ capacity plan.frames (length plan.procs) plan.slots

-- A kernel can start the process: its entry is that of an instruction, and its heap is empty.
pub record CanStart (p : ProcPlan) : Type 0 where
  pub entry : p.entry % 4 ≡ 0
  pub no_heap : All (λ page. window_at page.vpn.0 ≢ Some Heap) p.pages

-- the entry lies in a page that may be executed
abbrev pub EntersExecutable : ProcPlan → Type 0
EntersExecutable p = Any (λ page. (page.vpn.0 ≡ p.entry / 4096) × IsTrue page.right.x) p.pages
