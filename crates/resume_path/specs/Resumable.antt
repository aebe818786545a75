-- What a kernel can be resumed from, and how large it is then.
use Rattle.std.specs.Prelude.{ℕ, ◌+◌, ◌-◌, ◌<◌, ◌≤◌, List, [], replicate}
use Rattle.boot_plan.specs.declared.plans.BootPlan.{BootPlan}
use Rattle.boot_plan.specs.declared.plans.ProcPlan.{ProcPlan}
use Rattle.ledger_model.specs.Ledger.{Ledger, pages}
use Rattle.machine_model.specs.Runs.Matched.{Matched}
use Rattle.snapshot_rows.specs.declared.state.State.{State}
use Rattle.suspend_image.specs.Forms.{Spells}
use Rattle.snapshot_rows.specs.Machines.{ledger_of, machine_of}
use Rattle.vm_memory.specs.Memory.{Size}
use Rattle.xk_base.specs.Numbers.Limits.{table_frames}
use Rattle.xk_base.specs.declared.limits.TheConstants.{FRAME_LIMIT, SLOT_LIMIT}

-- ---- the state

-- The file spells the state, and the machine can be in it.
pub record IsResumable (file : List ℕ) (s : State) : Type 0 where
  pub spelled : Spells file s
  pub matched : Matched (machine_of file s)

-- .. whatever file spells it
pub record CanResume (s : State) : Type 0 where
  pub file : List ℕ
  pub resumable : IsResumable file s

-- the whole ledger of the state, and how many pages it has
abbrev pub state_ledger : List ℕ → State → Ledger
state_ledger file s = ledger_of file s.pages s.orphans

abbrev pub state_pages : List ℕ → State → ℕ
state_pages file s = pages s.n (state_ledger file s)

-- ---- the size of the machine

-- where the RAM of a resumed machine starts
abbrev pub resumed_start : ℕ
resumed_start = 0x40000000

-- the frames that hold pages: so many as there may be pages, but for those that may stand in slots
abbrev pub resumed_page_frames : State → ℕ → ℕ
resumed_page_frames s slots = s.cap - slots

-- all frames: those of the page tables, the one that is always free, and those that hold pages
abbrev pub resumed_frames : State → ℕ → ℕ
resumed_frames s slots = table_frames s.n + 1 + resumed_page_frames s slots

-- the pages that there may be can be split so: some page may stand in a frame, and there are no more frames and slots than a machine has
pub record CanSplit (s : State) (slots : ℕ) : Type 0 where
  pub fewer : slots < s.cap
  pub frames : resumed_frames s slots ≤ FRAME_LIMIT
  pub few : slots ≤ SLOT_LIMIT

abbrev pub resumed_size : State → ℕ → Size
resumed_size s slots = record {
  procs = s.n;
  area = record { start = resumed_start; frames = resumed_frames s slots };
  slots = slots;
}

-- a process of a plan without pages
abbrev pub process_without_pages : ProcPlan
process_without_pages = record { entry = 0; sections = 0; pages = [] }

-- The plan from which the memory of a resumed machine is booted: it has the state's processes, and no page.
abbrev pub plan_without_pages : State → ℕ → BootPlan
plan_without_pages s slots = record {
  ram_start = resumed_start;
  frames = resumed_frames s slots;
  slots = slots;
  procs = replicate s.n process_without_pages;
}
