-- The first pages of the processes of an image.
use Rattle.std.specs.Prelude.{ℕ, ◌+◌, ◌-◌, ◌*◌, ◌/◌, min, true, false, if◌then◌else◌, List, [], ◌∷◌, ◌++◌, length, map, sum_by, Option}
use Rattle.std.specs.List.{range_with_len}
use Rattle.kernel_args.specs.declared.args.Args.{Args}
use Rattle.kernel_args.specs.declared.args.ProcArgs.{ProcArgs}
use Rattle.kernel_args.specs.declared.args.Section.{Section}
use Rattle.boot_plan.specs.declared.plans.BootPlan.{BootPlan}
use Rattle.boot_plan.specs.declared.plans.ProcPlan.{ProcPlan}
use Rattle.boot_plan.specs.declared.plans.PagePlan.{PagePlan}
use Rattle.kernel_args.specs.Loads.{is_zero_filled, file_size}
use Rattle.boot_plan.specs.Sections.{page_count, is_writable, is_executable}
use Rattle.boot_plan.specs.Slots.{slots_used}

-- Page i of a section whose bytes stand in the file from an offset on. It has the section's next 4096 bytes, or
-- those that are left; a page of a zero-filled section has none.
abbrev pub section_page : ℕ → Section → ℕ → PagePlan
section_page offset s i = record {
  vpn = record { 0 = s.addr / 4096 + i };
  right = record { w = is_writable s; x = is_executable s };
  from = if is_zero_filled s then 0 else offset + 4096 * i;
  len = min 4096 (file_size s - 4096 * i);
}

-- the pages of a section
abbrev pub section_run : ℕ → Section → List PagePlan
section_run offset s = map (section_page offset s) (range_with_len 0 (page_count s.size))

-- the pages of sections in order; their bytes stand in the file one after the other from an offset on
abbrev pub sections_pages : ℕ → List Section → List PagePlan
sections_pages offset [] = []
sections_pages offset (s ∷ ss) = section_run offset s ++ sections_pages (offset + file_size s) ss

-- a page of zeros that may be written and not executed
abbrev pub zero_page : ℕ → PagePlan
zero_page vpn = record { vpn = record { 0 = vpn }; right = record { w = true; x = false }; from = 0; len = 0 }

-- the stack of the first thread: eight pages from 0x7FFF_8000 to 0x7FFF_FFFF
abbrev pub stack_pages : List ℕ
stack_pages = range_with_len 0x7FFF8 8

-- the page at 0x7F00_0000 that is the stack of the interrupt thread
abbrev pub interrupt_page : ℕ
interrupt_page = 0x7F000

-- the pages with which a process starts: those of its sections in order, its stack, and its interrupt page
abbrev pub process_pages : ProcArgs → List PagePlan
process_pages p = sections_pages p.load p.sections ++ map zero_page (stack_pages ++ interrupt_page ∷ [])

-- the plan of a process
abbrev pub process_plan : ProcArgs → ProcPlan
process_plan p = record { entry = p.entry; sections = length p.sections; pages = process_pages p }

-- the plan of an image with these arguments, for a run that asks for these slots
abbrev pub plan_of : Args → Option ℕ → BootPlan
plan_of args asked = record {
  ram_start = args.ram_start;
  frames = args.ram_size / 4096;
  slots = slots_used args asked;
  procs = map process_plan args.procs;
}

-- how many pages a plan has
abbrev pub planned_pages : BootPlan → ℕ
planned_pages plan = sum_by (λ p. length p.pages) plan.procs
