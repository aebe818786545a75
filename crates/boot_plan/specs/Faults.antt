-- The faults of a plan, in the order in which they are looked for. A fault of a process is at its pid.
use Rattle.std.specs.Prelude.{◌≡◌, ℕ, ◌+◌, ◌*◌, ◌/◌, ◌%◌, Bool, false, not, ◌&&◌, ◌||◌, ◌==◌, nat_lt, List, [], ◌∷◌, ◌++◌, length, take}
use Rattle.std.specs.Prelude.{slice_index_or, Option, Some, None}
use Rattle.std.specs.List.{list_any}
use Rattle.xk_base.specs.Numbers.Limits.{table_frames}
use Rattle.xk_base.specs.Numbers.Windows.{in_window}
use Rattle.xk_base.specs.declared.windows.Window.TheVariants.{Image}
use Rattle.kernel_args.specs.declared.args.Args.{Args}
use Rattle.kernel_args.specs.declared.args.ProcArgs.{ProcArgs}
use Rattle.kernel_args.specs.declared.args.Section.{Section}
use Rattle.kernel_args.specs.declared.faults.ArgFault.{ArgFault}
use Rattle.kernel_args.specs.CheckNumber.{check_number}
use Rattle.kernel_args.specs.Faults.{Check, ◌⇒◌at◌, first_fault}
use Rattle.kernel_args.specs.Loads.{is_load_outside, loaded_bytes}
use Rattle.boot_plan.specs.declared.faults.PlanError.{PlanError}
use Rattle.boot_plan.specs.declared.faults.PlanError.TheVariants as errors
use Rattle.boot_plan.specs.FaultNumbers.{section_outside, section_misaligned, sections_overlap, load_outside, bad_load, entry_outside}
use Rattle.boot_plan.specs.FaultNumbers.{ram_too_small}
use Rattle.boot_plan.specs.Sections.{section_pages, has_page, shares_page, is_executable}
use Rattle.boot_plan.specs.Slots.{slots_used}
use Rattle.boot_plan.specs.Capacity.{capacity}
use Rattle.boot_plan.specs.FirstPages.{plan_of, planned_pages}

-- the faults of a section behind these earlier ones of its process: its address isn't that of a page; it has a page
-- outside the Image window; it shares a page with an earlier section
abbrev pub section_faults : ℕ → List Section → Section → List Check
section_faults pid earlier s =
    (not (s.addr % 4096 == 0) ⇒ section_misaligned at pid)
    ∷ (list_any (λ vpn. not (in_window Image vpn)) (section_pages s) ⇒ section_outside at pid)
    ∷ (list_any (shares_page s) earlier ⇒ sections_overlap at pid)
    ∷ []

-- the faults of sections behind these earlier ones
abbrev pub sections_faults : ℕ → List Section → List Section → List Check
sections_faults pid earlier [] = []
sections_faults pid earlier (s ∷ ss) = section_faults pid earlier s ++ sections_faults pid (earlier ++ s ∷ []) ss

-- this is the first fault of the section at place k, behind these and those before it
abbrev pub IsFaultAt : ℕ → List Section → List Section → ℕ → Option ArgFault → Type 0
IsFaultAt pid earlier ss k fault = (d : Section) → fault ≡ first_fault (section_faults pid (earlier ++ take k ss) (slice_index_or ss k d))

-- the check word, which images of version 2 have, isn't that of these bytes
abbrev pub is_bad_check : Option ℕ → List ℕ → Bool
is_bad_check None bytes = false
is_bad_check (Some check) bytes = not (check == check_number bytes)

-- the check word isn't that of the bytes of the sections in the file
abbrev pub is_bad_load : List ℕ → ProcArgs → Bool
is_bad_load file p = is_bad_check p.check (loaded_bytes file p)

-- the entry isn't a multiple of 4, or its page isn't of an executable section
abbrev pub is_entry_outside : ProcArgs → Bool
is_entry_outside p =
    not (p.entry % 4 == 0) || not (list_any (λ s. is_executable s && has_page (p.entry / 4096) s) p.sections)

-- the faults of a process of this file; words is the size of the row of tags
abbrev pub process_faults : ℕ → List ℕ → ℕ → ProcArgs → List Check
process_faults words file pid p =
    sections_faults pid [] p.sections
    ++ (is_load_outside words (length file) p ⇒ load_outside at pid)
    ∷ (is_bad_load file p ⇒ bad_load at pid)
    ∷ (is_entry_outside p ⇒ entry_outside at pid)
    ∷ []

-- the faults of processes with the pids from this one on
abbrev pub processes_faults : ℕ → List ℕ → ℕ → List ProcArgs → List Check
processes_faults words file pid [] = []
processes_faults words file pid (p ∷ ps) = process_faults words file pid p ++ processes_faults words file (pid + 1) ps

-- RAM hasn't the tables, a page and the free frame, or the first pages are more than there is room for
abbrev pub is_ram_too_small : Args → Option ℕ → Bool
is_ram_too_small args asked =
    nat_lt (args.ram_size / 4096) (table_frames (length args.procs) + 2)
    || nat_lt (capacity (args.ram_size / 4096) (length args.procs) (slots_used args asked)) (planned_pages (plan_of args asked))

-- the faults of a plan: those of the processes, then that RAM is too small
abbrev pub plan_faults : Args → List ℕ → Option ℕ → List Check
plan_faults args file asked =
    processes_faults args.words file 2 args.procs ++ (is_ram_too_small args asked ⇒ ram_too_small at 0) ∷ []

-- the first fault of the plan for this file, in a run that asks for these slots
abbrev pub plan_fault : Args → List ℕ → Option ℕ → Option ArgFault
plan_fault args file asked = first_fault (plan_faults args file asked)

-- The error is the first fault of the plan; want of memory is free.
abbrev pub IsPlanFault : Args → List ℕ → Option ℕ → PlanError → Type 0
IsPlanFault args file asked (errors.Fault f) = plan_fault args file asked ≡ Some f
IsPlanFault args file asked errors.NoMemory = Unit {0}
