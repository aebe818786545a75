-- What `check` writes of a plan.
use Rattle.std.specs.Prelude.{ℕ, suc, ◌*◌, List, [], ◌∷◌, ◌++◌, codes, decimal, length}
use Rattle.boot_plan.specs.Capacity.{capacity}
use Rattle.boot_plan.specs.FirstPages.{planned_pages}
use Rattle.boot_plan.specs.declared.plans.BootPlan.{BootPlan}
use Rattle.boot_plan.specs.declared.plans.ProcPlan.{ProcPlan}
use Rattle.trace_text.specs.Words.{word_text}

-- where RAM starts, and how many bytes it has
abbrev pub ram_line : BootPlan → List ℕ
ram_line plan = codes "ram " ++ word_text plan.ram_start ++ codes " " ++ word_text (plan.frames * 4096) ++ codes "\n"

-- a process: its pid and entry, and how many sections and first pages it has
abbrev pub process_line : ℕ → ProcPlan → List ℕ
process_line pid p =
    codes "pid " ++ decimal pid ++ codes " entry " ++ word_text p.entry ++ codes " sections " ++ decimal p.sections ++ codes " pages "
    ++ decimal (length p.pages) ++ codes "\n"

-- processes, whose pids follow each other
abbrev pub process_lines : ℕ → List ProcPlan → List ℕ
process_lines pid [] = []
process_lines pid (p ∷ ps) = process_line pid p ++ process_lines (suc pid) ps

-- how many first pages there are in all, and how many pages there is room for
abbrev pub total_line : BootPlan → List ℕ
total_line plan =
    codes "pages " ++ decimal (planned_pages plan) ++ codes " cap "
    ++ decimal (capacity plan.frames (length plan.procs) plan.slots) ++ codes "\n"

abbrev pub summary_of : BootPlan → List ℕ
summary_of plan = ram_line plan ++ (process_lines 2 plan.procs ++ total_line plan)
