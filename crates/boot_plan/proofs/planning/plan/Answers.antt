use Rattle.std.proofs.Common.{◌≡◌, ◌∙◌, ap, sym, subst, ◌+◌, ◌<◌, ◌≤◌, ◌/◌, ◌^◌, map, length, arith}
use Rattle.std.proofs.lemmas.List.Elements.{All-same, All-weaker}
use Rattle.kernel_args.specs.Loads.{file_sizes}
use Rattle.boot_plan.specs.FirstPages.{process_plan, plan_of}
use Rattle.boot_plan.specs.Lawful.{IsLawfulPlan, CanStart, EntersExecutable}
use Rattle.boot_plan.proofs.LawfulPlanLemmas.{lawful_plan, plan_can_start, plan_enters_executable, loads_fit}
use Rattle.boot_plan.proofs.planning.plan.Goals as goal

pub plan_processes-requires-clause-loads : goal.plan_processes-requires-clause-loads
plan_processes-requires-clause-loads c =
    let args = c.args.args.now in
    let none = sym c.find_fault.ensures ∙ c.in_default.is in
    All-same (λ p. p.load + file_sizes p.sections < 2 ^ 32) c.as_slice.result.now args.procs c.as_slice.ensures
    (All-weaker (λ p. p.load + file_sizes p.sections ≤ length c.args.file.now) (λ p. p.load + file_sizes p.sections < 2 ^ 32)
    (λ p h. omega arith) args.procs (loads_fit args c.args.file.now c.args.asked none))

pub returns-in-Ok-clause-lawful : goal.returns-in-Ok-clause-lawful
returns-in-Ok-clause-lawful c =
    let args = c.args.args.now in
    let none = sym c.find_fault.ensures ∙ c.in_default.is in
    let procs = c.in-Ok.ensures ∙ ap (map process_plan) c.as_slice.ensures in
    let planned : record { ram_start = args.ram_start; frames = args.ram_size / 4096; slots = c.slots_used.result; procs = c.in-Ok.procs } ≡ plan_of args c.args.asked = cc in
    subst (IsLawfulPlan (length c.args.file.now)) (sym planned) (lawful_plan args c.args.file.now c.args.asked c.requires.sound c.requires.few_slots none)

pub returns-in-Ok-clause-can_start : goal.returns-in-Ok-clause-can_start
returns-in-Ok-clause-can_start c =
    All-same CanStart c.in-Ok.procs (map process_plan c.args.args.now.procs) (c.in-Ok.ensures ∙ ap (map process_plan) c.as_slice.ensures)
    (plan_can_start c.args.args.now c.args.file.now c.args.asked (sym c.find_fault.ensures ∙ c.in_default.is))

pub returns-in-Ok-clause-executable : goal.returns-in-Ok-clause-executable
returns-in-Ok-clause-executable c =
    All-same EntersExecutable c.in-Ok.procs (map process_plan c.args.args.now.procs) (c.in-Ok.ensures ∙ ap (map process_plan) c.as_slice.ensures)
    (plan_enters_executable c.args.args.now c.args.file.now c.args.asked (sym c.find_fault.ensures ∙ c.in_default.is))
