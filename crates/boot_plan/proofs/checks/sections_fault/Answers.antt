use Rattle.std.proofs.Common.{rules, tests, [], length}
use Rattle.boot_plan.specs.Faults.{IsFaultAt}
use Rattle.boot_plan.proofs.FirstFoundLemmas.{first_mapped}
use Rattle.boot_plan.proofs.SectionFaultLemmas.{found_fault}
use Rattle.boot_plan.proofs.checks.sections_fault.Goals as goal

pub returns : goal.returns
returns c =
    let ss = c.args.sections.now in
    found_fault c.args.pid ss c.find_map.result (first_mapped _ _ (length ss) (IsFaultAt c.args.pid [] ss)
    (λ x o q k. search (rules, tests)) c.find_map.result c.find_map.ensures.runs)
