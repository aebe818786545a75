use Rattle.std.proofs.Common.{◌+◌, drop, arith, rules}
use Rattle.kernel_args.specs.Faults.{first_fault}
use Rattle.boot_plan.specs.Faults.{processes_faults}
use Rattle.boot_plan.proofs.FirstFaultLemmas.{from_process, or_at_some, or_at_none}
use Rattle.boot_plan.proofs.checks.processes_fault.Goals as goal

pub returns-then-is_some : goal.returns-then-is_some
returns-then-is_some c =
    let l = c.loop-process in
    let step = from_process c.args.words c.args.file.now l.pid c.args.processes.now l.process-index c.process-item.result (omega arith) c.process-item.is in
    let found = or_at_some c.process_fault-found.result (first_fault (processes_faults c.args.words c.args.file.now (l.pid + 1) (drop (l.process-index + 1) c.args.processes.now))) (search rules) in
    cc

pub loop-process-preserved : goal.loop-process-preserved
loop-process-preserved c =
    let l = c.loop-process in
    let step = from_process c.args.words c.args.file.now l.pid c.args.processes.now l.process-index c.process-item.result (omega arith) c.process-item.is in
    let passed = or_at_none c.process_fault-found.result (first_fault (processes_faults c.args.words c.args.file.now (l.pid + 1) (drop (l.process-index + 1) c.args.processes.now))) (search rules) in
    record { pid = omega arith; fault = cc }
