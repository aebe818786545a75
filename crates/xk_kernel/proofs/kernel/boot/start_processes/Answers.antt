use Rattle.std.proofs.Common.{◌≡◌, List, length, get_or, ap, arith}
use Rattle.boot_plan.specs.declared.plans.ProcPlan.{ProcPlan}
use Rattle.xk_kernel.proofs.Starting.StartLemmas.{all_started, next_started}
use Rattle.xk_kernel.proofs.kernel.boot.start_processes.Goals as goal

-- src/kernel/boot.rt
pub processes-preserved : goal.processes-preserved
processes-preserved c =
    let same : get_or c.as_slice-processes.result.now c.processes.k c.index-processes-k.result ≡ get_or c.args.plan.now.procs c.processes.k c.index-processes-k.result =
    ap (λ (xs : List ProcPlan). get_or xs c.processes.k c.index-processes-k.result) c.as_slice-processes.ensures in
    next_started c.args.plan.now c.processes.threads c.processes.k c.processes.invariant c.start_process.new.threads
    (get_or c.as_slice-processes.result.now c.processes.k c.index-processes-k.result) c.index-processes-k.result
    (omega (arith, ap length c.as_slice-processes.ensures)) same
    c.start_process.ensures.count c.start_process.ensures.after

pub returns-clause-after : goal.returns-clause-after
returns-clause-after c =
    all_started c.args.plan.now c.processes.threads c.processes.k c.processes.invariant (omega (arith, ap length c.as_slice-processes.ensures))
