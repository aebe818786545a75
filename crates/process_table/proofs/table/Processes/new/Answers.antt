use Rattle.std.proofs.Common.{◌≡◌, replicate, ap, ◌∙◌, arith}
use Rattle.process_table.specs.ProcessMap.{by_pid}
use Rattle.process_table.specs.Shown.{processes_of}
use Rattle.process_table.specs.State.{new_process}
use Rattle.process_table.proofs.ByPidLemmas.{by_pid_new}
use Rattle.process_table.proofs.table.Processes.new.Goals as goal

pub returns-clause-fresh : goal.returns-clause-fresh
unfolding processes_of
returns-clause-fresh c =
    let all : c.loop-process._process ≡ c.args.procs = omega arith in
    ap by_pid c.loop-process.invariant.made ∙ ap (λ n. by_pid (replicate n new_process)) all ∙ by_pid_new c.args.procs
