use Rattle.std.proofs.Common.{◌≡◌, ℕ, List, ap}
use Rattle.machine_model.specs.State.Threads.{first_handler_thread}
use Rattle.thread_table.specs.Shown.{threads_of}
use Rattle.thread_table.specs.declared.thread.Thread.{Thread as TableThread}
use Rattle.thread_table.specs.declared.thread.ThreadState.TheVariants as table
use Rattle.xk_parts.specs.Shown.{thread_of}
use Rattle.xk_kernel.proofs.Starting.StartLemmas.{process_started}
use Rattle.xk_kernel.proofs.kernel.boot.start_process.Goals as goal

-- src/kernel/boot.rt
pub returns-clause-after : goal.returns-clause-after
returns-clause-after c =
    let idle : TableThread = record { pc = 0; regs = c.new.result; state = table.Idle } in
    let handler_is : thread_of idle ≡ first_handler_thread = ap (λ (regs : List ℕ). thread_of (record { pc = 0; regs = regs; state = table.Idle })) c.new.ensures in
    process_started (threads_of c.args.threads.now) (threads_of c.start.new.self) (threads_of c.start-2.new.self) c.args.pid c.args.entry idle c.new_thread-first.result
    handler_is c.new_thread-first.ensures c.requires.none c.start.ensures.after c.start-2.ensures.after
