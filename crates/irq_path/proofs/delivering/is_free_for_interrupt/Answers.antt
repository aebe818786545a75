use Rattle.std.proofs.Common.{◌≡◌, Some, None, ap, sym, ◌∙◌}
use Rattle.std.specs.Option.{option_copied}
use Rattle.machine_model.specs.State.Threads.{thread_id}
use Rattle.machine_model.specs.Stepping.Interrupts.{is_idle}
use Rattle.thread_table.specs.Shown.{threads_of}
use Rattle.xk_parts.specs.Shown.{state_of}
use Rattle.irq_path.proofs.ThreadLemmas.{idle_found, idle_missing, not_idle}
use Rattle.irq_path.proofs.delivering.is_free_for_interrupt.Goals as goal

pub returns-in-Idle : goal.returns-in-Idle
returns-in-Idle c m =
    let t = c.in-Some.thread.now in
    let there : threads_of c.args.threads.now (thread_id c.args.pid 1) ≡ Some t =
    ap (threads_of c.args.threads.now) (sym c.handler_id.ensures) ∙ sym c.get.ensures ∙ ap option_copied c.in-Some.is in
    sym (idle_found c.args.threads.now c.args.pid m t there ∙ ap (λ s. is_idle (state_of s)) c.in-Idle.is)

pub returns-in_default : goal.returns-in_default
returns-in_default c m =
    let t = c.in-Some.thread.now in
    let there : threads_of c.args.threads.now (thread_id c.args.pid 1) ≡ Some t =
    ap (threads_of c.args.threads.now) (sym c.handler_id.ensures) ∙ sym c.get.ensures ∙ ap option_copied c.in-Some.is in
    sym (idle_found c.args.threads.now c.args.pid m t there ∙ not_idle t.state c.in_default.not-Idle)

pub returns-in-None : goal.returns-in-None
returns-in-None c m =
    let none : threads_of c.args.threads.now (thread_id c.args.pid 1) ≡ None =
    ap (threads_of c.args.threads.now) (sym c.handler_id.ensures) ∙ sym c.get.ensures ∙ ap option_copied c.in-None.is in
    sym (idle_missing c.args.threads.now c.args.pid m none)
