use Rattle.std.proofs.Common.{◌≡◌, Some, is_some, sym, ap, ◌∙◌}
use Rattle.machine_model.specs.State.Machine.{Ready}
use Rattle.machine_model.specs.State.Threads.{with_answer}
use Rattle.std.specs.Option.{option_copied_mut}
use Rattle.thread_table.specs.Shown.{threads_of}
use Rattle.thread_table.specs.declared.thread.ThreadState.TheVariants as table
use Rattle.xk_parts.specs.Shown.{threads_shown}
use Rattle.xk_parts.proofs.ThreadLemmas.{answered_one, put_shown}
use Rattle.xk_parts.proofs.threads.answer.Goals as goal

pub returns-in-Some-clause-after : goal.returns-in-Some-clause-after
returns-in-Some-clause-after c =
    let there : threads_of c.args.threads.now c.args.id ≡ Some c.in-Some.thread.now = sym c.get_mut.ensures.value ∙ ap option_copied_mut c.in-Some.is in
    put_shown c.args.threads.now _ c.args.id c.in-Some.thread.now (record c.in-Some.thread.now { regs = c.set_arguments.new.self; state = table.Ready })
    (with_answer (Some c.args.words)) there
    (λ i. record { pc = c.in-Some.thread.now.pc; regs = c.set_arguments.ensures.are i; state = Ready })
    (c.get_mut.ensures.writes _ (ap is_some there))
    ∙ answered_one (threads_shown c.args.threads.now) c.args.id c.args.words
