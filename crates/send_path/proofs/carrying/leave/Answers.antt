use Rattle.std.proofs.Common.{sym, ap, ◌∙◌}
use Rattle.machine_model.specs.State.Threads.{passed}
use Rattle.send_path.specs.Arrivals.{waiting_if}
use Rattle.xk_parts.specs.Shown.{threads_shown}
use Rattle.xk_parts.specs.Threads.{changed_thread}
use Rattle.send_path.proofs.carrying.leave.Goals.{in-Some, in-None}
use Rattle.send_path.proofs.carrying.leave.Goals as goal

pub returns-clause-after : goal.returns-clause-after
returns-clause-after c = elim c.match-waits.branch [
  | in-Some w ↦
      c.pass.ensures.after
      ∙ ap (λ threads. changed_thread c.args.who passed (threads_shown threads)) w.threads-is
      ∙ ap (changed_thread c.args.who passed) w.wait.ensures.after
      ∙ ap (λ o. changed_thread c.args.who passed (waiting_if o c.args.who (threads_shown c.args.threads.now))) (sym w.in-Some.is)
  | in-None w ↦
      c.pass.ensures.after
      ∙ ap (λ threads. changed_thread c.args.who passed (threads_shown threads)) w.threads-is
      ∙ ap (λ o. changed_thread c.args.who passed (waiting_if o c.args.who (threads_shown c.args.threads.now))) (sym w.in-None.is)
]
