-- The invariant of the row of quiet steps gives what the next one needs, and one more step keeps it.
use Rattle.std.proofs.Common.{ap, refl, subst, ◌∙◌}
use Rattle.thread_table.specs.States.{is_ready_state}
use Rattle.xk_kernel.specs.QuietOver.{StepsOver}
use Rattle.xk_kernel.proofs.Quieting.OverLemmas.{lent}
use Rattle.xk_kernel.proofs.Quieting.RowOverLemmas.{gone_none, gone_on, gone_out, rest_on}
use Rattle.xk_kernel.proofs.kernel.quiet.quiet_row.Goals as goal

-- src/kernel/quiet.rt
pub steps-init : goal.steps-init
steps-init g c = record {
  lent = refl;
  pid = refl;
  sound = c.requires.sound;
  remembers = c.requires.known;
  gone = gone_none g.W.SwapStore c.args.who c.args.user.now.pid c.args.user.now.mem.now c.args.thread.now c.args.reserved.now c.requires.usable c.requires.aligned;
}

pub quiet_step-requires-clause-pid : goal.quiet_step-requires-clause-pid
quiet_step-requires-clause-pid g c = c.steps.invariant.pid ∙ c.requires.pid

pub quiet_step-requires-clause-sound : goal.quiet_step-requires-clause-sound
quiet_step-requires-clause-sound g c = c.steps.invariant.sound

pub quiet_step-requires-clause-usable : goal.quiet_step-requires-clause-usable
quiet_step-requires-clause-usable g c = c.steps.invariant.gone.usable

pub quiet_step-requires-clause-known : goal.quiet_step-requires-clause-known
quiet_step-requires-clause-known g c = c.steps.invariant.remembers

pub quiet_step-requires-clause-ready : goal.quiet_step-requires-clause-ready
quiet_step-requires-clause-ready g c = ap is_ready_state c.steps.invariant.gone.state ∙ c.requires.ready

pub quiet_step-requires-clause-aligned : goal.quiet_step-requires-clause-aligned
quiet_step-requires-clause-aligned g c = c.steps.invariant.gone.aligned

pub steps-preserved : goal.steps-preserved
steps-preserved g c = record {
  lent = c.quiet_step.ensures.lent ∙ c.steps.invariant.lent;
  pid = c.quiet_step.ensures.pid ∙ c.steps.invariant.pid;
  sound = c.quiet_step.ensures.rest.sound c.steps.invariant.sound;
  remembers = c.quiet_step.ensures.known;
  gone = gone_on g.W.SwapStore c.args.who c.args.user.now.pid c.steps.user.pid c.requires.pid c.steps.invariant.pid c.args.user.now.mem.now c.steps.user.mem.now c.quiet_step.new.user.mem.now c.args.thread.now c.steps.thread c.args.reserved.now c.steps.reserved c.steps.done c.steps.invariant.gone
      c.quiet_step.new.thread c.quiet_step.new.reserved c.quiet_step.ensures.rest c.quiet_step.ensures.state c.quiet_step.ensures.aligned c.in_ok-quiet_step.ensures.usable
      (subst (λ quiet. StepsOver g.W.SwapStore c.args.who (lent c.steps.user.mem.now c.steps.thread c.steps.reserved)
      (lent c.quiet_step.new.user.mem.now c.quiet_step.new.thread c.quiet_step.new.reserved) quiet) c.if-not-branch.false c.in_ok-quiet_step.ensures.does);
}

pub returns-then-not-branch-clause-rest : goal.returns-then-not-branch-clause-rest
returns-then-not-branch-clause-rest g c = rest_on g.W.SwapStore c.args.who c.args.user.now.pid c.steps.user.pid c.requires.pid c.steps.invariant.pid c.args.user.now.mem.now c.steps.user.mem.now c.quiet_step.new.user.mem.now c.args.thread.now c.steps.thread c.args.reserved.now c.steps.reserved c.steps.done c.steps.invariant.gone c.quiet_step.ensures.rest

pub returns-then-not-branch-clause-runs : goal.returns-then-not-branch-clause-runs
returns-then-not-branch-clause-runs g c =
    gone_out g.W.SwapStore c.args.who c.args.user.now.pid c.steps.user.pid c.requires.pid c.steps.invariant.pid c.args.user.now.mem.now c.steps.user.mem.now c.quiet_step.new.user.mem.now c.args.thread.now c.steps.thread c.args.reserved.now c.steps.reserved c.steps.done c.steps.invariant.gone
    c.quiet_step.new.thread c.quiet_step.new.reserved c.args.most c.steps-test.true
    (subst (λ quiet. StepsOver g.W.SwapStore c.args.who (lent c.steps.user.mem.now c.steps.thread c.steps.reserved)
    (lent c.quiet_step.new.user.mem.now c.quiet_step.new.thread c.quiet_step.new.reserved) quiet) c.if-not-branch.true c.in_ok-quiet_step.ensures.does)

pub returns-then-not-branch-clause-came : goal.returns-then-not-branch-clause-came
returns-then-not-branch-clause-came g c = c.steps.invariant.gone.came
