use Rattle.std.proofs.Common.{sym, ap, ◌∙◌}
use Rattle.std.specs.Prelude.{is_some}
use Rattle.thread_table.proofs.CountLemmas.{is_some_copied}
use Rattle.xk_kernel.specs.State.{machine_of}
use Rattle.xk_kernel.proofs.Calling.JoinLemmas.{join_low, join_high, join_itself, join_absent, join_waits}
use Rattle.xk_kernel.proofs.kernel.Kernel.join_thread.Goals as goal
use Rattle.xk_kernel.proofs.kernel.Kernel.join_thread.Goals.{then-tid-lt2-via-then-tid-lt2, then-tid-lt2-via-else-tid-lt2+then-tid, then-tid-lt2-via-else-tid-lt2+else-tid+then-tid-who}

pub returns-then-tid-lt2-clause-outcome : goal.returns-then-tid-lt2-clause-outcome
returns-then-tid-lt2-clause-outcome g c =
    elim c.then-tid-lt2.branch [
      | then-tid-lt2-via-then-tid-lt2 w ↦ join_low g.W.SwapStore.held c.args.self.now c.args.tid w.if-tid-lt2.true
      | then-tid-lt2-via-else-tid-lt2+then-tid w ↦ join_high g.W.SwapStore.held c.args.self.now c.args.tid w.if-tid.true
      | then-tid-lt2-via-else-tid-lt2+else-tid+then-tid-who w ↦ join_itself g.W.SwapStore.held c.args.self.now c.args.tid w.if-tid-who.true
    ]

pub returns-then-is_none-clause-outcome : goal.returns-then-is_none-clause-outcome
returns-then-is_none-clause-outcome g c =
    join_absent g.W.SwapStore.held c.args.self.now c.args.tid
    (sym (ap is_some c.get.ensures) ∙ is_some_copied c.get.result ∙ c.if-is_none.ensures)

pub returns-clause-outcome : goal.returns-clause-outcome
unfolding machine_of
returns-clause-outcome g c =
    join_waits g.W.SwapStore.held c.args.self.now c.args.tid (record c.args.self.now { threads = c.wait.new.threads })
    (record {
      above = c.if-tid-lt2.false;
      within = c.if-tid.false;
      other = c.if-tid-who.false;
      live = sym (ap is_some c.get.ensures) ∙ is_some_copied c.get.result ∙ c.if-is_none.ensures;
    })
    (λ i. record (machine_of g.W.SwapStore.held c.args.self.now) { threads = c.wait.ensures.after i })
