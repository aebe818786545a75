use Rattle.std.proofs.Common.{subst, sym}
use Rattle.machine_model.specs.Ending.Ends.{death}
use Rattle.machine_model.specs.Runs.Matched.{Matched}
use Rattle.machine_model.specs.State.Changes.{settled}
use Rattle.xk_kernel.proofs.Acting.ThreadLemmas.{machine_of_log}
use Rattle.xk_kernel.proofs.Ending.DyingLemmas.{tells_after}
use Rattle.xk_kernel.proofs.Ending.LastThreadLemmas.{ready_lives}
use Rattle.xk_kernel.specs.State.{machine_of}
use Rattle.xk_kernel.proofs.kernel.Kernel.die.Goals as goal

pub kill-requires-clause-matched : goal.kill-requires-clause-matched
kill-requires-clause-matched g c = subst Matched (sym (machine_of_log g.W.SwapStore.held c.args.self.now c.push.new.self)) c.requires.calls.matched

pub kill-requires-clause-alive : goal.kill-requires-clause-alive
unfolding machine_of
kill-requires-clause-alive g c = ready_lives (machine_of g.W.SwapStore.held c.args.self.now) c.requires.calls.matched c.args.self.now.cursor c.requires.calls.ready

pub returns-clause-tells : goal.returns-clause-tells
returns-clause-tells g c =
    tells_after g.W.SwapStore.held c.args.self.now c.kill.new.self c.push.new.self c.args.cause (λ m. settled (death c.args.self.now.cursor.pid m)) c.push.ensures c.kill.ensures.tells
