-- Nobody of the dead process is left to go past the call.
use Rattle.std.proofs.Common.{subst, sym}
use Rattle.xk_kernel.specs.State.{machine_of}
use Rattle.xk_kernel.specs.Telling.{Tells}
use Rattle.machine_laws.proofs.Dying.DeathStepLemmas.{terminate_settles}
use Rattle.xk_kernel.proofs.Ending.LastThreadLemmas.{ready_lives}
use Rattle.xk_kernel.proofs.kernel.Kernel.terminate.Goals as goal

pub kill-requires-clause-alive : goal.kill-requires-clause-alive
unfolding machine_of
kill-requires-clause-alive g c = ready_lives (machine_of g.W.SwapStore.held c.args.self.now) c.requires.calls.matched c.args.self.now.cursor c.requires.calls.ready

pub returns-clause-tells : goal.returns-clause-tells
unfolding machine_of
returns-clause-tells g c =
    subst (Tells g.W.SwapStore.held c.args.self.now c.kill.new.self) (sym (terminate_settles (machine_of g.W.SwapStore.held c.args.self.now))) c.kill.ensures.tells
