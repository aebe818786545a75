-- The server of the identifier is found, or the call will be made again.
use Rattle.std.proofs.Common.{sym, ◌∙◌}
use Rattle.xk_kernel.specs.State.{machine_of}
use Rattle.xk_kernel.proofs.Calling.ServerCallLemmas.{connects, named_told, retries}
use Rattle.xk_kernel.proofs.kernel.Kernel.connect.Goals as goal

-- src/kernel/server_calls.rt
pub returns-in-Some-clause-outcome : goal.returns-in-Some-clause-outcome
returns-in-Some-clause-outcome g c =
    c.connect_to.ensures.outcome
    ∙ connects (machine_of g.W.SwapStore.held c.args.self.now) c.args.sid c.in-Some.serial
    (sym (named_told g.W.SwapStore.held c.args.self.now c.args.sid) ∙ sym c.find.ensures ∙ c.in-Some.is)

pub returns-in-None-clause-outcome : goal.returns-in-None-clause-outcome
returns-in-None-clause-outcome g c =
    retries (machine_of g.W.SwapStore.held c.args.self.now) c.args.sid
    (sym (named_told g.W.SwapStore.held c.args.self.now c.args.sid) ∙ sym c.find.ensures ∙ c.in-None.is)
