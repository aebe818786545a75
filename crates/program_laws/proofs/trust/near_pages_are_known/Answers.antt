use Rattle.xk_kernel.proofs.Memory.KnownLemmas.{near_knows}
use Rattle.program_laws.proofs.trust.near_pages_are_known.Goals as goal

-- src/trust.rt
pub returns : goal.returns
returns g c = near_knows g.W.SwapStore
