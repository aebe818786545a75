use Rattle.xk_kernel.proofs.Memory.KnownLemmas.{stays_trusted, trusted_knows, trusted_means}
use Rattle.program_laws.proofs.trust.trusted_store_stays_trusted.Goals as goal

-- src/trust.rt
pub returns-clause-stays : goal.returns-clause-stays
returns-clause-stays g c = stays_trusted g.W.SwapStore

pub returns-clause-knows : goal.returns-clause-knows
returns-clause-knows g c = trusted_knows g.W.SwapStore

pub returns-clause-means : goal.returns-clause-means
returns-clause-means g c = trusted_means g.W.SwapStore
