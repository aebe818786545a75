use Rattle.interrupt_laws.proofs.Runs.ClaimantLemmas.{only_claimant_stores}
use Rattle.interrupt_laws.proofs.timer.only_the_claimant_stores.Goals as goal

-- src/timer.rt
pub returns : goal.returns
returns c = only_claimant_stores
