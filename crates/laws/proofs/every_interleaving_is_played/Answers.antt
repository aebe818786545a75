use Rattle.machine_laws.proofs.Histories.InterleavingLemmas.{interleaving, interleaving_met, unmet_within}
use Rattle.laws.proofs.every_interleaving_is_played.Goals as goal

-- src/lib.rt
pub returns-clause-played : goal.returns-clause-played
returns-clause-played c = interleaving

pub returns-clause-within : goal.returns-clause-within
returns-clause-within c = unmet_within

pub returns-clause-met : goal.returns-clause-met
returns-clause-met c = interleaving_met
