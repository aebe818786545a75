use Rattle.snapshot_laws.proofs.SpellableLemmas.{last_spellable, moments_spellable}
use Rattle.snapshot_laws.proofs.saveable.histories_stay_spellable.Goals as goal

-- src/saveable.rt
pub returns-clause-moments : goal.returns-clause-moments
returns-clause-moments c = moments_spellable

pub returns-clause-last : goal.returns-clause-last
returns-clause-last c = last_spellable
