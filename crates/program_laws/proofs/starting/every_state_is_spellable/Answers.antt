use Rattle.program_laws.proofs.StartLemmas.{every_last_spellable, every_state_spellable}
use Rattle.program_laws.proofs.starting.every_state_is_spellable.Goals as goal

-- src/starting.rt
pub returns-clause-moments : goal.returns-clause-moments
returns-clause-moments c = every_state_spellable

pub returns-clause-last : goal.returns-clause-last
returns-clause-last c = every_last_spellable
