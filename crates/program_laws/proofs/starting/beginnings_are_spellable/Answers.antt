use Rattle.program_laws.proofs.StartLemmas.{begins_spellable}
use Rattle.program_laws.proofs.starting.beginnings_are_spellable.Goals as goal

-- src/starting.rt
pub returns : goal.returns
returns c = begins_spellable
