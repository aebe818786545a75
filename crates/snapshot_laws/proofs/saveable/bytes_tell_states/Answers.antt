use Rattle.snapshot_laws.proofs.SpelledLemmas.{bytes_tell, spellable_spelled, spelled_by_saved}
use Rattle.snapshot_laws.proofs.saveable.bytes_tell_states.Goals as goal

-- src/saveable.rt
pub returns-clause-told : goal.returns-clause-told
returns-clause-told c = bytes_tell

pub returns-clause-saved : goal.returns-clause-saved
returns-clause-saved c = spelled_by_saved

pub returns-clause-spellable : goal.returns-clause-spellable
returns-clause-spellable c = spellable_spelled
