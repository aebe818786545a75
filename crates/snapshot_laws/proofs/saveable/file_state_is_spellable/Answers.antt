use Rattle.snapshot_laws.proofs.FileLemmas.{files_spellable}
use Rattle.snapshot_laws.proofs.saveable.file_state_is_spellable.Goals as goal

-- src/saveable.rt
pub returns : goal.returns
returns c = files_spellable
