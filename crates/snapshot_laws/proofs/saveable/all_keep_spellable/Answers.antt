use Rattle.snapshot_laws.proofs.SpellableLemmas.{cause_spellable}
use Rattle.snapshot_laws.proofs.saveable.all_keep_spellable.Goals as goal

-- src/saveable.rt
pub returns : goal.returns
returns c = cause_spellable
