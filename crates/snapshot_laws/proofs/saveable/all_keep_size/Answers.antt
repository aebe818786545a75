use Rattle.snapshot_laws.proofs.SizeLemmas.{cause_size}
use Rattle.snapshot_laws.proofs.saveable.all_keep_size.Goals as goal

-- src/saveable.rt
pub returns : goal.returns
returns c = cause_size
