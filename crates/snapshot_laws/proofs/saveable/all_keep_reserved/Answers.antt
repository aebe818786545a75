use Rattle.machine_laws.proofs.Histories.ReservedLemmas.{cause_reserved}
use Rattle.snapshot_laws.proofs.saveable.all_keep_reserved.Goals as goal

-- src/saveable.rt
pub returns : goal.returns
returns c = cause_reserved
