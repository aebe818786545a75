use Rattle.machine_laws.proofs.Histories.MomentLemmas.{moments_cursor}
use Rattle.machine_laws.proofs.moments.moments_keep_the_cursor.Goals as goal

-- src/moments.rt
pub returns : goal.returns
returns c = moments_cursor
