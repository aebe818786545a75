use Rattle.machine_model.proofs.Messaging.OrphanSetLemmas.{one_more_is_orphaned}
use Rattle.machine_model.proofs.end_laws.loans_are_orphaned_one_at_a_time.Goals as goal

-- src/end_laws.rt
pub returns : goal.returns
returns c = one_more_is_orphaned
