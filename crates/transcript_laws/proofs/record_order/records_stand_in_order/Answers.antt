use Rattle.transcript_laws.proofs.Ordering.StepLemmas.{records_in_order}
use Rattle.transcript_laws.proofs.record_order.records_stand_in_order.Goals as goal

-- src/record_order.rt
pub returns : goal.returns
returns c = records_in_order
