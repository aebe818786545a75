use Rattle.machine_laws.proofs.Histories.RecordLemmas.{history_tells}
use Rattle.machine_laws.proofs.moments.records_are_of_the_moments.Goals as goal

-- src/moments.rt
pub returns : goal.returns
returns c = history_tells
