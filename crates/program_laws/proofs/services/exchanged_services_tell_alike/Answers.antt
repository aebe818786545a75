use Rattle.program_laws.proofs.OutputLemmas.{histories_alike, outputs_alike}
use Rattle.program_laws.proofs.services.exchanged_services_tell_alike.Goals as goal

-- src/services.rt
pub returns-clause-histories : goal.returns-clause-histories
returns-clause-histories c = histories_alike

-- src/services.rt
pub returns-clause-outputs : goal.returns-clause-outputs
returns-clause-outputs c = outputs_alike
