use Rattle.confidentiality_laws.proofs.Keeping.CallStepLemmas.{call_step_keeps, call_step_moves}
use Rattle.machine_laws.proofs.Executing.InstructionStepLemmas.{instruction_stores}
use Rattle.laws.proofs.calls_change_no_byte.Goals as goal

-- src/lib.rt
pub returns-clause-calls : goal.returns-clause-calls
returns-clause-calls c = call_step_keeps

pub returns-clause-places : goal.returns-clause-places
returns-clause-places c = call_step_moves

pub returns-clause-instructions : goal.returns-clause-instructions
returns-clause-instructions c = instruction_stores
