use Rattle.noninterference_laws.proofs.InstructionLemmas.{instruction_leaves}
use Rattle.noninterference_laws.proofs.integrity.instruction_leaves_others.Goals as goal

-- src/integrity.rt
pub returns : goal.returns
returns c = instruction_leaves
