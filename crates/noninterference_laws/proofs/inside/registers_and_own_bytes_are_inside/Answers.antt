use Rattle.noninterference_laws.proofs.Seeing.InsideLemmas.{inside_there}
use Rattle.noninterference_laws.proofs.inside.registers_and_own_bytes_are_inside.Goals as goal

-- src/inside.rt
pub returns : goal.returns
returns c = inside_there
