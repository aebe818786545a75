use Rattle.xous_program.proofs.Images.MatchedLemmas.{booted_matched}
use Rattle.program_laws.proofs.matched.booted_machine_is_matched.Goals as goal

pub returns : goal.returns
returns c = booted_matched
