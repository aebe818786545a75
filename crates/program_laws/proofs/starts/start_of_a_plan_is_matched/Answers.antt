use Rattle.xk_kernel.proofs.Starting.FirstLawfulLemmas.{start_of_plan_matched}
use Rattle.program_laws.proofs.starts.start_of_a_plan_is_matched.Goals as goal

pub returns : goal.returns
returns c = start_of_plan_matched
