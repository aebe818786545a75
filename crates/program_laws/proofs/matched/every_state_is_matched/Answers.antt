use Rattle.program_laws.proofs.MatchedRunLemmas.{moments_of_runs_matched, runs_matched}
use Rattle.program_laws.proofs.matched.every_state_is_matched.Goals as goal

pub returns-clause-moments : goal.returns-clause-moments
returns-clause-moments c = moments_of_runs_matched

pub returns-clause-last : goal.returns-clause-last
returns-clause-last c = runs_matched
