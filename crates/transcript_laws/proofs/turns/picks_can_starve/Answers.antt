use Rattle.transcript_laws.proofs.Turning.StarveLemmas.{picks_starve, starving_steps}
use Rattle.transcript_laws.proofs.turns.picks_can_starve.Goals as goal

-- src/turns.rt
pub returns-clause-others : goal.returns-clause-others
returns-clause-others c = picks_starve

pub returns-clause-steps : goal.returns-clause-steps
returns-clause-steps c = starving_steps
