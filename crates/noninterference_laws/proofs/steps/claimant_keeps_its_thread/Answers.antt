use Rattle.noninterference_laws.proofs.ClaimantLemmas.{effects_keep_threads, histories_keep_threads, kills_keep_claimants}
use Rattle.noninterference_laws.proofs.ClaimantLemmas.{steps_keep_pending, steps_keep_threads}
use Rattle.noninterference_laws.proofs.StartedLemmas.{timer_starts_handlers}
use Rattle.noninterference_laws.proofs.steps.claimant_keeps_its_thread.Goals as goal

-- src/steps.rt
pub returns-clause-effects : goal.returns-clause-effects
returns-clause-effects c = effects_keep_threads

-- src/steps.rt
pub returns-clause-steps : goal.returns-clause-steps
returns-clause-steps c = steps_keep_threads

-- src/steps.rt
pub returns-clause-histories : goal.returns-clause-histories
returns-clause-histories c = histories_keep_threads

-- src/steps.rt
pub returns-clause-pending : goal.returns-clause-pending
returns-clause-pending c = steps_keep_pending

-- src/steps.rt
pub returns-clause-kills : goal.returns-clause-kills
returns-clause-kills c = kills_keep_claimants

-- src/steps.rt
pub returns-clause-starts : goal.returns-clause-starts
returns-clause-starts c = timer_starts_handlers
