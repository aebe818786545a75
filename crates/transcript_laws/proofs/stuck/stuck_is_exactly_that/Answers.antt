use Rattle.transcript_laws.proofs.StuckLemmas.{everyone_waits, nobody_ready, stuck_does_no_step, stuck_histories, stuck_history}
use Rattle.transcript_laws.proofs.stuck.stuck_is_exactly_that.Goals as goal

-- src/stuck.rt
pub returns-clause-nobody : goal.returns-clause-nobody
returns-clause-nobody c = λ n limit m h cursor some none. nobody_ready n limit m h cursor some none

pub returns-clause-no_step : goal.returns-clause-no_step
returns-clause-no_step c = λ n limit m stuck. stuck_does_no_step m stuck n limit

pub returns-clause-waits : goal.returns-clause-waits
returns-clause-waits c = everyone_waits

pub returns-clause-still : goal.returns-clause-still
returns-clause-still c = λ events limit m stuck inside. stuck_history m stuck events limit inside

pub returns-clause-histories : goal.returns-clause-histories
returns-clause-histories c = stuck_histories
