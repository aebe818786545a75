use Rattle.interrupt_laws.proofs.Runs.ClaimantLemmas.{raise_finds_claim}
use Rattle.interrupt_laws.proofs.Runs.RunLemmas.{armings_are_moments, timer_holds}
use Rattle.laws.proofs.HistoryLemmas.{history_timer}
use Rattle.laws.proofs.timer_raises_at_its_step.Goals as goal

-- src/lib.rt
pub returns-clause-runs : goal.returns-clause-runs
returns-clause-runs c = timer_holds

pub returns-clause-unarmed : goal.returns-clause-unarmed
returns-clause-unarmed c = armings_are_moments

pub returns-clause-histories : goal.returns-clause-histories
returns-clause-histories c = history_timer

pub returns-clause-claimed : goal.returns-clause-claimed
returns-clause-claimed c = raise_finds_claim
