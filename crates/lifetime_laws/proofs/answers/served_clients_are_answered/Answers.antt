use Rattle.machine_laws.proofs.Histories.MomentLemmas.{history_is_run}
use Rattle.machine_laws.specs.HistoryMoments.{moments_of}
use Rattle.lifetime_laws.proofs.Answering.PromptLemmas.{leaves_in_time, travels_in_time}
use Rattle.lifetime_laws.proofs.Fairness.SchedulingLemmas.{steps_are_fair}
use Rattle.lifetime_laws.proofs.Answering.SenderLemmas.{answered_in_time}
use Rattle.lifetime_laws.proofs.answers.served_clients_are_answered.Goals as goal

-- src/answers.rt
pub returns-clause-messages : goal.returns-clause-messages
returns-clause-messages c = λ events limit most start h cursor ticks.
    leaves_in_time start (moments_of events limit start) h (history_is_run events limit start) most
    (steps_are_fair events limit most start h cursor ticks)

pub returns-clause-senders : goal.returns-clause-senders
returns-clause-senders c = λ events limit most start h cursor ticks.
    answered_in_time start (moments_of events limit start) h (history_is_run events limit start) most
    (steps_are_fair events limit most start h cursor ticks)

pub returns-clause-forwards : goal.returns-clause-forwards
returns-clause-forwards c = λ events limit most start h cursor ticks.
    travels_in_time start (moments_of events limit start) h (history_is_run events limit start) most
    (steps_are_fair events limit most start h cursor ticks)
