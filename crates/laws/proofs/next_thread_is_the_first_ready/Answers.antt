use Rattle.machine_model.proofs.StepLemmas.{next_ready_passes, none_is_ready}
use Rattle.machine_laws.proofs.Histories.HistoryLemmas.{actor_is_ready, ready_has_actor}
use Rattle.laws.proofs.OrderLemmas.{first_is_ready}
use Rattle.laws.proofs.next_thread_is_the_first_ready.Goals as goal

-- src/lib.rt
pub returns-clause-ready : goal.returns-clause-ready
returns-clause-ready c = next_ready_passes

pub returns-clause-first : goal.returns-clause-first
returns-clause-first c = first_is_ready

pub returns-clause-none : goal.returns-clause-none
returns-clause-none c = none_is_ready

pub returns-clause-does : goal.returns-clause-does
returns-clause-does c = ready_has_actor

pub returns-clause-only : goal.returns-clause-only
returns-clause-only c = actor_is_ready
