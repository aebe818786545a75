use Rattle.machine_laws.proofs.Histories.ReservedLemmas.{history_reserved}
use Rattle.laws.proofs.HistoryLemmas.{history_reserves}
use Rattle.laws.proofs.ReservedLemmas.{every_reservation_holds, reservation_holds}
use Rattle.laws.proofs.reservation_is_of_one_thread.Goals as goal

-- src/lib.rt
pub returns-clause-runs : goal.returns-clause-runs
returns-clause-runs c = every_reservation_holds

pub returns-clause-unreserved : goal.returns-clause-unreserved
returns-clause-unreserved c = reservation_holds

pub returns-clause-histories : goal.returns-clause-histories
returns-clause-histories c = history_reserves

pub returns-clause-last : goal.returns-clause-last
returns-clause-last c = history_reserved
