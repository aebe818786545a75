use Rattle.interrupt_laws.proofs.RunLemmas.{delivered_at_most_once, pending_are_claimed}
use Rattle.interrupt_laws.proofs.StartingLemmas.{irq_starts_one_or_nothing}
use Rattle.laws.proofs.HistoryLemmas.{history_delivers}
use Rattle.laws.proofs.interrupts_are_delivered_once.Goals as goal

-- src/lib.rt
pub returns-clause-runs : goal.returns-clause-runs
returns-clause-runs c = delivered_at_most_once

pub returns-clause-histories : goal.returns-clause-histories
returns-clause-histories c = history_delivers

pub returns-clause-claimed : goal.returns-clause-claimed
returns-clause-claimed c = pending_are_claimed

pub returns-clause-starts : goal.returns-clause-starts
returns-clause-starts c = irq_starts_one_or_nothing
