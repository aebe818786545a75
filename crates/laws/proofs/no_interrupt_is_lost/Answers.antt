use Rattle.interrupt_laws.proofs.EvenRunLemmas.{no_interrupt_is_lost}
use Rattle.interrupt_laws.proofs.StartingLemmas.{irq_starts_if_free}
use Rattle.laws.proofs.InterruptLemmas.{histories_are_balanced}
use Rattle.laws.proofs.no_interrupt_is_lost.Goals as goal

-- src/lib.rt
pub returns-clause-runs : goal.returns-clause-runs
returns-clause-runs c = no_interrupt_is_lost

pub returns-clause-histories : goal.returns-clause-histories
returns-clause-histories c = histories_are_balanced

pub returns-clause-free : goal.returns-clause-free
returns-clause-free c = irq_starts_if_free
