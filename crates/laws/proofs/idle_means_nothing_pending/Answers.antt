use Rattle.interrupt_laws.proofs.BusyRunLemmas.{pending_stays_busy, starts_busy}
use Rattle.laws.proofs.InterruptLemmas.{idle_at_the_end, idle_since_boot, idle_since_busy}
use Rattle.laws.proofs.idle_means_nothing_pending.Goals as goal

-- src/lib.rt
pub returns-clause-start : goal.returns-clause-start
returns-clause-start c = starts_busy

pub returns-clause-runs : goal.returns-clause-runs
returns-clause-runs c = pending_stays_busy

pub returns-clause-histories : goal.returns-clause-histories
returns-clause-histories c = idle_since_busy

pub returns-clause-boot : goal.returns-clause-boot
returns-clause-boot c = idle_since_boot

pub returns-clause-last : goal.returns-clause-last
returns-clause-last c = idle_at_the_end
