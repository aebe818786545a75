use Rattle.interrupt_laws.proofs.Runs.RaiseLemmas.{else_nothing}
use Rattle.interrupt_laws.proofs.timer.nothing_else_is_done.Goals as goal

-- src/timer.rt
pub returns : goal.returns
returns c = else_nothing
