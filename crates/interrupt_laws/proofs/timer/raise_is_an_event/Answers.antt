use Rattle.interrupt_laws.proofs.Runs.RaiseLemmas.{raise_is_event}
use Rattle.interrupt_laws.proofs.timer.raise_is_an_event.Goals as goal

-- src/timer.rt
pub returns : goal.returns
returns c = raise_is_event
