use Rattle.laws.proofs.TimerStepLemmas.{timer_comes_last}
use Rattle.laws.proofs.timer_comes_last.Goals as goal

-- src/lib.rt
pub returns : goal.returns
returns c = timer_comes_last
