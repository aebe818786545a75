use Rattle.lifetime_laws.proofs.Fairness.KeptTurnLemmas.{waits_in_line}
use Rattle.lifetime_laws.proofs.scheduling.quiet_turns_are_kept.Goals as goal

-- src/scheduling.rt
pub returns : goal.returns
returns c = waits_in_line
