use Rattle.snapshot_laws.proofs.Stepping.StepWordLemmas.{causes_keep}
use Rattle.snapshot_laws.proofs.numbers.all_keep_words.Goals as goal

-- src/numbers.rt
pub returns : goal.returns
returns c = causes_keep
