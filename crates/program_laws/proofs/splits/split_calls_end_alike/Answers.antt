-- Calls on setups of one capacity end alike.
use Rattle.program_laws.proofs.Splitting.SplitCallLemmas.{swapping_invisible}
use Rattle.program_laws.proofs.splits.split_calls_end_alike.Goals as goal

pub returns : goal.returns
returns c = swapping_invisible
