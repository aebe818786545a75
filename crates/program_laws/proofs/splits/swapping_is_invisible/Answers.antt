-- How a capacity is split isn't seen.
use Rattle.program_laws.proofs.Splitting.SplitLemmas.{splits_boot_alike, splits_play_alike, splits_tell_alike}
use Rattle.program_laws.proofs.splits.swapping_is_invisible.Goals as goal

pub returns-clause-boots : goal.returns-clause-boots
returns-clause-boots c = splits_boot_alike

pub returns-clause-history : goal.returns-clause-history
returns-clause-history c = splits_play_alike

pub returns-clause-output : goal.returns-clause-output
returns-clause-output c = splits_tell_alike
