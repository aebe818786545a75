-- What keeps the numbers of the machine words: whatever leads from a state to the next, while the numbers of messages are words.
use Rattle.std.specs.Prelude.{◌<◌}
use Rattle.machine_model.specs.Runs.Matched.{Matched}
use Rattle.machine_model.specs.Runs.Moments.{Cause, caused}
use Rattle.machine_model.specs.State.Machine.{Machine}
use Rattle.snapshot_laws.specs.Words.{IsMachineOfWords, greatest}

-- Each message number and each count of steps is a word as long as fewer steps were done than the greatest word.
abbrev pub AllKeepWords : Type 0
AllKeepWords = (cause : Cause) (m : Machine) → Matched m → m.steps < greatest → IsMachineOfWords m → IsMachineOfWords (caused cause m)
