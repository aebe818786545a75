-- The numbers of statuses.
use Rattle.std.specs.Prelude.{ℕ}
use Rattle.program_status.specs.declared.status.Status.{Status}
use Rattle.program_status.specs.declared.status.Status.TheVariants.{Done, Usage, ReadFault, WriteFault, ImageFault, EventFault, StepLimit}
use Rattle.program_status.specs.declared.status.Status.TheVariants.{SwapFault, NoMemory}

-- the number with which the program ends
abbrev pub number_of : Status → ℕ
number_of Done = 0
number_of Usage = 2
number_of ReadFault = 3
number_of WriteFault = 4
number_of (ImageFault fault) = 5
number_of (EventFault line) = 6
number_of (StepLimit limit) = 7
number_of SwapFault = 8
number_of NoMemory = 9
