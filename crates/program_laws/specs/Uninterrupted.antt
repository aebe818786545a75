-- Calls that neither a fault outside nor want of memory ends.
use Rattle.std.specs.Prelude.{◌≡◌, Bool, true, false}
use Rattle.kernel_args.specs.declared.faults.ArgFault.{ArgFault}
use Rattle.program_status.specs.declared.status.Status.{Status}
use Rattle.program_status.specs.declared.status.Status.TheVariants.{Done, Usage, ReadFault, WriteFault, ImageFault, EventFault, StepLimit}
use Rattle.program_status.specs.declared.status.Status.TheVariants.{SwapFault, NoMemory}
use Rattle.xous_program.specs.Headline.{IsAnswered, IsComplete}
use Rattle.xous_program.specs.Outcome.Prefixes.{IsKnown}
use Rattle.xous_program.specs.Outcome.Said.{HasFault}
use Rattle.xous_program.specs.Outcome.Sides.{Call}
use Rattle.xous_program.specs.Words.{Command}

-- a fault outside or want of memory ended the call
abbrev pub is_cut_short : Status → Bool
is_cut_short ReadFault = true
is_cut_short WriteFault = true
is_cut_short SwapFault = true
is_cut_short NoMemory = true
is_cut_short Done = false
is_cut_short Usage = false
is_cut_short (ImageFault fault) = false
is_cut_short (EventFault line) = false
is_cut_short (StepLimit limit) = false

-- The call has its headline, what the pages of its run hold is known, nothing cut it short, and the file that it begins with has no fault.
pub record IsUninterrupted (command : Command) (call : Call) : Type 0 where
  pub answered : IsAnswered command call
  pub known : IsKnown command call
  pub whole : is_cut_short call.status ≡ false
  pub sound : (fault : ArgFault) → HasFault call.host.files command fault → ⊥

-- so it is complete
abbrev pub UninterruptedAreComplete : Type 0
UninterruptedAreComplete = (command : Command) (call : Call) → IsUninterrupted command call → IsComplete command call
