-- The texts of statuses on the notes, and what stands on a sink before and after a call.
use Rattle.std.specs.Prelude.{◌⊎◌, ℕ, List, [], ◌++◌, Option, codes, decimal}
use Rattle.xk_base.specs.Outside.{Rose}
use Rattle.xk_ports.specs.declared.sink.Sink.{Ghosts as Sink}
use Rattle.xk_ports.specs.Told.{Grows, GrowsByProperPrefix}
use Rattle.kernel_args.specs.declared.faults.ArgFault.{ArgFault}
use Rattle.program_status.specs.FaultNames.{name_of}
use Rattle.program_status.specs.declared.status.Status.{Status}
use Rattle.program_status.specs.declared.status.Status.TheVariants.{Done, Usage, ReadFault, WriteFault, ImageFault, EventFault, StepLimit}
use Rattle.program_status.specs.declared.status.Status.TheVariants.{SwapFault, NoMemory}

-- what stands on a sink, and its count of faults, before the call and after it
pub record SinkSide : Type 0 where
  pub written : Option (List ℕ)
  pub written_after : Option (List ℕ)
  pub faults : ℕ
  pub faults_after : ℕ

-- the side of a sink before the call and after it
abbrev pub sink_side : {K : Type 0} → Sink K → K → K → SinkSide
sink_side S old new = record {
  written = S.written old;
  written_after = S.written new;
  faults = S.faults old;
  faults_after = S.faults new;
}

-- the notes got this text, or a proper part from its front where their count of faults rose
abbrev pub Notes : SinkSide → List ℕ → Type 0
Notes notes text =
    Grows notes.written notes.written_after text
    ⊎ (Rose notes.faults notes.faults_after × GrowsByProperPrefix notes.written notes.written_after text)

-- the note of the fault of an image or of a state file
abbrev pub fault_line : ArgFault → List ℕ
fault_line fault = codes "image fault " ++ name_of fault.what ++ codes " at " ++ decimal fault.at ++ codes "\n"

-- the text of a status on the notes, where this is the usage line; a run to its end has none
abbrev pub note_with : List ℕ → Status → List ℕ
note_with usage Done = []
note_with usage Usage = usage
note_with usage ReadFault = codes "read fault\n"
note_with usage WriteFault = codes "write fault\n"
note_with usage (ImageFault fault) = fault_line fault
note_with usage (EventFault line) = codes "event fault at line " ++ decimal line ++ codes "\n"
note_with usage (StepLimit limit) = codes "step limit " ++ decimal limit ++ codes "\n"
note_with usage SwapFault = codes "swap fault\n"
note_with usage NoMemory = codes "no memory\n"
