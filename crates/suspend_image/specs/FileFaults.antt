-- The first fault of a state file: one of its form, or that the machine can't be in the state that it spells.
use Rattle.std.specs.Prelude.{◌≡◌, ℕ, ◌⊎◌, List, Some}
use Rattle.kernel_args.specs.declared.faults.ArgFault.{ArgFault}
use Rattle.suspend_image.specs.declared.faults.StateError.{StateError}
use Rattle.suspend_image.specs.declared.faults.StateError.TheVariants as errors
use Rattle.snapshot_matching.specs.declared.parts.Part.{Part}
use Rattle.snapshot_rows.specs.declared.state.State.{State}
use Rattle.suspend_image.specs.Forms.{Spells}
use Rattle.snapshot_rows.specs.Machines.{machine_of}
use Rattle.suspend_image.specs.StateFaults.{state_fault}
use Rattle.snapshot_matching.specs.UnmatchedParts.{number_of, IsFirstUnmatched}

-- the machine can't be in the state
abbrev pub state_unmatched : ℕ
state_unmatched = 24

-- the file spells a state that the machine can't be in, and the fault names the first part of the invariant that fails
pub record IsUnmatchedFault (file : List ℕ) (f : ArgFault) : Type 0 where
  pub state : State
  pub spelled : Spells file state
  pub part : Part
  pub first : IsFirstUnmatched (machine_of file state) part
  pub what : f.what ≡ state_unmatched
  pub at : f.at ≡ number_of part

-- the first fault of a state file
abbrev pub IsFirstFault : List ℕ → ArgFault → Type 0
IsFirstFault file f = (state_fault file ≡ Some f) ⊎ IsUnmatchedFault file f

-- The error is the first fault; want of memory is free.
abbrev pub IsRefused : List ℕ → StateError → Type 0
IsRefused file (errors.Fault f) = IsFirstFault file f
IsRefused file errors.NoMemory = Unit {0}
