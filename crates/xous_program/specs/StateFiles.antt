-- State files that are read: the states that a run of so many slots goes on from, and the first fault of the other files.
use Rattle.std.specs.Prelude.{◌≡◌, ◌<◌, ◌≤◌, ◌⊎◌, ℕ, nat_lt, MatchBool, List, length}
use Rattle.kernel_args.specs.declared.faults.ArgFault.{ArgFault}
use Rattle.boot_plan.specs.FaultNumbers.{too_long}
use Rattle.program_status.specs.FaultNames.{bad_split}
use Rattle.machine_model.specs.State.Machine.{Machine}
use Rattle.snapshot_rows.specs.declared.state.State.{State}
use Rattle.suspend_image.specs.FileFaults.{IsFirstFault}
use Rattle.snapshot_rows.specs.Machines.{machine_of}
use Rattle.xk_base.specs.declared.limits.TheConstants.{FRAME_LIMIT}
use Rattle.resume_path.specs.Resumable.{CanSplit, IsResumable, resumed_frames}
use Rattle.xous_program.specs.declared.commands.states.TheConstants.{STATE_LIMIT}

-- ---- a sound file

-- The file has a state that a run of so many slots goes on from: it isn't longer than a state file may be, it spells a state in which the
-- machine can be, and the pages that there may be can be split into these slots and frames.
pub record IsSoundState (file : List ℕ) (slots : ℕ) (state : State) : Type 0 where
  pub short : length file ≤ STATE_LIMIT
  pub resumable : IsResumable file state
  pub split : CanSplit state slots

-- a run of so many slots goes on from this machine, the one of the file's state
pub record Restores (file : List ℕ) (slots : ℕ) (machine : Machine) : Type 0 where
  pub state : State
  pub sound : IsSoundState file slots state
  pub resumed : machine ≡ machine_of file state

-- ---- faults

-- there are as many slots as there may be pages, or more frames than RAM may have
abbrev pub IsBadSplit : State → ℕ → Type 0
IsBadSplit state slots = (state.cap ≤ slots) ⊎ (FRAME_LIMIT < resumed_frames state slots)

-- the file spells a state in which the machine can be, but which can't be split so
pub record IsSplitFault (file : List ℕ) (slots : ℕ) (fault : ArgFault) : Type 0 where
  pub state : State
  pub resumable : IsResumable file state
  pub split : IsBadSplit state slots
  pub named : fault ≡ record { what = bad_split; at = 0 }

-- The first fault of a state file for a run of so many slots: it is too long, it has one of the faults of every state file, or it can't be
-- split so.
abbrev pub IsStateFault : List ℕ → ℕ → ArgFault → Type 0
IsStateFault file slots fault =
    MatchBool (nat_lt STATE_LIMIT (length file))
    (fault ≡ record { what = too_long; at = 0 })
    (IsFirstFault file fault ⊎ IsSplitFault file slots fault)
