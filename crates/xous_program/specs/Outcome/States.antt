-- State files by their names, and how a call ends that reads one with a fault.
use Rattle.std.specs.Prelude.{◌-◌, ℕ, List}
use Rattle.machine_model.specs.State.Machine.{Machine}
use Rattle.program_status.specs.declared.status.Status.{Status}
use Rattle.program_status.specs.declared.status.Status.TheVariants.{ReadFault, ImageFault}
use Rattle.program_status.specs.declared.status.Status.TheVariants.{NoMemory}
use Rattle.xous_program.specs.Outcome.Sides.{Told}
use Rattle.event_player.specs.Rooms.{Room}
use Rattle.host_io.specs.Reading.{IsFile}
use Rattle.xous_program.specs.StateFiles.{IsStateFault, Restores}

-- the file of that name is a state file, and a run of so many slots goes on from this machine
pub record StateFile (file : Told) (name : List ℕ) (slots : ℕ) (machine : Machine) : Type 0 where
  pub bytes : List ℕ
  pub read : IsFile file name bytes
  pub restores : Restores bytes slots machine

-- the room for pages in the RAM of a run that goes on from a machine: the slots take the others
abbrev pub room_from : Machine → ℕ → Room
room_from machine slots = record { frames = machine.capacity - slots; processes = machine.processes }

-- What holds where there is no state to go on from, by the status: the file has this first fault; it couldn't be read, and the host's count
-- of faults rose; there was no memory.
abbrev pub RefusesState : Told → List ℕ → ℕ → Type 0 → Status → Type 0
RefusesState file name slots host_rose (ImageFault fault) = (bytes : List ℕ) × IsFile file name bytes × IsStateFault bytes slots fault
RefusesState file name slots host_rose ReadFault = host_rose
RefusesState file name slots host_rose NoMemory = Unit {0}
RefusesState file name slots host_rose _ = ⊥

-- the same of bytes that were read
abbrev pub RefusesStateBytes : List ℕ → ℕ → Status → Type 0
RefusesStateBytes bytes slots (ImageFault fault) = IsStateFault bytes slots fault
RefusesStateBytes bytes slots NoMemory = Unit {0}
RefusesStateBytes bytes slots _ = ⊥
