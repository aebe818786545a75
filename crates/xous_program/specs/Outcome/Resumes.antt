-- How a call of `resume` ends.
use Rattle.std.specs.Prelude.{◌≡◌, ◌⊎◌, ℕ, nat_le, if◌then◌else◌, true, false, [], Some, None}
use Rattle.machine_model.specs.State.Machine.{Machine}
use Rattle.xk_ports.specs.declared.host.FileSlot.TheVariants.{First}
use Rattle.event_player.specs.declared.telling.Telling.TheVariants.{Trace}
use Rattle.program_status.specs.declared.status.Status.TheVariants.{Done, ReadFault}
use Rattle.xous_program.specs.Outcome.Plays.{AsksBoth, HasCause, Tells}
use Rattle.xous_program.specs.Outcome.Sides.{Call, HostRose, IsUnprepared, IsUnwritten, Prepares}
use Rattle.xous_program.specs.Outcome.Starts.{Booted, StopsIn}
use Rattle.xous_program.specs.Outcome.States.{RefusesState, StateFile, room_from}
use Rattle.host_io.specs.Reading.{Asked, AsksFor, IsTold}
use Rattle.xous_program.specs.Words.{Play, Resume}

-- the step limit of a run that goes on from a machine: the one given, or the steps that were done where they are more
abbrev pub limit_from : ℕ → Machine → ℕ
limit_from limit machine = if nat_le machine.steps limit then limit else machine.steps

-- it tells of the events what `trace` tells of them, with the resumed machine in place of the start
abbrev pub traced : Resume → Machine → Play
traced resume machine = record {
  tells = Trace;
  image = resume.state;
  events = resume.events;
  limit = limit_from resume.limit machine;
  slots = Some resume.slots;
  store = None;
}

-- what a run that goes on from a machine starts on
abbrev pub resumed_on : Machine → ℕ → Booted
resumed_on machine slots = record { machine = machine; room = room_from machine slots; slots = slots }

-- There is no state to go on from, and nothing is written. The state file was asked for at the first slot and picked there or not, nothing
-- else was, and the store isn't prepared.
pub record EndsUnread (resume : Resume) (call : Call) : Type 0 where
  pub asked : AsksFor call.host.asked call.host.asked_after First resume.state
  pub refused : RefusesState call.host.files resume.state resume.slots (HostRose call) call.status
  pub unwritten : IsUnwritten call
  pub store : IsUnprepared call.store

-- The state file has no fault, but its run doesn't go on. No other file was asked for, and nothing is written.
pub record EndsUnresumed (resume : Resume) (call : Call) : Type 0 where
  pub asked : Asked call.host.asked call.host.asked_after First resume.state true
  pub machine : Machine
  pub state : StateFile call.host.files resume.state resume.slots machine
  pub stopped : StopsIn (room_from machine resume.slots) resume.slots None machine call.store call.status
  pub unwritten : IsUnwritten call

-- the run could go on, but the event file isn't picked, and nothing is written
pub record EndsWithoutEvents (resume : Resume) (call : Call) : Type 0 where
  pub machine : Machine
  pub state : StateFile call.host.files resume.state resume.slots machine
  pub asked : AsksBoth (traced resume machine) call false
  pub ended : call.status ≡ ReadFault
  pub cause : HostRose call
  pub prepared : Prepares call.store resume.slots None true
  pub unwritten : IsUnwritten call

-- the events are played on the machine of the state file
pub record EndsResumed (resume : Resume) (call : Call) : Type 0 where
  pub machine : Machine
  pub state : StateFile call.host.files resume.state resume.slots machine
  pub asked : AsksBoth (traced resume machine) call true
  pub prepared : Prepares call.store resume.slots None true
  pub cause : HasCause (traced resume machine) (room_from machine resume.slots) machine call call.status
  pub content : Tells (traced resume machine) (resumed_on machine resume.slots) call call.status
  -- at the end of a run both files were read to their ends
  pub state_read : call.status ≡ Done → IsTold call.host.image_left []
  pub events_read : call.status ≡ Done → IsTold call.host.left []

abbrev pub EndsResume : Resume → Call → Type 0
EndsResume resume call = EndsUnread resume call ⊎ EndsUnresumed resume call ⊎ EndsWithoutEvents resume call ⊎ EndsResumed resume call
