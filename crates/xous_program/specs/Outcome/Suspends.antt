-- How a call of `suspend` ends.
use Rattle.std.specs.Prelude.{◌≡◌, ◌⊎◌, ℕ, true, List, [], None}
use Rattle.machine_model.specs.State.Machine.{Machine}
use Rattle.suspend_image.specs.Saveable.{IsSpellable}
use Rattle.suspend_image.specs.StateBytes.{saved_bytes}
use Rattle.xk_ports.specs.Told.{Grows, GrowsByProperPrefix}
use Rattle.event_player.specs.declared.telling.Telling.TheVariants.{Nothing}
use Rattle.event_player.specs.declared.ending.Ending.{Ending}
use Rattle.event_player.specs.declared.ending.Ending.TheVariants.{Played, LimitMet, BadLine}
use Rattle.program_status.specs.declared.status.Status.{Status}
use Rattle.program_status.specs.declared.status.Status.TheVariants.{Done, ReadFault, WriteFault, EventFault, StepLimit}
use Rattle.program_status.specs.declared.status.Status.TheVariants.{SwapFault}
use Rattle.event_text.specs.EventFile.{input_of}
use Rattle.event_player.specs.History.{History, MayEnd, run_of}
use Rattle.xous_program.specs.Outcome.Images.{Image, plan_in}
use Rattle.xous_program.specs.Outcome.Plays.{AsksBoth, EndsRefused, EndsUnpicked, EndsUnstarted, HasCause, RanWholeLines}
use Rattle.xous_program.specs.Outcome.Sides.{Call, IsUnwritten, Prepares}
use Rattle.xous_program.specs.Outcome.Starts.{Booted, KnowsPages, booted_of, room_of}
use Rattle.host_io.specs.Reading.{IsFile, IsTold}
use Rattle.xous_program.specs.Words.{Play, Suspend}

-- its image is booted and its events are played as those of a command that tells nothing of them
abbrev pub silent : Suspend → Play
silent suspend = record {
  tells = Nothing;
  image = suspend.image;
  events = suspend.events;
  limit = suspend.limit;
  slots = suspend.slots;
  store = None;
}

-- ---- what was written

-- where all events were played the state bytes of the last state, and else nothing
abbrev pub saved_at : Machine → Ending → List ℕ
saved_at machine Played = saved_bytes machine
saved_at machine LimitMet = []
saved_at machine (BadLine line) = []

-- all that `suspend` writes of a history
abbrev pub saved_of : History → List ℕ
saved_of h = saved_at h.machine h.ending

-- All events of these bytes were played, and exactly the state bytes of the last state were written. They spell that state.
pub record WroteState (suspend : Suspend) (machine : Machine) (call : Call) (events : List ℕ) : Type 0 where
  pub ended : (run_of suspend.limit machine events).ending ≡ Played
  pub spelled : IsSpellable (run_of suspend.limit machine events).machine
  pub written : Grows call.out.written call.out.written_after (saved_bytes (run_of suspend.limit machine events).machine)

-- no line of the event file is bad; where what the pages hold is known, the last state was written
pub record RanSaved (suspend : Suspend) (booted : Booted) (call : Call) : Type 0 where
  pub events : List ℕ
  pub is_file : IsFile call.host.files suspend.events events
  pub may : MayEnd (input_of events) Played
  pub exact : KnowsPages call.store booted suspend.limit (input_of events).events → WroteState suspend booted.machine call events

-- where what the pages hold is known, a proper part from the front of what the command writes of the history was written
pub record RanSavedInPart (suspend : Suspend) (booted : Booted) (call : Call) : Type 0 where
  pub events : List ℕ
  pub is_file : IsFile call.host.files suspend.events events
  pub exact : KnowsPages call.store booted suspend.limit (input_of events).events
      → GrowsByProperPrefix call.out.written call.out.written_after (saved_of (run_of suspend.limit booted.machine events))

-- nothing was written; the event file may end in this way, and its history did where what the pages hold is known
pub record RanUnsaved (suspend : Suspend) (booted : Booted) (call : Call) (ending : Ending) : Type 0 where
  pub events : List ℕ
  pub is_file : IsFile call.host.files suspend.events events
  pub may : MayEnd (input_of events) ending
  pub exact : KnowsPages call.store booted suspend.limit (input_of events).events
      → (run_of suspend.limit booted.machine events).ending ≡ ending
  pub unwritten : IsUnwritten call

-- What was read and written where the image boots the machine and the event file was picked, by the status.
abbrev pub Saves : Suspend → Booted → Call → Status → Type 0
Saves suspend booted call Done = RanSaved suspend booted call
Saves suspend booted call (EventFault line) = RanUnsaved suspend booted call (BadLine line)
Saves suspend booted call (StepLimit limit) = RanUnsaved suspend booted call LimitMet
Saves suspend booted call SwapFault = IsUnwritten call
Saves suspend booted call WriteFault = RanSavedInPart suspend booted call
Saves suspend booted call ReadFault = RanWholeLines (silent suspend) booted call × IsUnwritten call
Saves suspend booted call _ = ⊥

-- ---- calls

-- the image boots a machine, the events are played on it, and the last state is saved
pub record EndsSaved (suspend : Suspend) (call : Call) : Type 0 where
  pub asked : AsksBoth (silent suspend) call true
  pub machine : Machine
  pub image : Image call.host.files suspend.image suspend.slots machine
  pub prepared : Prepares call.store (plan_in image).slots None true
  pub cause : HasCause (silent suspend) (room_of (plan_in image)) machine call call.status
  pub content : Saves suspend (booted_of (plan_in image) machine) call call.status
  -- at the end of a run both files were read to their ends
  pub image_read : call.status ≡ Done → IsTold call.host.image_left []
  pub events_read : call.status ≡ Done → IsTold call.host.left []

-- Before the events are played a call of `suspend` ends as one of `trace` does. There may be no memory for its sheet either, for which it
-- asks as soon as its run was started.
abbrev pub EndsSuspend : Suspend → Call → Type 0
EndsSuspend suspend call =
    EndsRefused (silent suspend) call ⊎ EndsUnstarted (silent suspend) call ⊎ EndsUnpicked (silent suspend) call ⊎ EndsSaved suspend call
