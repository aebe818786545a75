-- The parts of a call: the events of a booted image are played, and what is told at the end is written.
use Rattle.std.specs.Prelude.{◌≡◌, ◌⊎◌, Bool, true, false, [], None}
use Rattle.machine_model.specs.State.Machine.{Machine}
use Rattle.suspend_image.specs.Saveable.{IsSpellable}
use Rattle.suspend_image.specs.StateBytes.{saved_bytes}
use Rattle.xk_base.specs.Outside.{Rose}
use Rattle.xk_ports.specs.declared.host.FileSlot.TheVariants.{Second}
use Rattle.xk_ports.specs.Told.{Grows, GrowsByProperPrefix}
use Rattle.event_player.specs.declared.ending.Ending.{Ending}
use Rattle.event_player.specs.declared.ending.Ending.TheVariants.{Played, LimitMet, BadLine}
use Rattle.program_status.specs.declared.status.Status.{Status}
use Rattle.program_status.specs.declared.status.Status.TheVariants.{Done, ReadFault, WriteFault, EventFault, StepLimit}
use Rattle.program_status.specs.declared.status.Status.TheVariants.{SwapFault}
use Rattle.xous_program.specs.Outcome.Images.{Image, plan_in}
use Rattle.xous_program.specs.Outcome.Plays.{HasCause, Tells}
use Rattle.xous_program.specs.Outcome.Sides.{Call, HostRose, IsUnwritten, Prepares, StoreRose, StoreSide, Told}
use Rattle.program_status.specs.Notes.{SinkSide}
use Rattle.xous_program.specs.Outcome.Starts.{Booted, room_of}
use Rattle.xous_program.specs.Outcome.States.{StateFile, room_from}
use Rattle.xous_program.specs.Outcome.Suspends.{Saves, silent}
use Rattle.host_io.specs.Reading.{Asked, IsTold}
use Rattle.event_player.specs.Telling.{closing}
use Rattle.xous_program.specs.Words.{Play, Resume, Suspend}

-- what is told at the end of a history that came to this machine was written, or a proper part from its front, and this is the status
abbrev pub Finishes : Play → Machine → Ending → SinkSide → Status → Type 0
Finishes play machine ending out Done = (ending ≡ Played) × Grows out.written out.written_after (closing play.tells machine ending)
Finishes play machine ending out (EventFault line) =
    (ending ≡ BadLine line) × Grows out.written out.written_after (closing play.tells machine ending)
Finishes play machine ending out (StepLimit limit) =
    (limit ≡ play.limit) × (ending ≡ LimitMet) × Grows out.written out.written_after (closing play.tells machine ending)
Finishes play machine ending out WriteFault =
    Rose out.faults out.faults_after × GrowsByProperPrefix out.written out.written_after (closing play.tells machine ending)
Finishes play machine ending out _ = ⊥

-- The image of a command is what was booted, and the store was prepared for it.
pub record Starts (play : Play) (files : Told) (booted : Booted) (store : StoreSide) : Type 0 where
  pub image : Image files play.image play.slots booted.machine
  pub room : booted.room ≡ room_of (plan_in image)
  pub slots : booted.slots ≡ (plan_in image).slots
  pub prepared : Prepares store booted.slots play.store true

-- the event file was asked for and wasn't picked, and nothing was written
pub record EndsNotPicked (play : Play) (call : Call) : Type 0 where
  pub asked : Asked call.host.asked call.host.asked_after Second play.events false
  pub ended : call.status ≡ ReadFault
  pub cause : HostRose call
  pub unwritten : IsUnwritten call

-- it was picked, and its events were played
pub record EndsPicked (play : Play) (booted : Booted) (call : Call) : Type 0 where
  pub asked : Asked call.host.asked call.host.asked_after Second play.events true
  pub cause : HasCause play booted.room booted.machine call call.status
  pub content : Tells play booted call call.status
  pub events_read : call.status ≡ Done → IsTold call.host.left []

-- what holds of a call from where its image was booted
abbrev pub EndsBooted : Play → Booted → Call → Type 0
EndsBooted play booted call = EndsNotPicked play call ⊎ EndsPicked play booted call

-- ---- `suspend`

-- the last state was saved, the status being this one: its state bytes were written, or a proper part from their front
abbrev pub SavesState : Machine → SinkSide → Status → Type 0
SavesState machine out Done = IsSpellable machine × Grows out.written out.written_after (saved_bytes machine)
SavesState machine out WriteFault = GrowsByProperPrefix out.written out.written_after (saved_bytes machine)
SavesState machine out SwapFault = Unit {0}
SavesState machine out _ = ⊥

-- whose count rose as it was saved, by the status: the store's only where a page is out, and then nothing was written
abbrev pub HasSaveCause : Bool → SinkSide → StoreSide → Status → Type 0
HasSaveCause near out store Done = Unit {0}
HasSaveCause near out store WriteFault = Rose out.faults out.faults_after
HasSaveCause near out store SwapFault = StoreRose store × (near ≡ false) × (out.written_after ≡ out.written)
HasSaveCause near out store _ = ⊥

-- the event file was picked, its events were played, and the last state was saved
pub record EndsSavedPicked (suspend : Suspend) (booted : Booted) (call : Call) : Type 0 where
  pub asked : Asked call.host.asked call.host.asked_after Second suspend.events true
  pub cause : HasCause (silent suspend) booted.room booted.machine call call.status
  pub content : Saves suspend booted call call.status
  pub events_read : call.status ≡ Done → IsTold call.host.left []

-- what holds of a call of `suspend` from where its image was booted
abbrev pub EndsSilently : Suspend → Booted → Call → Type 0
EndsSilently suspend booted call = EndsNotPicked (silent suspend) call ⊎ EndsSavedPicked suspend booted call

-- ---- `resume`

-- The state file of a command is what was resumed, and the store was prepared for it.
pub record Continues (resume : Resume) (files : Told) (booted : Booted) (store : StoreSide) : Type 0 where
  pub state : StateFile files resume.state resume.slots booted.machine
  pub room : booted.room ≡ room_from booted.machine resume.slots
  pub slots : booted.slots ≡ resume.slots
  pub prepared : Prepares store resume.slots None true
