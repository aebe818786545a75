-- How a call ends that plays events.
use Rattle.std.specs.Prelude.{◌≡◌, ◌⊎◌, ◌+◌, ℕ, Bool, true, false, List, [], ◌∷◌}
use Rattle.event_text.specs.EventFile.{input_of}
use Rattle.event_text.specs.Lines.{whole_lines}
use Rattle.machine_model.specs.State.Machine.{Machine}
use Rattle.machine_laws.specs.HistoryMoments.{moments_of}
use Rattle.xk_ports.specs.declared.host.FileSlot.TheVariants.{First, Second}
use Rattle.xk_ports.specs.Told.{Grows, GrowsByProperPrefix}
use Rattle.event_player.specs.declared.ending.Ending.{Ending}
use Rattle.event_player.specs.declared.ending.Ending.TheVariants.{Played, LimitMet, BadLine}
use Rattle.program_status.specs.declared.status.Status.{Status}
use Rattle.program_status.specs.declared.status.Status.TheVariants.{Done, ReadFault, WriteFault, EventFault, StepLimit}
use Rattle.program_status.specs.declared.status.Status.TheVariants.{SwapFault}
use Rattle.event_player.specs.History.{MayEnd, run_of}
use Rattle.xous_program.specs.Outcome.Images.{EndsUnplanned, Image, plan_in}
use Rattle.xous_program.specs.Outcome.Sides.{Call, HasFile, HostRose, IsTrusted, IsUnprepared, IsUnwritten, OutRose, Prepares, StoreRose}
use Rattle.event_player.specs.Rooms.{ComesFull, Room}
use Rattle.xous_program.specs.Outcome.Starts.{Booted, KnowsPages, Stops, booted_of, room_of}
use Rattle.host_io.specs.Reading.{Asked, IsFile, IsReadOf, IsTold}
use Rattle.event_player.specs.Telling.{is_silent, output}
use Rattle.event_player.specs.Writing.{Wrote, WroteSome}
use Rattle.xous_program.specs.Words.{Play}

-- ---- what was written

-- the history of these bytes ended in this way, and exactly what the command tells of it was written
pub record WroteAll (play : Play) (machine : Machine) (call : Call) (events : List ℕ) (ending : Ending) : Type 0 where
  pub ended : (run_of play.limit machine events).ending ≡ ending
  pub written : Grows call.out.written call.out.written_after (output play.tells (run_of play.limit machine events))

-- The event file may end in this way. Where what the pages hold is known, its history did, and exactly what the command tells of it was
-- written.
pub record Ran (play : Play) (booted : Booted) (call : Call) (ending : Ending) : Type 0 where
  pub events : List ℕ
  pub is_file : IsFile call.host.files play.events events
  pub may : MayEnd (input_of events) ending
  pub exact : KnowsPages call.store booted play.limit (input_of events).events → WroteAll play booted.machine call events ending

-- where what the pages hold is known, a proper part from the front of what the command tells of the history was written
pub record RanInPart (play : Play) (booted : Booted) (call : Call) : Type 0 where
  pub events : List ℕ
  pub is_file : IsFile call.host.files play.events events
  pub exact : KnowsPages call.store booted play.limit (input_of events).events
      → GrowsByProperPrefix call.out.written call.out.written_after (output play.tells (run_of play.limit booted.machine events))

-- a command that tells nothing as records come wrote nothing
abbrev pub IsSilent : Play → Call → Type 0
IsSilent play call = is_silent play.tells ≡ true → IsUnwritten call

-- Exactly what the command tells as the records of so many steps come was written: of the history up to that step limit, which it meets. So
-- what was written ends at the end of a step or of an event. And some state up to the step behind it has more pages than there are frames for.
pub record WroteSteps (play : Play) (booted : Booted) (call : Call) (events : List ℕ) : Type 0 where
  pub some : WroteSome play.tells call.out.written call.out.written_after play.limit (λ done. run_of done booted.machine events)
  pub soon : ComesFull booted.room booted.machine (moments_of (input_of events).events (some.done + 1) booted.machine)

-- so it is in a trusted run; `ledger` wrote nothing, trusted or not
pub record RanSomeSteps (play : Play) (booted : Booted) (call : Call) : Type 0 where
  pub events : List ℕ
  pub is_file : IsFile call.host.files play.events events
  pub exact : IsTrusted call.store booted.slots → WroteSteps play booted call events
  pub silent : IsSilent play call

-- The file is there, some of its bytes were read, and none of their whole lines is bad. Where what the pages hold is known, the history
-- over these lines doesn't meet the limit, and exactly what the command tells as its records come was written. `ledger` wrote nothing,
-- known or not.
pub record RanWholeLines (play : Play) (booted : Booted) (call : Call) : Type 0 where
  pub there : HasFile call.host.files play.events
  pub bytes : List ℕ
  pub read : IsReadOf call.host.files play.events call.host.left bytes
  pub may : MayEnd (input_of (whole_lines bytes)) Played
  pub exact : KnowsPages call.store booted play.limit (input_of (whole_lines bytes)).events
      → Wrote play.tells call.out.written call.out.written_after (run_of play.limit booted.machine (whole_lines bytes)) Played
  pub silent : IsSilent play call

-- What was read and written where the image boots the machine and the event file was picked, by the status.
abbrev pub Tells : Play → Booted → Call → Status → Type 0
Tells play booted call Done = Ran play booted call Played
Tells play booted call (EventFault line) = Ran play booted call (BadLine line)
Tells play booted call (StepLimit limit) = Ran play booted call LimitMet
Tells play booted call SwapFault = RanSomeSteps play booted call
Tells play booted call WriteFault = RanInPart play booted call
Tells play booted call ReadFault = RanWholeLines play booted call
Tells play booted call _ = ⊥

-- ---- why it ended

-- some state of the run over the event file has more pages than there are frames for
pub record RanFull (play : Play) (room : Room) (machine : Machine) (call : Call) : Type 0 where
  pub events : List ℕ
  pub is_file : IsFile call.host.files play.events events
  pub full : ComesFull room machine (moments_of (input_of events).events play.limit machine)

-- Where the event file was picked: whose count of faults rose, by the status; the limit is the one given; and there is no other status.
abbrev pub HasCause : Play → Room → Machine → Call → Status → Type 0
HasCause play room machine call ReadFault = HostRose call
HasCause play room machine call WriteFault = OutRose call
HasCause play room machine call SwapFault = StoreRose call.store × RanFull play room machine call
HasCause play room machine call (StepLimit limit) = limit ≡ play.limit
HasCause play room machine call Done = Unit {0}
HasCause play room machine call (EventFault line) = Unit {0}
HasCause play room machine call _ = ⊥

-- ---- calls

-- the image was asked for and picked at the first slot, and then the event file was asked for at the second and picked there or not
abbrev pub AsksBoth : Play → Call → Bool → Type 0
AsksBoth play call events_picked =
    Grows call.host.asked call.host.asked_after
    (record { slot = First; name = play.image; picked = true } ∷ record { slot = Second; name = play.events; picked = events_picked } ∷ [])

-- The image isn't planned, and the store isn't prepared.
pub record EndsRefused (play : Play) (call : Call) : Type 0 where
  pub image : EndsUnplanned play.image play.slots call
  pub store : IsUnprepared call.store

-- The image has no fault, but its run doesn't start. No other file was asked for, and nothing is written.
pub record EndsUnstarted (play : Play) (call : Call) : Type 0 where
  pub asked : Asked call.host.asked call.host.asked_after First play.image true
  pub machine : Machine
  pub image : Image call.host.files play.image play.slots machine
  pub stopped : Stops (plan_in image) play.store machine call.store call.status
  pub unwritten : IsUnwritten call

-- the image boots a machine, but the event file isn't picked, and nothing is written
pub record EndsUnpicked (play : Play) (call : Call) : Type 0 where
  pub asked : AsksBoth play call false
  pub ended : call.status ≡ ReadFault
  pub cause : HostRose call
  pub machine : Machine
  pub image : Image call.host.files play.image play.slots machine
  pub prepared : Prepares call.store (plan_in image).slots play.store true
  pub unwritten : IsUnwritten call

-- the image boots a machine, and the events are played on it
pub record EndsPlayed (play : Play) (call : Call) : Type 0 where
  pub asked : AsksBoth play call true
  pub machine : Machine
  pub image : Image call.host.files play.image play.slots machine
  pub prepared : Prepares call.store (plan_in image).slots play.store true
  pub cause : HasCause play (room_of (plan_in image)) machine call call.status
  pub content : Tells play (booted_of (plan_in image) machine) call call.status
  -- at the end of a run both files were read to their ends
  pub image_read : call.status ≡ Done → IsTold call.host.image_left []
  pub events_read : call.status ≡ Done → IsTold call.host.left []

abbrev pub EndsPlay : Play → Call → Type 0
EndsPlay play call = EndsRefused play call ⊎ EndsUnstarted play call ⊎ EndsUnpicked play call ⊎ EndsPlayed play call
