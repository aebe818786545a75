-- What a call wrote where a fault outside interrupted it; and when what the pages of its run hold is known.
use Rattle.std.specs.Prelude.{◌≡◌, ◌≤◌, ◌⊎◌, ◌&&◌, ◌||◌, ℕ, Bool, true, false, List, [], ◌∷◌, Some}
use Rattle.event_player.specs.Gathering.{Puts}
use Rattle.event_player.specs.Telling.{told}
use Rattle.event_player.specs.declared.ending.Ending.TheVariants.{LimitMet, Played}
use Rattle.event_text.specs.EventFile.{Input, input_of}
use Rattle.event_text.specs.Lines.{whole_lines}
use Rattle.host_io.specs.Reading.{IsReadOf, IsTold}
use Rattle.xk_ports.specs.Host.{FileAsked}
use Rattle.xk_ports.specs.Told.{Grows, GrowsByProperPrefix}
use Rattle.xk_ports.specs.declared.host.FileSlot.{FileSlot}
use Rattle.xk_ports.specs.declared.host.FileSlot.TheVariants.{First, Second}
use Rattle.xous_program.specs.Outcome.Said.{Gives, GivesRun, Run, Starts, Task, as_far_as, event_file, history_in, said, tells_of}
use Rattle.xous_program.specs.Outcome.Sides.{Call, HasFile, IsUnwritten}
use Rattle.xous_program.specs.Outcome.Starts.{KnowsPages}
use Rattle.xous_program.specs.Words.{Command, Plays, Checks, Converts, Demo, Suspends, Resumes}

-- ---- files

abbrev pub is_second : FileSlot → Bool
is_second First = false
is_second Second = true

-- a file was opened at the second slot, where event files are
abbrev pub opens_events : List FileAsked → Bool
opens_events [] = false
opens_events (ask ∷ asks) = (is_second ask.slot && ask.picked) || opens_events asks

-- whether the call opened its event file
abbrev pub Opened : Call → Bool → Type 0
Opened call opened = (asks : List FileAsked) × Grows call.host.asked call.host.asked_after asks × (opens_events asks ≡ opened)

-- the command reads files; `demo` doesn't
abbrev pub ReadsFiles : Command → Type 0
ReadsFiles (Plays play) = Unit {0}
ReadsFiles (Suspends suspend) = Unit {0}
ReadsFiles (Resumes resume) = Unit {0}
ReadsFiles (Checks check) = Unit {0}
ReadsFiles (Converts image) = Unit {0}
ReadsFiles (Demo clients) = ⊥

-- nothing is left of the files that a command reads
abbrev pub IsReadOut : Command → Call → Type 0
IsReadOut (Plays play) call = IsTold call.host.image_left [] × IsTold call.host.left []
IsReadOut (Suspends suspend) call = IsTold call.host.image_left [] × IsTold call.host.left []
IsReadOut (Resumes resume) call = IsTold call.host.image_left [] × IsTold call.host.left []
IsReadOut (Checks check) call = IsTold call.host.image_left []
IsReadOut (Converts image) call = IsTold call.host.image_left []
IsReadOut (Demo clients) call = Unit {0}

-- The event file is there, some of its bytes were read, and the events of the run are those of their whole lines.
pub record ReadsLines (command : Command) (call : Call) (run : Run) : Type 0 where
  pub starts : Starts call.host.files command run
  pub name : List ℕ
  pub named : event_file command ≡ Some name
  pub there : HasFile call.host.files name
  pub bytes : List ℕ
  pub read : IsReadOf call.host.files name call.host.left bytes
  pub lines : run.input ≡ input_of (whole_lines bytes)

-- what the pages of the call's run hold is known: over the event file, and over what was read of it
abbrev pub IsKnown : Command → Call → Type 0
IsKnown command call =
    (run : Run) → GivesRun call.host.files command run ⊎ ReadsLines command call run
    → KnowsPages call.store run.booted run.limit run.input.events

-- ---- what was written

-- no event was read: a file wasn't read, the event file wasn't opened, and nothing was written
pub record ReadsNoEvents (command : Command) (call : Call) : Type 0 where
  pub reads : ReadsFiles command
  pub unopened : Opened call false
  pub unwritten : IsUnwritten call

-- The text of the whole lines that were read was written. None of them is bad, and the limit isn't met over them.
pub record WritesLines (command : Command) (call : Call) : Type 0 where
  pub opened : Opened call true
  pub run : Run
  pub read : ReadsLines command call run
  pub played : (history_in run).ending ≡ Played
  pub written : Puts call.out.written call.out.written_after (told (tells_of command) (history_in run).records)

-- nothing is told of events: their file wasn't opened, or the command, `suspend`, tells nothing of them
abbrev pub IsUntold : Command → Call → Type 0
IsUntold (Suspends suspend) call = Unit {0}
IsUntold (Plays play) call = Opened call false
IsUntold (Resumes resume) call = Opened call false
IsUntold (Demo clients) call = Opened call false
IsUntold (Checks check) call = ⊥
IsUntold (Converts image) call = ⊥

-- no event is told yet: a run starts, whatever its events are, and nothing was written
pub record TellsNoEvents (command : Command) (call : Call) : Type 0 where
  pub run : Input → Run
  pub starts : (input : Input) → Starts call.host.files command (run input)
  pub untold : IsUntold command call
  pub unwritten : IsUnwritten call

-- The text of the first steps of the run was written. So it ends at the end of a step or of an event.
pub record WritesSteps (command : Command) (call : Call) : Type 0 where
  pub opened : Opened call true
  pub run : Run
  pub given : GivesRun call.host.files command run
  pub done : ℕ
  pub within : done ≤ run.limit
  pub met : (history_in (as_far_as done run)).ending ≡ LimitMet
  pub written : Puts call.out.written call.out.written_after (told (tells_of command) (history_in (as_far_as done run)).records)

-- a proper prefix of the task's text was written
pub record WritesProperPrefix (command : Command) (call : Call) : Type 0 where
  pub task : Task
  pub given : Gives call.host.files command task
  pub written : GrowsByProperPrefix call.out.written call.out.written_after (said command task).text
