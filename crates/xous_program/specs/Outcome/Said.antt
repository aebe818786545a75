-- What the files give a command to do, and what is said of that: the status and all that is written, where no fault comes from outside and
-- there is memory.
use Rattle.std.specs.Prelude.{◌≡◌, ◌<◌, ◌≤◌, ◌⊎◌, ℕ, List, [], length, IfSome, Option, Some, None}
use Rattle.boot_plan.specs.ImageFault.{IsImageFault}
use Rattle.boot_plan.specs.declared.plans.BootPlan.{BootPlan}
use Rattle.demo_load.specs.Events.{load_events, load_machine, load_plan}
use Rattle.demo_load.specs.Totals.{demo_line, totals_of}
use Rattle.demo_load.specs.declared.TheConstants.{CLIENT_LIMIT}
use Rattle.event_player.specs.History.{History, history_of}
use Rattle.event_player.specs.Telling.{output}
use Rattle.event_player.specs.declared.ending.Ending.{Ending}
use Rattle.event_player.specs.declared.ending.Ending.TheVariants.{Played, LimitMet, BadLine}
use Rattle.event_player.specs.declared.telling.Telling.{Telling}
use Rattle.event_player.specs.declared.telling.Telling.TheVariants.{Trace, Nothing}
use Rattle.event_text.specs.EventFile.{Input, input_of}
use Rattle.host_io.specs.Reading.{IsFile}
use Rattle.kernel_args.specs.declared.faults.ArgFault.{ArgFault}
use Rattle.machine_laws.specs.HistoryMoments.{moments_of}
use Rattle.machine_model.specs.Runs.Moments.{Moment}
use Rattle.machine_model.specs.State.Machine.{Machine}
use Rattle.suspend_image.specs.Saveable.{IsSpellable}
use Rattle.xk_base.specs.declared.limits.TheConstants.{DEFAULT_STEPS, IMAGE_LIMIT, SLOT_LIMIT}
use Rattle.xous_program.specs.Outcome.Convert.{IsConversion, long_file}
use Rattle.xous_program.specs.Outcome.Images.{Image, IsPlanned, plan_in}
use Rattle.xous_program.specs.Outcome.Resumes.{limit_from, resumed_on}
use Rattle.xous_program.specs.Outcome.Sides.{Told}
use Rattle.xous_program.specs.Outcome.Starts.{Booted, booted_of}
use Rattle.xous_program.specs.Outcome.States.{StateFile}
use Rattle.xous_program.specs.Outcome.Suspends.{saved_of, silent}
use Rattle.xous_program.specs.StateFiles.{IsStateFault}
use Rattle.xous_program.specs.Summary.{summary_of}
use Rattle.xous_program.specs.Words.{Command, Play, Resume, Plays, Checks, Converts, Demo, Suspends, Resumes}
use Rattle.program_status.specs.declared.status.Status.{Status}
use Rattle.program_status.specs.declared.status.Status.TheVariants.{Done, EventFault, StepLimit}

-- ---- runs

-- what a run starts on, its step limit and its events, up to the first bad line of their file
pub record Run : Type 0 where
  pub booted : Booted
  pub limit : ℕ
  pub input : Input

-- the history of a run
abbrev pub history_in : Run → History
history_in run = history_of run.input run.limit run.booted.machine

-- the moments that a run goes through
abbrev pub moments_in : Run → List Moment
moments_in run = moments_of run.input.events run.limit run.booted.machine

-- the run as far as so many steps
abbrev pub as_far_as : ℕ → Run → Run
as_far_as steps run = record run { limit = steps }

-- the run of a load
abbrev pub load_run : ℕ → Run
load_run clients = record {
  booted = booted_of (load_plan clients) (load_machine clients);
  limit = DEFAULT_STEPS;
  input = record { events = load_events clients; bad = None };
}

-- the image boots a machine on which the run starts
pub record StartsOnImage (file : Told) (play : Play) (run : Run) : Type 0 where
  pub machine : Machine
  pub image : Image file play.image play.slots machine
  pub booted : run.booted ≡ booted_of (plan_in image) machine
  pub limit : run.limit ≡ play.limit

-- the run goes on from the machine of the state file
pub record StartsOnState (file : Told) (resume : Resume) (run : Run) : Type 0 where
  pub machine : Machine
  pub state : StateFile file resume.state resume.slots machine
  pub booted : run.booted ≡ resumed_on machine resume.slots
  pub limit : run.limit ≡ limit_from resume.limit machine

-- the run starts on the machine of a load, with the limit of words that name none
pub record StartsOnLoad (clients : ℕ) (run : Run) : Type 0 where
  pub booted : run.booted ≡ booted_of (load_plan clients) (load_machine clients)
  pub limit : run.limit ≡ DEFAULT_STEPS

-- the run of a command that plays events starts so; `check` and `convert` have none
abbrev pub Starts : Told → Command → Run → Type 0
Starts file (Plays play) run = StartsOnImage file play run
Starts file (Suspends suspend) run = StartsOnImage file (silent suspend) run
Starts file (Resumes resume) run = StartsOnState file resume run
Starts file (Demo clients) run = StartsOnLoad clients run
Starts file (Checks check) run = ⊥
Starts file (Converts image) run = ⊥

-- the name of a command's event file
abbrev pub event_file : Command → Option (List ℕ)
event_file (Plays play) = Some play.events
event_file (Suspends suspend) = Some suspend.events
event_file (Resumes resume) = Some resume.events
event_file (Checks check) = None
event_file (Converts image) = None
event_file (Demo clients) = None

-- the events of the file of that name
abbrev pub AreEventsOf : Told → List ℕ → Input → Type 0
AreEventsOf file name input = (bytes : List ℕ) × IsFile file name bytes × (input ≡ input_of bytes)

-- the events that a command plays: those of its event file, or of its load
abbrev pub HasEvents : Told → Command → Input → Type 0
HasEvents file (Plays play) input = AreEventsOf file play.events input
HasEvents file (Suspends suspend) input = AreEventsOf file suspend.events input
HasEvents file (Resumes resume) input = AreEventsOf file resume.events input
HasEvents file (Demo clients) input = input ≡ record { events = load_events clients; bad = None }
HasEvents file (Checks check) input = ⊥
HasEvents file (Converts image) input = ⊥

-- the files give a command this run
pub record GivesRun (file : Told) (command : Command) (run : Run) : Type 0 where
  pub starts : Starts file command run
  pub events : HasEvents file command run.input

-- its numbers are in their limits, as words give them
abbrev pub IsInLimits : Command → Type 0
IsInLimits (Plays play) = IfSome play.slots (λ n. n ≤ SLOT_LIMIT)
IsInLimits (Suspends suspend) = IfSome suspend.slots (λ n. n ≤ SLOT_LIMIT)
IsInLimits (Demo clients) = clients ≤ CLIENT_LIMIT
IsInLimits (Resumes resume) = Unit {0}
IsInLimits (Checks check) = Unit {0}
IsInLimits (Converts image) = Unit {0}

-- ---- tasks

-- what a command is to do: play a run, sum up a plan, or write the bytes that an image is converted into
pub data Task : Type 0 where
  Running : Run → Task
  Planning : BootPlan → Task
  Converting : List ℕ → Task

-- the plan of the image of `check`
abbrev pub GivesPlan : Told → Command → BootPlan → Type 0
GivesPlan file (Checks check) plan = IsPlanned file check.image check.slots plan
GivesPlan file (Plays play) plan = ⊥
GivesPlan file (Suspends suspend) plan = ⊥
GivesPlan file (Resumes resume) plan = ⊥
GivesPlan file (Demo clients) plan = ⊥
GivesPlan file (Converts image) plan = ⊥

-- the conversion of the image of `convert`, which isn't longer than an image may be
abbrev pub GivesBytes : Told → Command → List ℕ → Type 0
GivesBytes file (Converts image) bytes = IsConversion file image bytes × (length bytes ≤ IMAGE_LIMIT)
GivesBytes file (Plays play) bytes = ⊥
GivesBytes file (Suspends suspend) bytes = ⊥
GivesBytes file (Resumes resume) bytes = ⊥
GivesBytes file (Demo clients) bytes = ⊥
GivesBytes file (Checks check) bytes = ⊥

-- GIVES: the files give a command this task. Files that are told give one at most.
abbrev pub Gives : Told → Command → Task → Type 0
Gives file command (Running run) = GivesRun file command run
Gives file command (Planning plan) = GivesPlan file command plan
Gives file command (Converting bytes) = GivesBytes file command bytes

-- ---- what is said of a task

-- what a command tells as records come
abbrev pub tells_of : Command → Telling
tells_of (Plays play) = play.tells
tells_of (Resumes resume) = Trace
tells_of (Suspends suspend) = Nothing
tells_of (Checks check) = Nothing
tells_of (Converts image) = Nothing
tells_of (Demo clients) = Nothing

-- all that it writes of a history: `suspend` the state bytes of the last state, `demo` a line, the others what they tell
abbrev pub text_of : Command → History → List ℕ
text_of (Suspends suspend) h = saved_of h
text_of (Plays play) h = output play.tells h
text_of (Resumes resume) h = output Trace h
text_of (Demo clients) h = demo_line clients (totals_of h.records)
text_of (Checks check) h = []
text_of (Converts image) h = []

-- the status of a run, by how its history ends
abbrev pub status_of : ℕ → Ending → Status
status_of limit Played = Done
status_of limit LimitMet = StepLimit limit
status_of limit (BadLine line) = EventFault line

-- a status, and all that is written
pub record Said : Type 0 where
  pub status : Status
  pub text : List ℕ

-- SAID: the status and the text of a task, which nothing else decides.
abbrev pub said : Command → Task → Said
said command (Running run) =
    record { status = status_of run.limit (history_in run).ending; text = text_of command (history_in run) }
said command (Planning plan) = record { status = Done; text = summary_of plan }
said command (Converting bytes) = record { status = Done; text = bytes }

-- they spell the last state of a run whose events were all played
abbrev pub IsSavable : Task → Type 0
IsSavable (Running run) = (history_in run).ending ≡ Played → IsSpellable (history_in run).machine
IsSavable (Planning plan) = Unit {0}
IsSavable (Converting bytes) = Unit {0}

-- state bytes spell the state that `suspend` writes
abbrev pub IsSaved : Command → Task → Type 0
IsSaved (Suspends suspend) task = IsSavable task
IsSaved (Plays play) task = Unit {0}
IsSaved (Resumes resume) task = Unit {0}
IsSaved (Checks check) task = Unit {0}
IsSaved (Converts image) task = Unit {0}
IsSaved (Demo clients) task = Unit {0}

-- ---- faults of files

-- the file of that name is an image with this first fault in a run that asks for these slots
abbrev pub HasImageFault : Told → List ℕ → Option ℕ → ArgFault → Type 0
HasImageFault file name slots fault = (image : List ℕ) × IsFile file name image × IsImageFault image slots (Some fault)

-- the image is converted into more bytes than a file may have
abbrev pub ConvertsTooLong : Told → List ℕ → ArgFault → Type 0
ConvertsTooLong file name fault =
    (bytes : List ℕ) × IsConversion file name bytes × (IMAGE_LIMIT < length bytes) × (fault ≡ long_file)

-- the first fault of the file that a command begins with
abbrev pub HasFault : Told → Command → ArgFault → Type 0
HasFault file (Plays play) fault = HasImageFault file play.image play.slots fault
HasFault file (Suspends suspend) fault = HasImageFault file suspend.image suspend.slots fault
HasFault file (Checks check) fault = HasImageFault file check.image check.slots fault
HasFault file (Converts image) fault = HasImageFault file image (Some SLOT_LIMIT) fault ⊎ ConvertsTooLong file image fault
HasFault file (Resumes resume) fault = (bytes : List ℕ) × IsFile file resume.state bytes × IsStateFault bytes resume.slots fault
HasFault file (Demo clients) fault = ⊥
