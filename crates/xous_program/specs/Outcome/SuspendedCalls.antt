-- Two calls, one that suspends a run and one that goes on from its state file, and the one call that plays the events of both.
use Rattle.std.specs.Prelude.{◌≡◌, ◌≤◌, ℕ, ◌+◌, List, ◌++◌, length, IfSome, Option, Some}
use Rattle.kernel_args.specs.declared.args.Args.{Args}
use Rattle.boot_plan.specs.Slots.{slots_used}
use Rattle.event_text.specs.Joined.{CanJoin}
use Rattle.event_text.specs.Lines.{lines_of}
use Rattle.machine_model.specs.State.Machine.{Machine}
use Rattle.xk_base.specs.declared.limits.TheConstants.{SLOT_LIMIT}
use Rattle.xk_ports.specs.Told.{Grows}
use Rattle.event_player.specs.History.{run_of}
use Rattle.event_player.specs.Telling.{told}
use Rattle.event_player.specs.declared.telling.Telling.TheVariants.{Trace}
use Rattle.xous_program.specs.declared.commands.states.TheConstants.{STATE_LIMIT}
use Rattle.program_status.specs.declared.status.Status.{Status}
use Rattle.program_status.specs.declared.status.Status.TheVariants.{Done, Usage, ReadFault, WriteFault, ImageFault, EventFault, StepLimit}
use Rattle.program_status.specs.declared.status.Status.TheVariants.{SwapFault, NoMemory}
use Rattle.xous_program.specs.Outcome.Images.{Boots}
use Rattle.program_status.specs.Plans.{IsSoundImage}
use Rattle.xous_program.specs.Outcome.Sides.{Call}
use Rattle.xous_program.specs.Outcome.SplitCalls.{PlaysOn}
use Rattle.xous_program.specs.Outcome.Splits.{Setup}
use Rattle.xous_program.specs.Words.{Play, Resume, Suspend}

-- ---- the calls

-- `suspend` is to play these events on the image of the setup, for its slots. It ends Done, and writes these bytes to an output that tells
-- what stands on it. The host tells its files.
pub record SavesTo (setup : Setup) (events state : List ℕ) (suspend : Suspend) (call : Call) : Type 0 where
  pub slots : suspend.slots ≡ setup.asked
  pub files : List ℕ → Option (List ℕ)
  pub told : call.host.files ≡ Some files
  pub image : files suspend.image ≡ Some setup.image
  pub event_file : files suspend.events ≡ Some events
  pub done : call.status ≡ Done
  pub before : List ℕ
  pub unwritten : call.out.written ≡ Some before
  pub written : call.out.written_after ≡ Some (before ++ state)

-- `resume` is to play these events from a file of these bytes, with so many slots. The host tells its files.
pub record GoesOn (many : ℕ) (state events : List ℕ) (resume : Resume) (call : Call) : Type 0 where
  pub slots : resume.slots ≡ many
  pub files : List ℕ → Option (List ℕ)
  pub told : call.host.files ≡ Some files
  pub state_file : files resume.state ≡ Some state
  pub event_file : files resume.events ≡ Some events

-- A run in two calls and in one: a setup, the image's arguments, the event files before and after, the state file, and the calls.
pub record TwoPartRun : Type 0 where
  pub setup : Setup
  pub args : Args
  pub before : List ℕ
  pub after : List ℕ
  pub state : List ℕ
  pub suspend : Suspend
  pub first : Call
  pub resume : Resume
  pub second : Call
  pub play : Play
  pub whole : Call

-- The calls play one run. `suspend` plays the events before, `resume` those after on its state file with the slots of the run, and `trace`
-- plays both, all three up to one step limit. The image has no fault in a run of the setup's slots.
pub record IsOneRun (run : TwoPartRun) : Type 0 where
  pub few : IfSome run.setup.asked (λ n. n ≤ SLOT_LIMIT)
  pub sound : IsSoundImage run.setup.image run.setup.asked run.args
  pub files : CanJoin run.before run.after
  pub suspends : SavesTo run.setup run.before run.state run.suspend run.first
  pub goes_on : GoesOn (slots_used run.args run.setup.asked) run.state run.after run.resume run.second
  pub plays : PlaysOn run.setup (run.before ++ run.after) run.play run.whole
  pub traces : run.play.tells ≡ Trace
  pub suspend_limit : run.suspend.limit ≡ run.play.limit
  pub resume_limit : run.resume.limit ≡ run.play.limit

-- ---- how they end

-- the status with which a file ends behind so many lines, where it ends with this one alone: lines are counted on
abbrev pub behind_lines : ℕ → Status → Status
behind_lines lines (EventFault line) = EventFault (line + lines)
behind_lines lines Done = Done
behind_lines lines Usage = Usage
behind_lines lines ReadFault = ReadFault
behind_lines lines WriteFault = WriteFault
behind_lines lines (ImageFault fault) = ImageFault fault
behind_lines lines (StepLimit limit) = StepLimit limit
behind_lines lines SwapFault = SwapFault
behind_lines lines NoMemory = NoMemory

-- The calls end as one. That of all events ends as the one that goes on, and writes what is told of the events before, and then what that
-- one wrote. The state file isn't too long.
pub record EndAsOne (run : TwoPartRun) : Type 0 where
  pub short : length run.state ≤ STATE_LIMIT
  pub machine : Machine
  pub boots : Boots run.setup.image run.setup.asked machine
  pub status : run.whole.status ≡ behind_lines (length (lines_of run.before)) run.second.status
  pub text : List ℕ
  pub written : Grows run.second.out.written run.second.out.written_after text
  pub whole_written : Grows run.whole.out.written run.whole.out.written_after
      (told Trace (run_of run.play.limit machine run.before).records ++ text)
