-- How a call of the program ends, and what it tells of searches.
use Rattle.std.specs.Prelude.{◌≡◌, ◌⊎◌, ℕ, true, IsSome, List, length, None, Option, Some}
use Rattle.std.specs.Option.{option_copied}
use Rattle.std.specs.declared.cmp.Ordering.{Ordering}
use Rattle.graph_search.specs.declared.found.Extent.TheVariants.{Whole}
use Rattle.graph_search.specs.declared.found.Strategy.{Strategy}
use Rattle.graph_search.specs.declared.found.Strategy.TheVariants.{Breadth, Depth}
use Rattle.order_model.specs.declared.failing.Failing.{Failing}
use Rattle.order_search.specs.declared.subject.Subject.{Subject}
use Rattle.order_search.specs.Faults.{IsBegun}
use Rattle.order_search.specs.Found.{DigestsTell, telling_in}
use Rattle.order_search.specs.Quests.{searching_of}
use Rattle.order_words.specs.declared.words.Words.{Words}
use Rattle.program_status.specs.Notes.{SinkSide}
use Rattle.program_status.specs.declared.status.Status.{Status}
use Rattle.program_status.specs.declared.status.Status.TheVariants.{Done, WriteFault}
use Rattle.xk_base.specs.Outside.{Rose}
use Rattle.xk_ports.specs.declared.host.Host.{Ghosts as Host}
use Rattle.xk_ports.specs.declared.sink.Sink.{Ghosts as Sink}
use Rattle.xk_ports.specs.Told.{Grows}
use Rattle.xousorders.specs.Asked.{Asking, HostFiles, IsAsked, Stops, asking_of}
use Rattle.order_text.specs.Endings.{is_several}
use Rattle.xousorders.specs.Failures.{FailsSo, NoneDiffer, NoneFails, asks_failure, tells_failure}
use Rattle.xousorders.specs.Files.{EventFile}
use Rattle.xousorders.specs.Halts.{EndsIn}
use Rattle.xousorders.specs.Levels.{Account, IsAccount, IsLast, account_lines}
use Rattle.xousorders.specs.Outcomes.{IsUnfiled, is_whole, outcome_of}
use Rattle.xousorders.specs.Replayed.{AreReplayed}
use Rattle.xousorders.specs.Reports.{Report, files_in}
use Rattle.xousorders.specs.declared.event_files.EventFiles.{Ghosts as EventFiles}
use Rattle.xousorders.specs.declared.halt.Halt.{Halt}
use Rattle.xousorders.specs.declared.halt.Halt.TheVariants.{Stopped, Unwritten}
use Rattle.xousorders.specs.declared.limits.Limits.{Limits}
use Rattle.xousorders.specs.declared.outcome.Outcome.{Outcome}
use Rattle.xousorders.specs.declared.outcome.Outcome.TheVariants.{Cut, Ended, Failed}
use Rattle.xousorders.specs.declared.view.View.{View}

-- what is asked for, within which limits orders are searched, what is told of endings, and whether event files are to be written, and into
-- which folder
pub record Command : Type 0 where
  pub asking : Asking
  pub limits : Limits
  pub view : View
  pub folder : Option (List ℕ)

-- searches with preemptions go depth first
abbrev pub strategy_for : Option ℕ → Strategy
strategy_for None = Breadth
strategy_for (Some preemptions) = Depth

abbrev pub most_preemptions : Option ℕ → ℕ
most_preemptions None = 0
most_preemptions (Some preemptions) = preemptions

abbrev pub limits_in : Words → Limits
limits_in words = record {
  strategy = strategy_for words.preemptions;
  states = words.states;
  steps = words.steps;
  preemptions = most_preemptions words.preemptions;
  first = words.first;
  seconds = words.seconds;
}

abbrev pub view_in : Words → View
view_in words = record { sights = words.see; hex = words.hex; fails = words.fails; differ = words.differ }

abbrev pub command_in : Words → Command
command_in words = record {
  asking = asking_of words.image.now (option_copied words.before) words.quantum words.once.items words.see.exits;
  limits = limits_in words;
  view = view_in words;
  folder = option_copied words.folder;
}

-- ---- failures

-- a failure is told: an ending fails of something, or there is more than one, where there was to be one at most
abbrev pub TellsFailure : View → Report → Type 0
TellsFailure view r =
    ((failing : Failing) × FailsSo view.fails.items r.endings.list.items failing)
    ⊎ (is_several view.differ (length r.endings.list.items) ≡ true)

-- something makes an ending a failure
abbrev pub AsksFailure : View → Type 0
AsksFailure view = asks_failure view.fails.items view.differ ≡ true

-- how the program ends where all of it was written
abbrev pub outcome_in : View → Report → Outcome
outcome_in view r =
    outcome_of (tells_failure view.fails.items view.differ r.endings.list.items) (asks_failure view.fails.items view.differ)
    (is_whole r.finding.extent)

-- **There is none**: no order leads to an ending that fails, and they don't differ, where that is a failure.
pub record AreNone (view : View) (r : Report) : Type 0 where
  pub fails : NoneFails (telling_in r.finding) view.fails.items
  pub differ : view.differ ≡ true → NoneDiffer (telling_in r.finding) view

-- ---- calls

-- the files of the host, what stands on the sink and the event files that are written, before the call and after it; and counts of faults,
-- and of folders that couldn't be opened
pub record Sides : Type 0 where
  pub files : HostFiles
  pub host_faults : ℕ
  pub host_faults_after : ℕ
  pub written : Option (List ℕ)
  pub written_after : Option (List ℕ)
  pub out_faults : ℕ
  pub out_faults_after : ℕ
  pub filed : Option (List EventFile)
  pub filed_after : Option (List EventFile)
  pub unopened : ℕ
  pub unopened_after : ℕ
  pub folder_faults : ℕ
  pub folder_faults_after : ℕ

abbrev pub sides_of : {H K F : Type 0} → Host H → Sink K → EventFiles F → H → H → K → K → F → F → Sides
sides_of S T U host host_after out out_after folder folder_after = record {
  files = S.file host;
  host_faults = S.faults host;
  host_faults_after = S.faults host_after;
  written = T.written out;
  written_after = T.written out_after;
  out_faults = T.faults out;
  out_faults_after = T.faults out_after;
  filed = U.written folder;
  filed_after = U.written folder_after;
  unopened = U.unopened folder;
  unopened_after = U.unopened folder_after;
  folder_faults = U.faults folder;
  folder_faults_after = U.faults folder_after;
}

abbrev pub sink_in : Sides → SinkSide
sink_in sides = record {
  written = sides.written;
  written_after = sides.written_after;
  faults = sides.out_faults;
  faults_after = sides.out_faults_after;
}

-- nothing was written
abbrev pub IsUnwritten : Sides → Type 0
IsUnwritten sides = sides.written_after ≡ sides.written

-- no search was begun, for this reason, and nothing was written
pub record EndsUntold (command : Command) (sides : Sides) (status : Status) : Type 0 where
  pub unwritten : IsUnwritten sides
  pub stops :
      Stops sides.files command.asking (Rose sides.host_faults sides.host_faults_after) (Rose sides.unopened sides.unopened_after) status

-- this is what the words ask for, and the events before are played whole
pub record IsSubject (files : HostFiles) (command : Command) (asked : Subject) : Type 0 where
  pub is_asked : IsAsked files command.asking asked
  pub begun : IsBegun asked

-- the event files of its endings were written, if there is a folder for them, and **they replay their endings**
pub record WritesFiles (command : Command) (sides : Sides) (r : Report) : Type 0 where
  pub files : Grows sides.filed sides.filed_after (files_in command.folder r)
  pub replayed : IsSome command.folder → AreReplayed r.finding.searched command.view r.endings.list.items

module _ (cmp : List ℕ → List ℕ → Ordering) where
  -- **No failure was told, and there is none** if one was asked about and no two nodes have one digest: then the search is whole.
  pub record Passes (view : View) (r : Report) : Type 0 where
    pub untold : TellsFailure view r → ⊥
    pub whole : AsksFailure view → r.finding.extent ≡ Whole
    pub none : AsksFailure view → DigestsTell (searching_of r.finding.searched) cmp → AreNone view r

  -- no failure was told, but the search isn't whole
  pub record IsCut (view : View) (r : Report) : Type 0 where
    pub untold : TellsFailure view r → ⊥
    pub asks : AsksFailure view
    pub cut : r.finding.extent ≡ Whole → ⊥

  -- exactly the lines of all searches were written
  pub record AreTold (command : Command) (sides : Sides) (account : Account) : Type 0 where
    pub asked : Subject
    pub is_asked : IsSubject sides.files command asked
    pub right : IsAccount cmp command.limits command.view asked account
    pub is_last : IsLast command.limits account
    pub written : Grows sides.written sides.written_after (account_lines command.view account)

  -- .. and the event files of the last report, which replay its endings; and this is so of it
  pub record Tells (command : Command) (sides : Sides) (Is : Report → Type 0) : Type 0 where
    pub account : Account
    pub told : AreTold command sides account
    pub filed : WritesFiles command sides account.last.report
    pub is : Is account.last.report

  -- .. but not all event files: the folder failed, which was opened before, or there was no memory
  pub record EndsUnfiled (command : Command) (sides : Sides) (status : Status) : Type 0 where
    pub account : Account
    pub told : AreTold command sides account
    pub opened : sides.unopened_after ≡ sides.unopened
    pub unfiled : IsUnfiled (Rose sides.folder_faults sides.folder_faults_after) status

  -- Searches ended untold: orders aren't searched on, or the sink failed. Lines of what they found were written, and nothing else.
  pub record EndsHalted (command : Command) (sides : Sides) (halt : Halt) : Type 0 where
    pub asked : Subject
    pub is_asked : IsSubject sides.files command asked
    pub ends : EndsIn cmp command.limits command.view asked (sink_in sides) halt

  -- how a call ends that doesn't do all: before the searches, in one, or behind the last
  abbrev pub EndsEarly : Command → Sides → Status → Type 0
  EndsEarly command sides status =
      EndsUntold command sides status ⊎ (EndsHalted command sides (Stopped status) ⊎ EndsUnfiled command sides status)

  -- how a call ends with a status: all was done, the sink failed, or it ended early
  abbrev pub EndsWith : Command → Sides → Status → Type 0
  EndsWith command sides Done = Tells command sides (Passes command.view)
  EndsWith command sides WriteFault = EndsHalted command sides Unwritten ⊎ EndsEarly command sides WriteFault
  EndsWith command sides status = EndsEarly command sides status

  -- **How a call ends**: as its status says, with a failure that was told, or with a search that was cut and told none.
  abbrev pub Ends : Command → Sides → Outcome → Type 0
  Ends command sides (Ended status) = EndsWith command sides status
  Ends command sides Failed = Tells command sides (TellsFailure command.view)
  Ends command sides Cut = Tells command sides (IsCut command.view)
