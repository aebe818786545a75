-- Searches that end untold, and what was written of them.
use Rattle.std.specs.Prelude.{◌≡◌, ◌≤◌, ◌⊎◌, ℕ, true, false, List, length, Option}
use Rattle.std.specs.declared.cmp.Ordering.{Ordering}
use Rattle.graph_search.specs.declared.found.Cut.TheVariants.{Stopped as StoppedBefore}
use Rattle.graph_search.specs.declared.found.Extent.{Extent}
use Rattle.graph_search.specs.declared.found.Extent.TheVariants.{Cut}
use Rattle.graph_search.specs.declared.search.Search.{Search}
use Rattle.order_model.specs.declared.moves.Move.{Move}
use Rattle.order_model.specs.declared.moves.Note.{Note}
use Rattle.order_search.specs.declared.quest.OrderFault.TheVariants.{Timer as TimerFault}
use Rattle.order_search.specs.declared.subject.Subject.{Subject}
use Rattle.order_search.specs.Faults.{IsFault}
use Rattle.order_search.specs.Found.{FindsAllOrders, FindsNodes, so_far}
use Rattle.order_search.specs.Quests.{searching_of}
use Rattle.program_status.specs.Notes.{SinkSide}
use Rattle.program_status.specs.declared.status.Status.TheVariants.{NoMemory, WriteFault}
use Rattle.xk_base.specs.Outside.{Rose}
use Rattle.xk_ports.specs.Told.{Grows, GrowsByProperPrefix}
use Rattle.xousorders.specs.Endings.{AreEndings, AreReal}
use Rattle.xousorders.specs.Levels.{Account, IsAccount, IsLast, IsSoFar, Level, SoFar, account_lines, level_lines, so_far_lines}
use Rattle.order_text.specs.Lines.{found_lines}
use Rattle.xousorders.specs.Reports.{Course, IsSearchedBehind, MayStop, SaysSo, but_last, course_lines, is_failure, report_of}
use Rattle.xousorders.specs.Searched.{IsStopped, telling_at}
use Rattle.order_text.specs.declared.endings.Ending.{Ending}
use Rattle.order_text.specs.declared.endings.Endings.{Endings}
use Rattle.xousorders.specs.declared.halt.Halt.{Halt}
use Rattle.xousorders.specs.declared.halt.Halt.TheVariants.{Stopped, Timer, Unwritten}
use Rattle.xousorders.specs.declared.limits.Limits.{Limits}
use Rattle.xousorders.specs.declared.outcome.Outcome.{Outcome}
use Rattle.xousorders.specs.declared.outcome.Outcome.TheVariants.{Ended}
use Rattle.xousorders.specs.declared.search.Told.{Told}
use Rattle.xousorders.specs.declared.view.View.{View}

-- ---- what stands on the sink

-- all of the text was written; or a proper part of it, from its front, if the sink failed
abbrev pub Writes : SinkSide → List ℕ → Halt → Type 0
Writes sink text Unwritten = GrowsByProperPrefix sink.written sink.written_after text
Writes sink text Timer = Grows sink.written sink.written_after text
Writes sink text (Stopped status) = Grows sink.written sink.written_after text

-- exactly the lines of these endings were written
pub record HasGot (view : View) (sink : SinkSide) (endings : List Ending) : Type 0 where
  pub written : Grows sink.written sink.written_after (found_lines view.fails.items 0 endings)
  pub later : sink.faults ≤ sink.faults_after

-- ---- why a search ends untold

-- an order without a bound comes to a claim of the timer's interrupt, orders aren't searched on, or the sink failed
abbrev pub IsHalt : Subject → Type 0 → Halt → Type 0
IsHalt s rose Timer = IsFault s TimerFault
IsHalt s rose (Stopped status) = IsStopped s status
IsHalt s rose Unwritten = rose

-- .. if it is made again with a bound where one comes to such a claim
abbrev pub IsBreak : Subject → Type 0 → Halt → Type 0
IsBreak s rose Timer = ⊥
IsBreak s rose (Stopped status) = IsStopped s status
IsBreak s rose Unwritten = rose

-- how the program ends then
abbrev pub outcome_for : Halt → Outcome
outcome_for Timer = Ended NoMemory
outcome_for (Stopped status) = Ended status
outcome_for Unwritten = Ended WriteFault

-- a line wasn't written: for want of memory none of it; or the sink failed
abbrev pub IsUntold : SinkSide → List ℕ → Halt → Type 0
IsUntold sink line Timer = ⊥
IsUntold sink line (Stopped status) = (status ≡ NoMemory) × (sink.written_after ≡ sink.written)
IsUntold sink line Unwritten = GrowsByProperPrefix sink.written sink.written_after line × Rose sink.faults sink.faults_after

-- a search ended untold: the endings that it found are real, and their lines were written, all of them unless the sink failed
pub record BreaksOff (s : Subject) (view : View) (sink : SinkSide) (halt : Halt) : Type 0 where
  pub endings : List Ending
  pub real : AreReal (searching_of s) view endings
  pub written : Writes sink (found_lines view.fails.items 0 endings) halt
  pub why : IsHalt s (Rose sink.faults sink.faults_after) halt

-- a search ended untold, or the one before it without counts of steps: so were the lines of its endings
pub record BreaksCourse (steps : ℕ) (view : View) (asked : Subject) (sink : SinkSide) (halt : Halt) : Type 0 where
  pub searched : Subject
  pub course : Course
  pub behind : IsSearchedBehind steps view asked searched course.earlier
  pub real : AreReal (searching_of searched) view course.endings
  pub written : Writes sink (course_lines view course) halt
  pub why : IsBreak searched (Rose sink.faults sink.faults_after) halt

-- ---- searches

module _ (cmp : List ℕ → List ℕ → Ordering) (limits : Limits) (view : View) where
  -- a search was followed this far: what it found is so, its endings are those of the nodes that it followed, and their lines were written
  pub record Follows (s : Subject) (search : Search Move (List ℕ) Note) (endings : Endings) (sink : SinkSide) (extent : Extent) : Type 0 where
    pub nodes : FindsNodes limits.states (so_far s search extent)
    pub orders : FindsAllOrders cmp (so_far s search extent)
    pub endings_are : AreEndings (telling_at s search) view (length search.notes.items) endings
    pub got : HasGot view sink endings.list.items
    pub stopped : extent ≡ Cut StoppedBefore → MayStop limits view endings.list.items
    pub first : limits.first ≡ true → is_failure view endings.list.items ≡ true → extent ≡ Cut StoppedBefore
    pub alone : limits.first ≡ true → is_failure view (but_last endings.list.items) ≡ false

  -- what was found is so, and the lines of its endings were written
  pub record Finds (s : Subject) (sink : SinkSide) (told : Told) : Type 0 where
    pub so : SaysSo cmp limits view (report_of s told)
    pub got : HasGot view sink told.endings.list.items

  -- .. behind those of a search without counts of steps, if it was begun again with them
  pub record FindsBehind (asked searched : Subject) (sink : SinkSide) (told : Told) : Type 0 where
    pub earlier : Option (List Ending)
    pub behind : IsSearchedBehind limits.steps view asked searched earlier
    pub so : SaysSo cmp limits view (report_of searched told)
    pub written :
        Grows sink.written sink.written_after
        (course_lines view (record { earlier = earlier; endings = told.endings.list.items }))

  -- so it was told: the lines of its report were written too
  pub record TellsLevel (asked searched : Subject) (sink : SinkSide) (told : Told) : Type 0 where
    pub earlier : Option (List Ending)
    pub behind : IsSearchedBehind limits.steps view asked searched earlier
    pub so : SaysSo cmp limits view (report_of searched told)
    pub written :
        Grows sink.written sink.written_after (level_lines view (record { earlier = earlier; report = report_of searched told }))

  -- the sink failed in its lines
  pub record BreaksLevel (asked : Subject) (sink : SinkSide) : Type 0 where
    pub level : Level
    pub behind : IsSearchedBehind limits.steps view asked level.report.finding.searched level.earlier
    pub so : SaysSo cmp limits view level.report
    pub written : GrowsByProperPrefix sink.written sink.written_after (level_lines view level)
    pub rose : Rose sink.faults sink.faults_after

  -- a search ended untold, in its course, or in its report
  abbrev pub HaltsIn : Subject → SinkSide → Halt → Type 0
  HaltsIn asked sink halt = BreaksCourse limits.steps view asked sink halt ⊎ ((halt ≡ Unwritten) × BreaksLevel asked sink)

  -- ---- of all levels

  -- exactly the lines of all of them were written, and this was the last report
  pub record TellsAll (s searched : Subject) (sink : SinkSide) (told : Told) : Type 0 where
    pub account : Account
    pub right : IsAccount cmp limits view s account
    pub is_last : IsLast limits account
    pub report_is : account.last.report ≡ report_of searched told
    pub written : Grows sink.written sink.written_after (account_lines view account)

  -- one of them ended untold in its course
  pub record EndsInCourse (s : Subject) (sink : SinkSide) (halt : Halt) : Type 0 where
    pub searched : Subject
    pub so_far : SoFar
    pub right : IsSoFar cmp limits view s searched so_far
    pub written : Writes sink (so_far_lines view so_far) halt
    pub why : IsBreak searched (Rose sink.faults sink.faults_after) halt

  -- the sink failed in the lines of a report
  pub record EndsInReport (s : Subject) (sink : SinkSide) : Type 0 where
    pub account : Account
    pub right : IsAccount cmp limits view s account
    pub written : GrowsByProperPrefix sink.written sink.written_after (account_lines view account)
    pub rose : Rose sink.faults sink.faults_after

  abbrev pub EndsIn : Subject → SinkSide → Halt → Type 0
  EndsIn s sink halt = EndsInCourse s sink halt ⊎ ((halt ≡ Unwritten) × EndsInReport s sink)
