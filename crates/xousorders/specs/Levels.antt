-- Searches that are told one after another, with ever more preemptions.
use Rattle.std.specs.Prelude.{◌≡◌, ◌≤◌, ◌⊎◌, ◌++◌, ℕ, List, length, None, Option, Some, slice_get}
use Rattle.std.specs.declared.cmp.Ordering.{Ordering}
use Rattle.std.specs.List.{flat_map}
use Rattle.graph_search.specs.declared.found.Extent.TheVariants.{Whole}
use Rattle.order_search.specs.declared.subject.Subject.{Subject}
use Rattle.order_search.specs.Quests.{searching_of}
use Rattle.xousorders.specs.Endings.{AreReal}
use Rattle.xousorders.specs.Reports.{Course, IsSearchedBehind, Report, SaysSo, course_lines, report_lines}
use Rattle.order_text.specs.declared.endings.Ending.{Ending}
use Rattle.xousorders.specs.declared.limits.Limits.{Limits}
use Rattle.xousorders.specs.declared.view.View.{View}

-- a search that was told: its report, behind the lines of its endings as they were found
pub record Level : Type 0 where
  pub earlier : Option (List Ending)
  pub report : Report

abbrev pub course_of : Level → Course
course_of level = record { earlier = level.earlier; endings = level.report.endings.list.items }

abbrev pub level_lines : View → Level → List ℕ
level_lines view level = course_lines view (course_of level) ++ report_lines view level.report

-- the lines of searches that were told one after another
abbrev pub levels_lines : View → List Level → List ℕ
levels_lines view levels = flat_map (level_lines view) levels

-- what is told of searches that are whole, and of the endings of the next one so far
pub record SoFar : Type 0 where
  pub levels : List Level
  pub course : Course

abbrev pub so_far_lines : View → SoFar → List ℕ
so_far_lines view so_far = levels_lines view so_far.levels ++ course_lines view so_far.course

-- .. and of the last one
pub record Account : Type 0 where
  pub levels : List Level
  pub last : Level

abbrev pub account_lines : View → Account → List ℕ
account_lines view account = levels_lines view account.levels ++ level_lines view account.last

-- ---- what is so of them

-- the same orders with at most so many preemptions, without a bound of steps
abbrev pub with_preemptions : ℕ → Subject → Subject
with_preemptions most s = record s { orders = record s.orders { preemptions = most; bound = None } }

-- the endings of a search so far are real, of orders with at most so many preemptions
pub record IsCourse (limits : Limits) (view : View) (s : Subject) (preemptions : ℕ) (searched : Subject) (course : Course) : Type 0 where
  pub behind : IsSearchedBehind limits.steps view (with_preemptions preemptions s) searched course.earlier
  pub real : AreReal (searching_of searched) view course.endings

module _ (cmp : List ℕ → List ℕ → Ordering) (limits : Limits) (view : View) (s : Subject) where
  -- what was told of a search is so, of orders with at most so many preemptions
  pub record IsLevel (preemptions : ℕ) (level : Level) : Type 0 where
    pub behind : IsSearchedBehind limits.steps view (with_preemptions preemptions s) level.report.finding.searched level.earlier
    pub so : SaysSo cmp limits view level.report

  -- so it is of 0, 1, .. preemptions; each search is whole, and more preemptions are asked for
  pub record AreLevels (levels : List Level) : Type 0 where
    pub each : (k : ℕ) (level : Level) → slice_get levels k ≡ Some level → IsLevel k level
    pub whole : (k : ℕ) (level : Level) → slice_get levels k ≡ Some level → level.report.finding.extent ≡ Whole
    pub few : length levels ≤ limits.preemptions

  pub record IsSoFar (searched : Subject) (so_far : SoFar) : Type 0 where
    pub levels : AreLevels so_far.levels
    pub course : IsCourse limits view s (length so_far.levels) searched so_far.course

  pub record IsAccount (account : Account) : Type 0 where
    pub levels : AreLevels account.levels
    pub last : IsLevel (length account.levels) account.last

-- no further search is made: no more preemptions are asked for, or the last search isn't whole
abbrev pub IsLast : Limits → Account → Type 0
IsLast limits account = (length account.levels ≡ limits.preemptions) ⊎ (account.last.report.finding.extent ≡ Whole → ⊥)
