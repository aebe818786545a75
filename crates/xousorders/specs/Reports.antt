-- What is told of a search: its endings as they are found, and then its report.
use Rattle.std.specs.Prelude.{◌≡◌, ◌⊎◌, ◌+◌, ◌-◌, ◌++◌, ℕ, Bool, true, false, All, IsSome, List, [], length, None, Option, Some, take}
use Rattle.std.specs.declared.cmp.Ordering.{Ordering}
use Rattle.event_text.specs.Spelling.{AreAskable}
use Rattle.graph_search.specs.declared.found.Cut.TheVariants.{Stopped}
use Rattle.graph_search.specs.declared.found.Extent.TheVariants.{Cut, Whole}
use Rattle.graph_search.specs.declared.found.Strategy.TheVariants.{Breadth}
use Rattle.order_model.specs.Asking.{asked_of}
use Rattle.order_model.specs.Moves.{events_of}
use Rattle.order_search.specs.declared.subject.Subject.{Subject}
use Rattle.order_search.specs.Found.{DigestsTell, Finding, FindsNodes, TellsAllOrders, finding_of, telling_in}
use Rattle.order_search.specs.Quests.{searching_of}
use Rattle.xousorders.specs.Endings.{AreReal, AreShortest, TellsAllEndings, TellsEndings}
use Rattle.xousorders.specs.Failures.{tells_failure}
use Rattle.xousorders.specs.Files.{EventFile, order_files}
use Rattle.order_text.specs.Lines.{counting_line, differ_text, endings_text, extent_head, failures_text, found_lines, limits_text, slices_tried}
use Rattle.xousorders.specs.Searched.{IsBounded}
use Rattle.order_text.specs.declared.endings.Ending.{Ending}
use Rattle.order_text.specs.declared.endings.Endings.{Endings}
use Rattle.xousorders.specs.declared.limits.Limits.{Limits}
use Rattle.xousorders.specs.declared.search.Told.{Told}
use Rattle.xousorders.specs.declared.view.View.{View}

-- ---- reports

-- a search, and the endings that it found
pub record Report : Type 0 where
  pub finding : Finding
  pub endings : Endings

abbrev pub report_of : Subject → Told → Report
report_of s told = record { finding = finding_of s told.found; endings = told.endings }

-- the line of how much was searched
abbrev pub searched_line : Finding → List ℕ
searched_line f =
    extent_head (length f.edges + 1) (slices_tried f.notes) f.extent
    ++ limits_text f.searched.orders.bound f.strategy f.searched.orders.preemptions

-- its lines: how much was searched, the endings, and those that fail
abbrev pub report_lines : View → Report → List ℕ
report_lines view r =
    searched_line r.finding
    ++ (endings_text r.endings
    ++ (failures_text view.fails.items r.endings.list.items ++ differ_text view.differ (length r.endings.list.items)))

-- the event files of its endings, if there is a folder for them
abbrev pub files_in : Option (List ℕ) → Report → List EventFile
files_in None r = []
files_in (Some folder) r = order_files folder (asked_of r.finding.searched.orders) r.finding.searched.before.items r.endings.list.items

-- lines can ask for the events of each ending's order
abbrev pub AreSpelled : Report → Type 0
AreSpelled r = All (λ ending. AreAskable (events_of (asked_of r.finding.searched.orders) ending.order.items)) r.endings.list.items

-- ---- endings as they are found

-- the endings that a search found so far; and those that it found without counts of steps, if it was begun again with them
pub record Course : Type 0 where
  pub earlier : Option (List Ending)
  pub endings : List Ending

abbrev pub earlier_lines : View → Option (List Ending) → List ℕ
earlier_lines view None = []
earlier_lines view (Some endings) = found_lines view.fails.items 0 endings ++ counting_line

-- the lines of endings as they are found
abbrev pub course_lines : View → Course → List ℕ
course_lines view course = earlier_lines view course.earlier ++ found_lines view.fails.items 0 course.endings

-- The orders that were asked for were searched; or those with the bound, if one comes to a claim of the timer's interrupt. Then these
-- endings were found before, of orders without the bound.
abbrev pub IsSearchedBehind : ℕ → View → Subject → Subject → Option (List Ending) → Type 0
IsSearchedBehind steps view asked searched None = searched ≡ asked
IsSearchedBehind steps view asked searched (Some earlier) = IsBounded steps asked searched × AreReal (searching_of asked) view earlier

-- ---- what is so of a search

-- a failure is among the endings
abbrev pub is_failure : View → List Ending → Bool
is_failure view endings = tells_failure view.fails.items view.differ endings

-- the endings but for the last one
abbrev pub but_last : List Ending → List Ending
but_last endings = take (length endings - 1) endings

-- a search may stop with these endings: at a failure, if it was to stop at the first, or for its time
abbrev pub MayStop : Limits → View → List Ending → Type 0
MayStop limits view endings = ((limits.first ≡ true) × (is_failure view endings ≡ true)) ⊎ IsSome limits.seconds

-- **It is all.** Each order leads to a node that was found; wherever an order ends, what is seen there and of what it fails is told; and
-- breadth first the order of each ending is a shortest one to it.
pub record FindsAll (view : View) (r : Report) : Type 0 where
  pub orders : TellsAllOrders (telling_in r.finding)
  pub endings : TellsAllEndings (telling_in r.finding) view r.endings
  pub shortest : r.finding.strategy ≡ Breadth → AreShortest (telling_in r.finding) view r.endings

-- What was found is so, of at most so many nodes; and if the search is whole, and no two nodes have one digest, it is all. It was made by the
-- strategy that is asked for. If it was to stop at the first failure, it did: no ending but the last is one. Else it stopped for its time at
-- most.
pub record SaysSo (cmp : List ℕ → List ℕ → Ordering) (limits : Limits) (view : View) (r : Report) : Type 0 where
  pub nodes : FindsNodes limits.states r.finding
  pub endings : TellsEndings (telling_in r.finding) view r.endings
  pub whole : r.finding.extent ≡ Whole → DigestsTell (searching_of r.finding.searched) cmp → FindsAll view r
  pub strategy : r.finding.strategy ≡ limits.strategy
  pub stopped : r.finding.extent ≡ Cut Stopped → MayStop limits view r.endings.list.items
  pub first : limits.first ≡ true → is_failure view r.endings.list.items ≡ true → r.finding.extent ≡ Cut Stopped
  pub alone : limits.first ≡ true → is_failure view (but_last r.endings.list.items) ≡ false
