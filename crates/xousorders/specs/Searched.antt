-- Which orders were searched, and why they aren't searched on.
use Rattle.std.specs.Prelude.{◌≡◌, ℕ, List, Some}
use Rattle.graph_search.specs.declared.search.Search.{Search}
use Rattle.order_model.specs.declared.moves.Move.{Move}
use Rattle.order_model.specs.declared.moves.Note.{Note}
use Rattle.order_model.specs.Searches.{Telling}
use Rattle.order_search.specs.declared.quest.OrderFault.TheVariants.{Line, Steps}
use Rattle.order_search.specs.declared.subject.Subject.{Subject}
use Rattle.order_search.specs.Faults.{ComesToTimer, IsFault}
use Rattle.order_search.specs.Found.{telling_of}
use Rattle.order_search.specs.Quests.{searching_of}
use Rattle.program_status.specs.declared.status.Status.{Status}
use Rattle.program_status.specs.declared.status.Status.TheVariants.{EventFault, NoMemory, StepLimit}
use Rattle.xk_base.specs.declared.limits.TheConstants.{STEP_LIMIT}

-- the same orders with a bound of steps
abbrev pub bounded : ℕ → Subject → Subject
bounded steps s = record s { orders = record s.orders { bound = Some steps } }

-- the orders were searched with the bound, as one without it comes to a claim of the timer's interrupt
pub record IsBounded (steps : ℕ) (asked searched : Subject) : Type 0 where
  pub timer : ComesToTimer (searching_of asked)
  pub is : searched ≡ bounded steps asked

-- what a search of these orders tells so far
abbrev pub telling_at : Subject → Search Move (List ℕ) Note → Telling
telling_at s search = telling_of (searching_of s) search.strategy search.edges.items search.notes.items

-- Orders aren't searched on: the events before meet the step limit, or an order comes near it; the events before have this first bad line; or
-- there is no memory.
abbrev pub IsStopped : Subject → Status → Type 0
IsStopped s (StepLimit limit) = (limit ≡ STEP_LIMIT) × IsFault s Steps
IsStopped s (EventFault line) = IsFault s (Line line)
IsStopped s NoMemory = Unit {0}
IsStopped s status = ⊥
