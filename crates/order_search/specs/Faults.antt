-- Why orders aren't searched on, and that the events before are played whole.
use Rattle.std.specs.Prelude.{◌≡◌, ◌⊎◌, true, List, is_some, None, Some}
use Rattle.event_player.specs.declared.ending.Ending.TheVariants.{BadLine, LimitMet, Played}
use Rattle.graph_search.specs.declared.space.Unanswered.{Unanswered}
use Rattle.graph_search.specs.declared.space.Unanswered.TheVariants.{Fault, Memory}
use Rattle.order_model.specs.declared.moves.Move.{Move}
use Rattle.order_model.specs.Asking.{asked_of}
use Rattle.order_model.specs.Moves.{Asked, Point, leads_by}
use Rattle.order_player.specs.declared.moves.MoveFault.{MoveFault}
use Rattle.order_player.specs.declared.moves.MoveFault.TheVariants as moves
use Rattle.order_player.specs.Runs.{IsNearLimit, MeetsLimit}
use Rattle.order_search.specs.declared.quest.OrderFault.{OrderFault}
use Rattle.order_search.specs.declared.quest.OrderFault.TheVariants.{Line, Steps, Timer}
use Rattle.order_search.specs.declared.subject.Subject.{Subject}
use Rattle.order_search.specs.Quests.{Searching, history_before, searching_of, start_of}
use Rattle.xk_base.specs.declared.limits.TheConstants.{TIMER_INTERRUPT}

-- the events before are played whole: no line is bad, and they don't meet the step limit
abbrev pub IsBegun : Subject → Type 0
IsBegun s = (history_before s).ending ≡ Played

-- an order leads to a state where a process has claimed the timer's interrupt
pub record ComesToTimer (q : Searching) : Type 0 where
  pub order : List Move
  pub last : Point
  pub leads : leads_by q.asked q.start order ≡ Some last
  pub claimed : is_some (last.state.claims TIMER_INTERRUPT) ≡ true

-- Why an order isn't played. Steps: the events before meet the step limit, or an order comes near it. Line: they end at this bad line, which
-- is their first.
abbrev pub IsRunFault : Subject → OrderFault → Type 0
IsRunFault s Steps = ((history_before s).ending ≡ LimitMet) ⊎ MeetsLimit (asked_of s.orders) (start_of s)
IsRunFault s (Line line) = (history_before s).ending ≡ BadLine line
IsRunFault s Timer = ⊥

-- Why orders aren't searched on: one isn't played; or they have no bound, and one comes to a claim of the timer's interrupt.
abbrev pub IsFault : Subject → OrderFault → Type 0
IsFault s Steps = IsRunFault s Steps
IsFault s (Line line) = IsRunFault s (Line line)
IsFault s Timer = (s.orders.bound ≡ None) × ComesToTimer (searching_of s)

-- ---- of parts

-- it is want of memory
abbrev pub IsMemory : {F : Type 0} → Unanswered F → Type 0
IsMemory (Memory error) = Unit {0}
IsMemory (Fault fault) = ⊥

-- a fault of a move, as it is answered
abbrev pub IsUnplayed : MoveFault → Unanswered OrderFault → Type 0
IsUnplayed moves.Steps answer = answer ≡ Fault Steps
IsUnplayed moves.Memory answer = IsMemory answer
IsUnplayed moves.Swap answer = IsMemory answer

-- a choice at a point isn't made: it is near the limit, or there is no memory
abbrev pub IsUnchosen : Asked → Point → Unanswered OrderFault → Type 0
IsUnchosen asked p (Memory error) = Unit {0}
IsUnchosen asked p (Fault Steps) = IsNearLimit asked p
IsUnchosen asked p (Fault Timer) = ⊥
IsUnchosen asked p (Fault (Line line)) = ⊥
