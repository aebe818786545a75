-- The events before are played.
use Rattle.std.specs.Prelude.{◌≡◌, ℕ, List}
use Rattle.event_player.specs.History.{History}
use Rattle.event_player.specs.declared.ending.Ending.{Ending}
use Rattle.event_player.specs.declared.ending.Ending.TheVariants.{BadLine, LimitMet, Played}
use Rattle.graph_search.specs.declared.space.Unanswered.{Unanswered}
use Rattle.graph_search.specs.declared.space.Unanswered.TheVariants.{Fault, Memory}
use Rattle.machine_model.specs.State.Machine.{Machine}
use Rattle.order_model.specs.Moves.{bytes_of}
use Rattle.order_search.specs.declared.quest.OrderFault.{OrderFault}
use Rattle.order_search.specs.declared.quest.OrderFault.TheVariants.{Line, Steps, Timer}

-- a history ended with its last event, in this state, and these bytes went to the console
pub record IsPlayedWhole (h : History) (now : Machine) (console : List ℕ) : Type 0 where
  pub machine : now ≡ h.machine
  pub console_is : console ≡ bytes_of h.records
  pub ending : h.ending ≡ Played

-- why a history isn't played whole, by how it ended; or for want of memory
abbrev pub Unplayed : Ending → Unanswered OrderFault → Type 0
Unplayed ending (Memory error) = Unit {0}
Unplayed ending (Fault Steps) = ending ≡ LimitMet
Unplayed ending (Fault (Line line)) = ending ≡ BadLine line
Unplayed ending (Fault Timer) = ⊥
