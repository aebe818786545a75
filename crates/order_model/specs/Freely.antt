-- Free orders: between their slices any of the events comes anywhere, each number once at most, also where it does nothing.
use Rattle.std.specs.Prelude.{◌≡◌, ◌≤◌, ℕ, true, List, [], ◌∷◌, length, Option, Some}
use Rattle.std.specs.Option.{option_and_then, option_map}
use Rattle.xk_base.specs.declared.events.Event.{Event}
use Rattle.machine_model.specs.Runs.Matched.{Matched}
use Rattle.machine_model.specs.State.Machine.{Machine}
use Rattle.machine_model.specs.Stepping.Events.{nothing}
use Rattle.order_model.specs.declared.moves.Move.{Move}
use Rattle.order_model.specs.declared.moves.Move.TheVariants.{Once, Preempted, Slice}
use Rattle.order_model.specs.Moves.{Asked, Point, behind, is_idle, leads, leads_by, waiting, what_comes, with_come}
use Rattle.order_model.specs.Searches.{IsPointTold, IsSound, IsWhole, Telling}

-- where a move of a free order leads to from a point: any event that hasn't come may come
unfoldable pub leads_freely : Asked → Point → Move → Option Point
leads_freely asked p (Slice who steps) = leads asked p (Slice who steps)
leads_freely asked p (Preempted who steps) = leads asked p (Preempted who steps)
leads_freely asked p (Once k) =
    option_map (λ done. with_come k (behind asked p done)) (option_and_then (λ event. what_comes event p.state) (waiting asked k p))

-- .. and a free order
unfoldable pub leads_freely_by : Asked → Point → List Move → Option Point
leads_freely_by asked p [] = Some p
leads_freely_by asked p (move ∷ free) = option_and_then (λ next. leads_freely_by asked next free) (leads_freely asked p move)

-- the points are the same but for which of the events came: in state, console, exits, and how many slices were preempted
abbrev pub AreAlike : Point → Point → Type 0
AreAlike p q = p ≡ record q { came = p.came }

-- an order, which is no longer than the free one, leads from the point to one like the last
pub record IsOrdered (asked : Asked) (free : List Move) (p last : Point) : Type 0 where
  pub order : List Move
  pub other : Point
  pub leads : leads_by asked p order ≡ Some other
  pub alike : AreAlike other last
  pub no_longer : length order ≤ length free

-- the node of a point like that one is told, with its note; breadth first, by an order of so many moves at most
pub record IsLikeTold (t : Telling) (p : Point) (most : ℕ) : Type 0 where
  pub other : Point
  pub alike : AreAlike other p
  pub told : IsPointTold t other most

-- ---- laws

-- **An idle event does nothing**: it leaves the state as it is, and no record.
abbrev pub IdleEventsDoNothing : Type 0
IdleEventsDoNothing = (event : Event) (m : Machine) → is_idle event m ≡ true → what_comes event m ≡ Some (nothing m)

-- **Free orders are orders**: where a free order leads, an order leads, to the same state with the same console and exits, and as many
-- slices were preempted.
abbrev pub FreeOrdersAreOrders : Type 0
FreeOrdersAreOrders =
    (asked : Asked) (free : List Move) (p last : Point) → leads_freely_by asked p free ≡ Some last → IsOrdered asked free p last

-- **A whole search leaves no free order out.**
abbrev pub FreeOrdersAreTold : Type 0
FreeOrdersAreTold =
    (t : Telling) (free : List Move) (last : Point) → Matched t.start.state → IsSound t → IsWhole t
    → leads_freely_by t.asked t.start free ≡ Some last → IsLikeTold t last (length free)
