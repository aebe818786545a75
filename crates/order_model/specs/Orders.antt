-- Orders of moves: their events play them, and the search of nodes goes through each of them.
use Rattle.std.specs.Prelude.{◌≡◌, ◌≤◌, ℕ, ◌+◌, ◌++◌, Bool, true, false, List, [], ◌∷◌, count_by, Some}
use Rattle.std.specs.Bool.{⊤}
use Rattle.std.specs.Option.{option_map}
use Rattle.xk_base.specs.declared.records.Rec.{Rec}
use Rattle.machine_model.specs.Runs.Matched.{Matched}
use Rattle.machine_laws.specs.History.{history}
use Rattle.graph_search.specs.Graph.{node_by}
use Rattle.order_model.specs.declared.moves.Move.{Move}
use Rattle.order_model.specs.declared.moves.Move.TheVariants.{Once, Preempted, Slice}
use Rattle.order_model.specs.Exits.{exits_on, kept_ends}
use Rattle.order_model.specs.Moves.{Asked, Point, bytes_of, events_of, leads, leads_by}
use Rattle.order_model.specs.Nodes.{after, goes_on, node_of}

-- the events of an order lead from the point to that one: to its state, within the limit, to its console, and to its exits
pub record IsPlayed (asked : Asked) (order : List Move) (limit : ℕ) (p last : Point) : Type 0 where
  pub records : List Rec
  pub is : history (events_of asked order) limit p.state ≡ record { records = records; machine = last.state; met = false }
  pub console : last.console ≡ p.console ++ bytes_of records
  pub exits : last.exits ≡ exits_on p.exits (kept_ends asked.exits records)

abbrev pub is_preemption : Move → Bool
is_preemption (Slice who steps) = false
is_preemption (Preempted who steps) = true
is_preemption (Once k) = false

-- how many slices of the order are preempted
abbrev pub preemptions_in : List Move → ℕ
preemptions_in order = count_by is_preemption order

-- as many were preempted on the way from the point to that one; and if no more than are asked for were before, no more are there
pub record AreCounted (asked : Asked) (order : List Move) (p last : Point) : Type 0 where
  pub count : last.preempted ≡ p.preempted + preemptions_in order
  pub within : p.preempted ≤ asked.preemptions → last.preempted ≤ asked.preemptions

-- the orders go on at each point before the last
unfoldable pub GoOn : Asked → Point → List Move → Type 0
GoOn asked p [] = ⊤
GoOn asked p (move ∷ order) =
    (goes_on asked.bound p.state ≡ true) × ((next : Point) → leads asked p move ≡ Some next → GoOn asked next order)

-- ---- laws

-- **Each order is played by its events**, where the limit allows its steps.
abbrev pub OrdersArePlayed : Type 0
OrdersArePlayed =
    (asked : Asked) (order : List Move) (limit : ℕ) (p last : Point) → leads_by asked p order ≡ Some last → last.state.steps ≤ limit
    → IsPlayed asked order limit p last

-- **Preemptions are counted.**
abbrev pub PreemptionsAreCounted : Type 0
PreemptionsAreCounted =
    (asked : Asked) (order : List Move) (p last : Point) → leads_by asked p order ≡ Some last → AreCounted asked order p last

-- **Few preemptions are allowed**: an order that leads somewhere if more slices may be preempted leads there if as many may be as it has.
abbrev pub FewPreemptionsAreAllowed : Type 0
FewPreemptionsAreAllowed =
    (asked : Asked) (more : ℕ) (order : List Move) (p last : Point) → leads_by (record asked { preemptions = more }) p order ≡ Some last
    → p.preempted + preemptions_in order ≤ asked.preemptions → leads_by asked p order ≡ Some last

-- **Each order is a path of nodes.** It leads from the node of a point to that of the point where it leads, and nowhere where it leads
-- nowhere.
abbrev pub OrdersArePaths : Type 0
OrdersArePaths =
    (asked : Asked) (order : List Move) (p : Point) → Matched p.state → GoOn asked p order
    → node_by (after asked) (node_of asked p) order ≡ option_map (node_of asked) (leads_by asked p order)
