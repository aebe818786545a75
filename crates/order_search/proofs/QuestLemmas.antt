-- Paths of a search are orders from its start, which is a state of a run; and so is each state to which an order leads.
use Rattle.std.proofs.Common.{◌≡◌, List, length, Some, All, IsSome, is_some, ap}
use Rattle.boot_plan.specs.Lawful.{CanStart, IsLawfulPlan}
use Rattle.event_text.specs.EventFile.{input_of}
use Rattle.machine_laws.proofs.Histories.MomentLemmas.{history_matched}
use Rattle.machine_laws.proofs.Histories.ReservedLemmas.{history_reserved}
use Rattle.machine_laws.specs.Reserved.{IsReservedByThread}
use Rattle.machine_model.specs.Runs.Matched.{Matched}
use Rattle.order_model.proofs.Moving.SearchLemmas.{paths_are_orders}
use Rattle.order_model.specs.declared.moves.Move.{Move}
use Rattle.order_model.specs.Moves.{Point, leads_by}
use Rattle.order_model.specs.Searches.{LeadsTo}
use Rattle.order_model.specs.Asking.{asked_of}
use Rattle.order_search.proofs.OrderLemmas.{last_matched, last_reserved}
use Rattle.order_search.specs.declared.subject.Subject.{Subject}
use Rattle.order_search.specs.Quests.{Arrives, IsPath, first_node, next_node, searching_of, start_of}
use Rattle.graph_search.specs.Graph.{node_by}
use Rattle.xk_base.specs.declared.limits.TheConstants.{STEP_LIMIT}
use Rattle.xk_kernel.proofs.Starting.FirstLawfulLemmas.{start_of_plan_matched}
use Rattle.xk_kernel.proofs.Starting.UnreservedLemmas.{start_unreserved}
use Rattle.xk_kernel.specs.Start.{start}

module _ (s : Subject) (lawful : IsLawfulPlan (length s.file.items) s.plan) (can_start : All CanStart s.plan.procs) where
  booted : Matched (start s.plan s.file.items)
  booted = start_of_plan_matched s.plan s.file.items lawful can_start

  pub start_matched : Matched (start_of s).state
  unfolding start_of
  start_matched = history_matched (input_of s.before.items).events STEP_LIMIT (start s.plan s.file.items) booted

  start_reserved : IsReservedByThread (start_of s).state
  unfolding start_of
  start_reserved =
      history_reserved (input_of s.before.items).events STEP_LIMIT (start s.plan s.file.items) booted (start_unreserved s.plan s.file.items)

  pub path_leads : (path : List Move) (node : Point) → node_by (next_node (searching_of s)) (first_node (searching_of s)) path ≡ Some node
      → LeadsTo (asked_of s.orders) (start_of s) path node
  path_leads path node led = paths_are_orders (asked_of s.orders) path (start_of s) node start_matched led

  pub path_arrives : (path : List Move) → IsPath (searching_of s) path → IsSome (leads_by (asked_of s.orders) (start_of s) path)
  path_arrives path led = let to = path_leads path led.0 led.1 in ap is_some to.leads

  pub arrived_matched : (order : List Move) (p : Point) → Arrives (searching_of s) order p → Matched p.state
  arrived_matched order p arrives = last_matched (asked_of s.orders) (start_of s) p order start_matched arrives

  pub arrived_reserved : (order : List Move) (p : Point) → Arrives (searching_of s) order p → IsReservedByThread p.state
  arrived_reserved order p arrives = last_reserved (asked_of s.orders) (start_of s) p order start_matched arrives start_reserved
