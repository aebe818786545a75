-- What a search of nodes says of orders.
use Rattle.std.proofs.Common.{◌≡◌, ◌≤◌, ◌+◌, ℕ, zero, suc, Bool, true, false, List, [], ◌∷◌, ◌++◌, length, Option, Some, None, refl, sym, ap, ◌∙◌, arith, subst}
use Rattle.std.specs.Prelude.{slice_get, if◌then◌else◌}
use Rattle.std.specs.Option.{option_and_then, option_map}
use Rattle.std.proofs.lemmas.Option.{none-some, same_Some}
use Rattle.machine_model.specs.Runs.Matched.{Matched}
use Rattle.machine_model.specs.State.Machine.{Machine}
use Rattle.graph_search.specs.declared.found.Edge.{Edge}
use Rattle.graph_search.specs.declared.found.Strategy.{Strategy}
use Rattle.graph_search.specs.Graph.{node_by}
use Rattle.graph_search.specs.Paths.{labels_to}
use Rattle.graph_search.specs.Told.{IsFound, IsTold}
use Rattle.order_model.specs.declared.moves.Move.{Move}
use Rattle.order_model.specs.declared.moves.Note.{Note}
use Rattle.order_model.specs.Moves.{Asked, Bound, Point, Unbounded, UpTo, leads, leads_by}
use Rattle.order_model.specs.Nodes.{after, goes_on, node_of, set_aside}
use Rattle.order_model.specs.Orders.{GoOn}
use Rattle.order_model.specs.Searches.{IsPointTold, IsSound, IsToldOrder, IsWhole, LeadsTo, OrdersAreTold, PathsAreOrders, Telling}
use Rattle.order_model.specs.Searches.{ToldAreOrders, note_of}
use Rattle.order_model.proofs.Moving.NodeLemmas.{nodes_lead_alike}
use Rattle.order_model.proofs.Moving.SeenLemmas.{note_alike}
use Rattle.order_model.proofs.Moving.PathLemmas.{move_keeps, orders_are_paths}

-- the test holds where there is a value behind it
tested : (b : Bool) (o : Option Point) (node : Point) → (if b then o else None) ≡ Some node → b ≡ true
tested true o node e = refl
tested false o node e = absurd (none-some node e)

goes_on_aside : (bound : Bound) (m : Machine) → goes_on bound (set_aside bound m) ≡ goes_on bound m
goes_on_aside Unbounded m = refl
goes_on_aside (UpTo bound) m = refl

module _ (asked : Asked) where
  -- ---- paths are orders

  pub record Leads (p : Point) (move : Move) (node : Point) : Type 0 where
    pub next : Point
    pub leads_is : leads asked p move ≡ Some next
    pub is : node_of asked next ≡ node

  edge_goes_on : (p node : Point) (move : Move) → after asked (node_of asked p) move ≡ Some node → goes_on asked.bound p.state ≡ true
  unfolding after
  edge_goes_on p node move e =
      sym (goes_on_aside asked.bound p.state)
      ∙ tested (goes_on asked.bound (node_of asked p).state) (option_map (node_of asked) (leads asked (node_of asked p) move)) node e

  edge_leads : (p node : Point) (move : Move) → Matched p.state → after asked (node_of asked p) move ≡ Some node → Leads p move node
  edge_leads p node move h e =
      go (leads asked p move) refl (sym (nodes_lead_alike asked p move h (edge_goes_on p node move e)) ∙ e)
    where
      go : (o : Option Point) → leads asked p move ≡ o → option_map (node_of asked) o ≡ Some node → Leads p move node
      go None q f = absurd (none-some node f)
      go (Some next) q f = record { next = next; leads_is = q; is = same_Some (node_of asked next) node f }

  path_leads : (path : List Move) (p node : Point) → Matched p.state → node_by (after asked) (node_of asked p) path ≡ Some node
      → LeadsTo asked p path node
  unfolding leads_by
  path_leads [] p node h e = record { last = p; leads = refl; is = same_Some (node_of asked p) node e }
  path_leads (move ∷ path) p node h e =
      go (λ next same f. path_leads path next node same f) (after asked (node_of asked p) move) refl e
    where
      go : ((next : Point) → Matched next.state → node_by (after asked) (node_of asked next) path ≡ Some node → LeadsTo asked next path node)
          → (o : Option Point) → after asked (node_of asked p) move ≡ o
          → option_and_then (λ next. node_by (after asked) next path) o ≡ Some node → LeadsTo asked p (move ∷ path) node
      go rest None q f = absurd (none-some node f)
      go rest (Some n) q f =
          let one : Leads p move n = edge_leads p n move h q in
          let later : LeadsTo asked one.next path node =
          rest one.next (move_keeps asked p one.next move h one.leads_is)
          (ap (λ x. node_by (after asked) x path) one.is ∙ f) in
          record {
            last = later.last;
            leads = ap (option_and_then (λ next. leads_by asked next path)) one.leads_is ∙ later.leads;
            is = later.is;
          }

  -- ---- orders are told

  node_by-append : (m : Point) (p q : List Move)
      → node_by (after asked) m (p ++ q) ≡ option_and_then (λ n. node_by (after asked) n q) (node_by (after asked) m p)
  node_by-append m [] q = refl
  node_by-append m (move ∷ p) q = go (λ n. node_by-append n p q) (after asked m move)
    where
      go : ((n : Point) → node_by (after asked) n (p ++ q) ≡ option_and_then (λ x. node_by (after asked) x q) (node_by (after asked) n p))
          → (o : Option Point)
          → option_and_then (λ n. node_by (after asked) n (p ++ q)) o
          ≡ option_and_then (λ x. node_by (after asked) x q) (option_and_then (λ n. node_by (after asked) n p) o)
      go later None = refl
      go later (Some n) = later n

  module _ (start : Point) (strategy : Strategy) (edges : List (Edge Move)) (notes : List Note) where
    abbrev t : Telling
    t = record { asked = asked; start = start; strategy = strategy; edges = edges; notes = notes }

    -- there is a note of each number below their count
    note_at : (ns : List Note) (i : ℕ) → i + 1 ≤ length ns → (note : Note) × (slice_get ns i ≡ Some note)
    note_at [] i less = absurd (let no : ⊥ = omega (arith, less) in no)
    note_at (note ∷ ns) zero less = (note, refl)
    note_at (note ∷ ns) (suc i) less = note_at ns i (omega (arith, less))

    -- a point whose node is told, and its note
    noted : (sound : IsSound t) (number : ℕ) (p : Point) (note : Note)
        → IsFound (after asked) (node_of asked start) edges number (node_of asked p) → slice_get notes number ≡ Some note
        → (goes_on asked.bound p.state ≡ true) × (note ≡ note_of asked p.state)
    noted sound number p note found is =
        let right = sound.noted number (node_of asked p) note found is in
        (sym (goes_on_aside asked.bound p.state) ∙ right.goes_on, right.is ∙ note_alike asked p)

    told_order : Matched start.state → IsSound t → (number : ℕ) → number ≤ length edges → IsToldOrder t number
    told_order h sound number within =
        let led : (node : Point) × IsFound (after asked) (node_of asked start) edges number node = sound.led_to number within in
        let to : LeadsTo asked start (labels_to edges number) led.0 = path_leads (labels_to edges number) start led.0 h led.1.by_path in
        record {
          last = to.last;
          leads = to.leads;
          noted = λ note is.
              (noted sound number to.last note (subst (IsFound (after asked) (node_of asked start) edges number) (sym to.is) led.1) is).1;
        }

    module _ (sound : IsSound t) (whole : IsWhole t) where
      point_told : (path : List Move) (p : Point) → node_by (after asked) (node_of asked start) path ≡ Some (node_of asked p)
          → (goes_on asked.bound p.state ≡ true) × IsPointTold t p (length path)
      point_told path p at =
          let told : IsTold (after asked) (node_of asked start) strategy edges (node_of asked p) (length path) = whole.all path (node_of asked p) at in
          let within : told.number ≤ length edges = told.is.told in
          let all : length notes ≡ length edges + 1 = whole.followed in
          let note = note_at notes told.number (omega (arith, within, all)) in
          let right = noted sound told.number p note.0 told.is note.1 in (
            right.0,
            record {
              number = told.number;
              found = told.is;
              no_longer = told.no_longer;
              noted = note.1 ∙ ap Some right.1;
            },
          )

      one_more : (path : List Move) (p next : Point) (move : Move) → Matched p.state
          → node_by (after asked) (node_of asked start) path ≡ Some (node_of asked p) → leads asked p move ≡ Some next
          → node_by (after asked) (node_of asked start) (path ++ move ∷ []) ≡ Some (node_of asked next)
      one_more path p next move h at e =
          node_by-append (node_of asked start) path (move ∷ [])
          ∙ (ap (option_and_then (λ n. node_by (after asked) n (move ∷ []))) at
          ∙ ap (option_and_then (λ n. node_by (after asked) n []))
          (nodes_lead_alike asked p move h (point_told path p at).0 ∙ ap (option_map (node_of asked)) e))

      goes_on_along : (order path : List Move) (p : Point) → Matched p.state
          → node_by (after asked) (node_of asked start) path ≡ Some (node_of asked p) → GoOn asked p order
      unfolding GoOn
      goes_on_along [] path p h at = tt
      goes_on_along (move ∷ order) path p h at = (
        (point_told path p at).0,
        λ next e. goes_on_along order (path ++ move ∷ []) next (move_keeps asked p next move h e) (one_more path p next move h at e),
      )

      order_told : Matched start.state → (order : List Move) (last : Point) → leads_by asked start order ≡ Some last
          → IsPointTold t last (length order)
      order_told h order last e =
          (point_told order last
          (orders_are_paths asked order start h (goes_on_along order [] start h refl) ∙ ap (option_map (node_of asked)) e)).1

pub paths_are_orders : PathsAreOrders
paths_are_orders asked path p node h e = path_leads asked path p node h e

pub told_are_orders : ToldAreOrders
told_are_orders t number h sound within = told_order t.asked t.start t.strategy t.edges t.notes h sound number within

pub orders_are_told : OrdersAreTold
orders_are_told t order last h sound whole e = order_told t.asked t.start t.strategy t.edges t.notes sound whole h order last e
