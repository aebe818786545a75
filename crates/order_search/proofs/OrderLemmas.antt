-- Where an order leads: to a state of a history, and to a node whose edges and note are told.
use Rattle.std.proofs.Common.{◌≡◌, List, Some, ap, arith, refl, sym, subst, ◌∙◌}
use Rattle.machine_laws.proofs.Histories.MomentLemmas.{history_matched}
use Rattle.machine_laws.proofs.Histories.ReservedLemmas.{history_reserved}
use Rattle.machine_laws.specs.History.{History, history}
use Rattle.machine_laws.specs.Reserved.{IsReservedByThread}
use Rattle.machine_model.specs.Runs.Matched.{Matched}
use Rattle.machine_model.specs.State.Machine.{Machine}
use Rattle.order_model.proofs.Moving.PlayLemmas.{orders_are_played}
use Rattle.order_model.proofs.Moving.SeenLemmas.{note_alike}
use Rattle.order_model.specs.declared.moves.Move.{Move}
use Rattle.order_model.specs.declared.moves.Note.{Note}
use Rattle.order_model.specs.Moves.{Asked, Bound, Point, Unbounded, UpTo, events_of, leads_by}
use Rattle.order_model.specs.Nodes.{after, goes_on, node_of, set_aside}
use Rattle.order_model.specs.Orders.{IsPlayed}
use Rattle.order_model.specs.Searches.{IsNoteOf}
use Rattle.order_model.proofs.EdgeLemmas.{choices_are_edges}
use Rattle.order_model.specs.declared.choices.Choice.{Choice}
use Rattle.order_model.specs.Choosing.{IsSeen, all_choices_at}
use Rattle.order_model.specs.Edges.{AreEdgesBy}
use Rattle.graph_search.specs.declared.space.Successor.{Successor}
use Rattle.graph_search.specs.Edges.{AreEdges}

-- a state to which an order leads is one of a history
module _ (asked : Asked) (p last : Point) (order : List Move) (matched : Matched p.state) (leads : leads_by asked p order ≡ Some last) where
  played : IsPlayed asked order last.state.steps p last
  played = orders_are_played asked order last.state.steps p last leads (omega arith)

  there : (history (events_of asked order) last.state.steps p.state).machine ≡ last.state
  there = ap (λ (h : History). h.machine) played.is

  pub last_matched : Matched last.state
  last_matched = subst Matched there (history_matched (events_of asked order) last.state.steps p.state matched)

  pub last_reserved : IsReservedByThread p.state → IsReservedByThread last.state
  last_reserved reserved =
      subst IsReservedByThread there (history_reserved (events_of asked order) last.state.steps p.state matched reserved)

goes_on_aside : (bound : Bound) (m : Machine) → goes_on bound (set_aside bound m) ≡ goes_on bound m
goes_on_aside Unbounded m = refl
goes_on_aside (UpTo bound) m = refl

-- what is told of a point is told of its node
module _ (asked : Asked) (p node : Point) (at : node_of asked p ≡ node) (choices : List Choice) (note : Note) (seen : IsSeen asked p choices note) where
  pub note_right : IsNoteOf asked node note
  note_right =
      let here : IsNoteOf asked (node_of asked p) note = record {
        goes_on = goes_on_aside asked.bound p.state ∙ seen.goes_on;
        is = seen.note_is ∙ sym (note_alike asked p);
      } in
      subst (λ (n : Point). IsNoteOf asked n note) at here

  pub edges_right : {Key : Type 0} (IsKey : Point → Key → Type 0) (edges : List (Successor Move Key)) → Matched p.state
      → AreEdgesBy IsKey asked p (all_choices_at asked p) edges → AreEdges (after asked) IsKey node edges
  edges_right IsKey edges matched by =
      subst (λ (n : Point). AreEdges (after asked) IsKey n edges) at
      (choices_are_edges IsKey asked p matched seen.goes_on edges by)
