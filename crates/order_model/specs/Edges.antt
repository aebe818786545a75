-- The edges that leave the node of a point, found by its choices.
use Rattle.std.specs.Prelude.{◌≡◌, List, All, map, Some}
use Rattle.order_model.specs.declared.moves.Move.{Move}
use Rattle.order_model.specs.Moves.{Asked, Point, leads}
use Rattle.order_model.specs.Nodes.{node_of}
use Rattle.order_model.specs.declared.choices.Choice.{Choice}
use Rattle.order_model.specs.Choosing.{choice_of}
use Rattle.graph_search.specs.declared.space.Successor.{Successor}

module _ {Key : Type 0} (IsKey : Point → Key → Type 0) (asked : Asked) (p : Point) where
  -- its label leads from the point to one of the node of its key
  pub record IsEdge (edge : Successor Move Key) : Type 0 where
    pub next : Point
    pub leads_is : leads asked p edge.label ≡ Some next
    pub key : IsKey (node_of asked next) edge.key

  -- edges by these choices, one for each
  pub record AreEdgesBy (choices : List Choice) (edges : List (Successor Move Key)) : Type 0 where
    pub each : All IsEdge edges
    pub choices_are : map (λ edge. choice_of edge.label) edges ≡ choices
