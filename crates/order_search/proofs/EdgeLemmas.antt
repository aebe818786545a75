-- Edges by choices, one after another; and by all choices at a point, those that leave its node.
use Rattle.std.proofs.Common.{◌≡◌, ◌<◌, ◌+◌, ℕ, suc, List, [], ◌∷◌, ◌++◌, length, take, Some, refl, sym, ap, subst, ◌∙◌, append_assoc, arith}
use Rattle.std.specs.Prelude.{get_or}
use Rattle.std.proofs.Math.Seq.{take-suc}
use Rattle.std.proofs.lemmas.List.{map-append}
use Rattle.std.proofs.lemmas.Option.{same_Some}
use Rattle.std.proofs.lemmas.List.Elements.{All-append, All-cons, All-nil}
use Rattle.order_model.specs.declared.moves.Move.{Move}
use Rattle.order_model.specs.Moves.{Asked, Point, leads, leads_by}
use Rattle.order_model.specs.Nodes.{node_of}
use Rattle.order_model.specs.declared.choices.Choice.{Choice}
use Rattle.order_model.specs.Choosing.{choice_of}
use Rattle.order_model.specs.Edges.{AreEdgesBy, IsEdge}
use Rattle.graph_search.specs.declared.space.Successor.{Successor}

module _ {Key : Type 0} (IsKey : Point → Key → Type 0) (asked : Asked) (p : Point) where
  pub no_edges : (edges : List (Successor Move Key)) → edges ≡ [] → AreEdgesBy IsKey asked p [] edges
  no_edges edges none =
      let E : List (Successor Move Key) → Type 0 = λ es. AreEdgesBy IsKey asked p [] es in
      let here : E [] = record { each = All-nil (IsEdge IsKey asked p); choices_are = refl } in
      subst E (sym none) here

  edge_added : (choices : List Choice) (choice : Choice) (edges more : List (Successor Move Key)) (edge : Successor Move Key)
      → AreEdgesBy IsKey asked p choices edges → IsEdge IsKey asked p edge → choice_of edge.label ≡ choice → more ≡ edges ++ edge ∷ []
      → AreEdgesBy IsKey asked p (choices ++ choice ∷ []) more
  edge_added choices choice edges more edge by is same there =
      let E : List (Successor Move Key) → Type 0 = λ es. AreEdgesBy IsKey asked p (choices ++ choice ∷ []) es in
      let here : E (edges ++ edge ∷ []) = record {
        each = All-append (IsEdge IsKey asked p) edges (edge ∷ []) by.each
            (All-cons (IsEdge IsKey asked p) edge [] is (All-nil (IsEdge IsKey asked p)));
        choices_are =
            map-append (λ (e : Successor Move Key). choice_of e.label) edges (edge ∷ [])
            ∙ (λ i. by.choices_are i ++ same i ∷ []);
      } in
      subst E (sym there) here

  -- the edge by the next of these choices, behind those by others
  pub next_edge : (before choices : List Choice) (k : ℕ) (edges more : List (Successor Move Key)) (edge : Successor Move Key) (d : Choice)
      → k < length choices → AreEdgesBy IsKey asked p (before ++ take k choices) edges → IsEdge IsKey asked p edge
      → choice_of edge.label ≡ get_or choices k d → more ≡ edges ++ edge ∷ []
      → AreEdgesBy IsKey asked p (before ++ take (k + 1) choices) more
  next_edge before choices k edges more edge d low by is same there =
      let E : List Choice → Type 0 = λ cs. AreEdgesBy IsKey asked p cs more in
      let next : k + 1 ≡ suc k = omega arith in
      let further : take (k + 1) choices ≡ take k choices ++ get_or choices k d ∷ [] =
      ap (λ (n : ℕ). take n choices) next ∙ take-suc choices k d low in
      let behind : before ++ take (k + 1) choices ≡ (before ++ take k choices) ++ get_or choices k d ∷ [] =
      ap (λ (cs : List Choice). before ++ cs) further ∙ sym (append_assoc before (take k choices) (get_or choices k d ∷ [])) in
      subst E (sym behind) (edge_added (before ++ take k choices) (get_or choices k d) edges more edge by is same there)

  -- an edge alone
  pub one_edge : (choice : Choice) (none more : List (Successor Move Key)) (edge : Successor Move Key) → none ≡ []
      → IsEdge IsKey asked p edge → choice_of edge.label ≡ choice → more ≡ none ++ edge ∷ [] → AreEdgesBy IsKey asked p (choice ∷ []) more
  one_edge choice none more edge empty is same there = edge_added [] choice none more edge (no_edges none empty) is same there

-- an edge that was found at the end of an order
pub edge_of : {Key : Type 0} (IsKey : Point → Key → Type 0) (asked : Asked) (start : Point) (order : List Move) (p here next : Point)
    (edge : Successor Move Key) → leads_by asked start order ≡ Some p → leads_by asked start order ≡ Some here
    → leads asked here edge.label ≡ Some next → IsKey (node_of asked next) edge.key → IsEdge IsKey asked p edge
edge_of IsKey asked start order p here next edge at there led key =
    let E : Point → Type 0 = λ x. IsEdge IsKey asked x edge in
    let one : E here = record { next = next; leads_is = led; key = key } in
    subst E (same_Some here p (sym there ∙ at)) one
