-- Edges by all choices at a point are those that leave its node.
use Rattle.std.proofs.Common.{◌≡◌, ◌<◌, ℕ, Bool, true, false, List, [], length, Option, Some, None, is_some, refl, sym, ap, subst, ◌∙◌}
use Rattle.std.specs.Prelude.{map, slice_get, if◌then◌else◌}
use Rattle.std.specs.List.{Contains}
use Rattle.std.specs.Option.{option_and_then, option_map, option_map_or}
use Rattle.std.proofs.lemmas.Bool.{false≢true}
use Rattle.std.proofs.lemmas.List.{length-map}
use Rattle.std.proofs.lemmas.List.Elements.{All-get_or, Contains-append_left, Contains-append_right}
use Rattle.std.proofs.lemmas.Option.{none-some, same_Some, slice_get-get_or, slice_get-map, slice_get_within, get_or_from_slice_get}
use Rattle.machine_model.specs.Runs.Matched.{Matched}
use Rattle.machine_model.specs.State.Machine.{Machine, Thread}
use Rattle.machine_model.specs.State.Order.{is_ready, ready_at}
use Rattle.order_model.specs.declared.moves.Move.{Move}
use Rattle.order_model.specs.declared.moves.Move.TheVariants.{Once, Preempted, Slice}
use Rattle.order_model.specs.Endings.{ready_ids, turns_at}
use Rattle.order_model.specs.Moves.{Asked, Point, is_at_bound, leads, what_comes}
use Rattle.order_model.specs.Nodes.{after, goes_on, node_of}
use Rattle.order_model.proofs.Moving.NodeLemmas.{nodes_lead_alike}
use Rattle.order_model.specs.declared.choices.Choice.{Choice}
use Rattle.order_model.specs.declared.choices.Choice.TheVariants.{Comes, Goes, Preempts}
use Rattle.order_model.specs.Choosing.{all_choices_at, choice_of, choices_at, comes_at, events_at, preemptions_at}
use Rattle.order_model.specs.Edges.{AreEdgesBy, IsEdge}
use Rattle.order_model.proofs.MoveLemmas.{may_come_there, may_go, preempted_may}
use Rattle.order_model.proofs.PreemptionLemmas.{contains_map, may_turn, preemption_there}
use Rattle.graph_search.specs.declared.space.Successor.{Successor}
use Rattle.graph_search.specs.Edges.{AreEdges, HasLabel}
use Rattle.xk_base.specs.declared.ids.ThreadId.{ThreadId}
use Rattle.xk_base.proofs.CircleLemmas.{listed_ids-contains}
use Rattle.xk_base.proofs.CountingLemmas.{listed_below-contains}

-- ---- the choice of a move that may be made is among those at the point

ready_there : (m : Machine) (who : ThreadId) → ready_at m who ≡ true → (t : Thread) × (m.threads who ≡ Some t)
ready_there m who ready = go (m.threads who) refl
  where
    go : (o : Option Thread) → m.threads who ≡ o → (t : Thread) × (m.threads who ≡ Some t)
    go None none = absurd (false≢true (sym (ap (λ (o : Option Thread). option_map_or (λ (t : Thread). is_ready t.state) o false) none) ∙ ready))
    go (Some t) there = (t, there)

module _ (asked : Asked) (p : Point) (matched : Matched p.state) where
  turn_listed : (who : ThreadId) → ready_at p.state who ≡ true → is_at_bound asked.bound p.state ≡ false → Contains (turns_at asked p.state) who
  unfolding ready_ids
  turn_listed who ready left =
      let there = ready_there p.state who ready in
      let known = matched.body.ids.known who there.0 there.1 in
      let listed : Contains (ready_ids p.state) who = listed_ids-contains p.state.processes (ready_at p.state) who known ready in
      subst (λ (b : Bool). Contains (if b then [] else ready_ids p.state) who) (sym left) listed

  pub choice_listed : (move : Move) (next : Point) → leads asked p move ≡ Some next → Contains (all_choices_at asked p) (choice_of move)
  choice_listed (Slice who steps) next is =
      let may = may_go asked p who steps (ap is_some is) in
      Contains-append_left (choices_at asked p) (preemptions_at asked p) (Goes who)
      (Contains-append_left (map Goes (turns_at asked p.state)) (map Comes (events_at asked p)) (Goes who)
      (contains_map Goes (turns_at asked p.state) who (turn_listed who may.ready may.left)))
  choice_listed (Preempted who steps) next is =
      let may = preempted_may asked p who steps (ap is_some is) in
      Contains-append_right (choices_at asked p) (preemptions_at asked p) (Preempts who steps)
      (preemption_there asked p who steps may (turn_listed who may.ready (may_turn asked p who steps may)))
  choice_listed (Once number) next is =
      let may = may_come_there asked p number (ap is_some is) in
      let within : number < length asked.once = slice_get_within asked.once number may.event may.its in
      let comes : comes_at asked p number ≡ true =
      ap (λ o. is_some (option_and_then (λ event. what_comes event p.state) o)) may.at ∙ may.comes in
      Contains-append_left (choices_at asked p) (preemptions_at asked p) (Comes number)
      (Contains-append_right (map Goes (turns_at asked p.state)) (map Comes (events_at asked p)) (Comes number)
      (contains_map Comes (events_at asked p) number (listed_below-contains (length asked.once) number (comes_at asked p) within comes)))

-- ---- moves of one choice that may be made at one point are the same

one_move : (asked : Asked) (p : Point) (one other : Move) (next last : Point) → leads asked p one ≡ Some next → leads asked p other ≡ Some last
    → choice_of one ≡ choice_of other → one ≡ other
one_move asked p (Slice who steps) (Slice other more) next last is also same =
    let id : who ≡ other = (let e : Goes who ≡ Goes other = same in cc) in
    let at : leads asked p (Slice who more) ≡ Some last = ap (λ w. leads asked p (Slice w more)) id ∙ also in
    let first = may_go asked p who steps (ap is_some is) in
    let second = may_go asked p who more (ap is_some at) in
    ap (λ n. Slice who n) (sym first.done ∙ second.done) ∙ ap (λ w. Slice w more) id
one_move asked p (Preempted who steps) (Preempted other more) next last is also same =
    let e : Preempts who steps ≡ Preempts other more = same in cc
one_move asked p (Once number) (Once other) next last is also same = let e : Comes number ≡ Comes other = same in cc
one_move asked p (Slice who steps) (Preempted other more) next last is also same =
    absurd (let e : Goes who ≡ Preempts other more = same in cc)
one_move asked p (Slice who steps) (Once number) next last is also same = absurd (let e : Goes who ≡ Comes number = same in cc)
one_move asked p (Preempted who steps) (Slice other more) next last is also same =
    absurd (let e : Preempts who steps ≡ Goes other = same in cc)
one_move asked p (Preempted who steps) (Once number) next last is also same =
    absurd (let e : Preempts who steps ≡ Comes number = same in cc)
one_move asked p (Once number) (Slice who steps) next last is also same = absurd (let e : Comes number ≡ Goes who = same in cc)
one_move asked p (Once number) (Preempted who steps) next last is also same =
    absurd (let e : Comes number ≡ Preempts who steps = same in cc)

-- ---- all edges

module _ {Key : Type 0} (IsKey : Point → Key → Type 0) (asked : Asked) (p : Point) (matched : Matched p.state)
    (goes : goes_on asked.bound p.state ≡ true) (edges : List (Successor Move Key))
    (by : AreEdgesBy IsKey asked p (all_choices_at asked p) edges) where
  abbrev choice_in : Successor Move Key → Choice
  choice_in edge = choice_of edge.label

  edge_at : (i : ℕ) (edge : Successor Move Key) → slice_get edges i ≡ Some edge → IsEdge IsKey asked p edge
  edge_at i edge is =
      let within = slice_get_within edges i edge is in
      subst (IsEdge IsKey asked p) (get_or_from_slice_get edges i edge edge is) (All-get_or (IsEdge IsKey asked p) edges i edge within by.each)

  leads_after : (label : Move) → after asked (node_of asked p) label ≡ option_map (node_of asked) (leads asked p label)
  leads_after label = nodes_lead_alike asked p label matched goes

  -- an edge of the choice of this label has the label
  found_label : (label : Move) (last : Point) → leads asked p label ≡ Some last → HasLabel (after asked) IsKey edges label
  found_label label last is =
      let at : Contains (map choice_in edges) (choice_of label) =
      subst (λ choices. Contains choices (choice_of label)) (sym by.choices_are) (choice_listed asked p matched label last is) in
      let within : at.0 < length edges = rw (← length-map edges choice_in) at.1 in
      let read = slice_get-get_or (map choice_in edges) at.0 (choice_of label) at.1 in
      go at.0 (slice_get edges at.0) refl (sym (slice_get-map choice_in edges at.0) ∙ (read ∙ ap Some at.2))
    where
      go : (k : ℕ) (o : Option (Successor Move Key)) → slice_get edges k ≡ o → option_map choice_in o ≡ Some (choice_of label)
          → HasLabel (after asked) IsKey edges label
      go k None none h = absurd (none-some (choice_of label) h)
      go k (Some edge) there h =
          let e = edge_at k edge there in
          record {
            place = k;
            edge = edge;
            is = there;
            label_is = one_move asked p edge.label label e.next last e.leads_is is (same_Some (choice_of edge.label) (choice_of label) h);
          }

  pub choices_are_edges : AreEdges (after asked) IsKey (node_of asked p) edges
  choices_are_edges = record {
    each = λ i edge is.
        let e = edge_at i edge is in
        record { node = node_of asked e.next; there = leads_after edge.label ∙ ap (option_map (node_of asked)) e.leads_is; is_key = e.key };
    all = λ label next is. go label next (leads asked p label) refl (sym (leads_after label) ∙ is);
  }
    where
      go : (label : Move) (next : Point) (o : Option Point) → leads asked p label ≡ o → option_map (node_of asked) o ≡ Some next
          → HasLabel (after asked) IsKey edges label
      go label next None none h = absurd (none-some next h)
      go label next (Some last) there h = found_label label last there
