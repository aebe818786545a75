-- What a quest tells of a node is so, and what a search of it says.
use Rattle.std.proofs.Common.{◌≡◌, ◌≤◌, ◌+◌, ◌-◌, ℕ, List, [], ◌∷◌, length, Some, Result, Ok, Err, IfOk, All, true, refl, sym, subst, ◌∙◌, arith}
use Rattle.std.proofs.lemmas.Map.Text.{is_eq-slice_cmp}
use Rattle.std.proofs.lemmas.Option.{same_Some}
use Rattle.std.proofs.lemmas.Slice.Eq.{bytes_eq-Decides}
use Rattle.std.specs.Ordering.{nat_cmp}
use Rattle.std.specs.declared.cmp.Ordering.{Ordering}
use Rattle.std.specs.declared.cmp.Ordering.TheVariants.{Equal, Greater, Less}
use Rattle.std.specs.Ordering.{is_eq}
use Rattle.std.proofs.lemmas.Bool.{false≢true}
use Rattle.std.specs.Cmp.Lexicographic.{slice_cmp}
use Rattle.boot_plan.specs.Lawful.{CanStart, IsLawfulPlan}
use Rattle.order_model.proofs.Moving.SearchLemmas.{orders_are_told, told_are_orders}
use Rattle.order_model.specs.declared.moves.Move.{Move}
use Rattle.order_model.specs.declared.moves.Note.{Note}
use Rattle.order_model.specs.Moves.{Point, leads_by}
use Rattle.order_model.specs.Nodes.{node_of}
use Rattle.order_model.specs.Searches.{IsNoteOf, IsSound}
use Rattle.order_model.specs.Choosing.{all_choices_at}
use Rattle.order_model.specs.Asking.{asked_of}
use Rattle.order_model.specs.declared.choices.Choice.{Choice}
use Rattle.order_model.specs.Choosing.{IsSeen}
use Rattle.order_model.specs.Edges.{AreEdgesBy}
use Rattle.order_search.proofs.OrderLemmas.{edges_right, note_right}
use Rattle.order_search.proofs.QuestLemmas.{arrived_matched, path_leads, start_matched}
use Rattle.order_search.specs.declared.subject.Subject.{Subject}
use Rattle.order_search.proofs.TellLemmas.{bytes_tell_nodes}
use Rattle.order_search.specs.Found.{DigestsTell, FindsAllOrders, FindsNodes, IsMet, IsUnderWay, TellsAllOrders, TellsOrders}
use Rattle.order_search.specs.Found.{extent_after, so_far, telling_of}
use Rattle.order_search.specs.Keys.{key_of}
use Rattle.order_search.specs.Quests.{Arrives, IsKeyOf, IsPath, Searching, first_node, next_node, searching_of, start_of}
use Rattle.graph_search.specs.declared.found.Edge.{Edge}
use Rattle.graph_search.specs.declared.space.Successor.{Successor}
use Rattle.graph_search.specs.Edges.{AreEdges}
use Rattle.graph_search.specs.Graph.{node_by}
use Rattle.graph_search.specs.declared.following.Turn.{Turn}
use Rattle.graph_search.specs.declared.following.Turn.TheVariants as turns
use Rattle.graph_search.specs.declared.found.Cut.TheVariants.{Nodes, Stopped}
use Rattle.graph_search.specs.declared.found.Extent.{Extent}
use Rattle.graph_search.specs.declared.found.Extent.TheVariants.{Cut, Whole}
use Rattle.graph_search.specs.declared.found.Strategy.{Strategy}
use Rattle.graph_search.specs.declared.search.Search.{Search}
use Rattle.graph_search.specs.declared.space.Unanswered.{Unanswered}
use Rattle.graph_search.specs.Searches.{Begins, IsSearch, IsWhole}
use Rattle.graph_search.specs.Told.{KeysAgree, KeysTell, TellsAll}
use Rattle.order_search.specs.declared.quest.OrderFault.{OrderFault}

-- ---- the start

-- no move leads to the start
pub no_path : (s : Subject) → IsPath (searching_of s) []
no_path s = (first_node (searching_of s), refl)

pub start_key : (s : Subject) (here : Point) (key : List ℕ) → Arrives (searching_of s) [] here → IsKeyOf (searching_of s) (node_of (asked_of s.orders) here) key
    → IsKeyOf (searching_of s) (first_node (searching_of s)) key
unfolding leads_by
start_key s here key arrives is =
    subst (λ (p : Point). IsKeyOf (searching_of s) (node_of (asked_of s.orders) p) key) (sym (same_Some (start_of s) here arrives)) is

is_equal : (o : Ordering) → is_eq o ≡ true → o ≡ Equal
is_equal Less e = absurd (false≢true e)
is_equal Equal e = refl
is_equal Greater e = absurd (false≢true e)

-- a node has one key
pub keys_agree : (q : Searching) → KeysAgree (IsKeyOf q) (slice_cmp nat_cmp)
keys_agree q node j k a b =
    is_equal (slice_cmp nat_cmp j k) (is_eq-slice_cmp j k ∙ (bytes_eq-Decides j k).1 (a.is ∙ sym b.is))

module _ (s : Subject) (lawful : IsLawfulPlan (length s.file.items) s.plan) (can_start : All CanStart s.plan.procs) where
  -- ---- a node

  module _ (path : List Move) (choices : List Choice) (note : Note)
      (seen : (p : Point) → Arrives (searching_of s) path p → IsSeen (asked_of s.orders) p choices note)
      (node : Point) (led : node_by (next_node (searching_of s)) (first_node (searching_of s)) path ≡ Some node) where
    pub node_note : IsNoteOf (asked_of s.orders) node note
    node_note =
        let to = path_leads s lawful can_start path node led in
        note_right (asked_of s.orders) to.last node to.is choices note (seen to.last to.leads)

    pub node_edges : (edges : List (Successor Move (List ℕ)))
        → ((p : Point) → Arrives (searching_of s) path p
        → AreEdgesBy (IsKeyOf (searching_of s)) (asked_of s.orders) p (all_choices_at (asked_of s.orders) p) edges)
        → AreEdges (next_node (searching_of s)) (IsKeyOf (searching_of s)) node edges
    node_edges edges by =
        let to = path_leads s lawful can_start path node led in
        edges_right (asked_of s.orders) to.last node to.is choices note (seen to.last to.leads) (IsKeyOf (searching_of s)) edges
        (arrived_matched s lawful can_start path to.last to.leads) (by to.last to.leads)

  -- ---- what a search says

  -- keys tell nodes apart if digests tell their bytes
  pub keys_tell : (cmp : List ℕ → List ℕ → Ordering) → DigestsTell (searching_of s) cmp
      → KeysTell (next_node (searching_of s)) (first_node (searching_of s)) (IsKeyOf (searching_of s)) cmp
  keys_tell cmp tell p r m n j k to_m to_n a b equal =
      let one : IsMet (searching_of s) m = record { order = p; leads = path_leads s lawful can_start p m to_m; spelled = a.spelled } in
      let other : IsMet (searching_of s) n = record { order = r; leads = path_leads s lawful can_start r n to_n; spelled = b.spelled } in
      let same : cmp (key_of (asked_of s.orders) m) (key_of (asked_of s.orders) n) ≡ Equal = (λ i. cmp (sym a.is i) (sym b.is i)) ∙ equal in
      bytes_tell_nodes (asked_of s.orders) m n a.spelled b.spelled (tell m n one other same)

  module _ (strategy : Strategy) (edges : List (Edge Move)) (notes : List Note)
      (sound : IsSound (telling_of (searching_of s) strategy edges notes)) where
    pub sound_orders : TellsOrders (telling_of (searching_of s) strategy edges notes)
    sound_orders number within =
        told_are_orders (telling_of (searching_of s) strategy edges notes) number (start_matched s lawful can_start) sound within

    pub whole_orders : TellsAll (next_node (searching_of s)) (first_node (searching_of s)) strategy edges → length notes ≡ length edges + 1
        → TellsAllOrders (telling_of (searching_of s) strategy edges notes)
    whole_orders all followed order last leads =
        orders_are_told (telling_of (searching_of s) strategy edges notes) order last (start_matched s lawful can_start) sound
        (record { all = all; followed = followed }) leads

  module _ (search : Search Move (List ℕ) Note)
      (is : IsSearch (next_node (searching_of s)) (IsKeyOf (searching_of s)) (IsNoteOf (asked_of s.orders)) (slice_cmp nat_cmp)
      (first_node (searching_of s)) search) where
    -- what a search found so far
    pub finds_so_far : (limit : ℕ) (extent : Extent) → length search.edges.items ≤ limit - 1
        → (extent ≡ Cut Nodes → limit ≤ length search.edges.items + 1) → FindsNodes limit (so_far s search extent)
    finds_so_far limit extent within cut = record {
      orders = sound_orders search.strategy search.edges.items search.notes.items is.tells;
      found = is.tells;
      once = is.once (keys_agree (searching_of s));
      within = within;
      cut = cut;
    }

    -- .. where that is all
    pub finds_all : (extent : Extent)
        → (extent ≡ Whole → IsWhole (next_node (searching_of s)) (IsKeyOf (searching_of s)) (slice_cmp nat_cmp) (first_node (searching_of s)) search)
        → FindsAllOrders (slice_cmp nat_cmp) (so_far s search extent)
    finds_all extent whole is_whole tell =
        let w = whole is_whole in
        whole_orders search.strategy search.edges.items search.notes.items is.tells (w.all (keys_tell (slice_cmp nat_cmp) tell)) w.followed

-- ---- what a call says

-- a search that was begun
pub begun_so_far : (s : Subject) (lawful : IsLawfulPlan (length s.file.items) s.plan) (can_start : All CanStart s.plan.procs)
    (strategy : Strategy) (r : Result (Search Move (List ℕ) Note) (Unanswered OrderFault)) → IfOk r (λ search. Begins strategy search)
    → IfOk r (λ search. IsSearch (next_node (searching_of s)) (IsKeyOf (searching_of s)) (IsNoteOf (asked_of s.orders)) (slice_cmp nat_cmp)
    (first_node (searching_of s)) search)
    → IfOk r (λ search. (limit : ℕ) → IsUnderWay (slice_cmp nat_cmp) limit s search × FindsNodes limit (so_far s search (Cut Stopped)))
begun_so_far s lawful can_start strategy (Ok search) begins is =
    λ limit.
    let low : length search.edges.items ≤ limit - 1 = none_within search.edges.items limit begins.edges in
    (record { is = is; within = low }, finds_so_far s lawful can_start search is limit (Cut Stopped) low (λ e. absurd (stopped e)))
  where
    none_within : (edges : List (Edge Move)) (limit : ℕ) → edges ≡ [] → length edges ≤ limit - 1
    none_within [] limit e = omega arith
    none_within (edge ∷ edges) limit e = absurd (cc)

    stopped : Cut Stopped ≡ Cut Nodes → ⊥
    stopped e = cc
begun_so_far s lawful can_start strategy (Err fault) begins is = tt

-- an answer that ends a search for its nodes, and one that says that it is whole
pub cut_after : {F : Type 0} (r : Result Turn F) (P : Type 0) → (r ≡ Ok (turns.Cut Nodes) → P) → extent_after r ≡ Cut Nodes → P
cut_after (Ok turns.Followed) P f e = absurd (cc)
cut_after (Ok turns.Whole) P f e = absurd (cc)
cut_after (Ok (turns.Cut why)) P f e = f (λ i. Ok (turns.Cut (same i)))
  where
    same : why ≡ Nodes
    same = cc
cut_after (Err fault) P f e = absurd (cc)

pub whole_after : {F : Type 0} (r : Result Turn F) (P : Type 0) → IfOk r (λ turn. turn ≡ turns.Whole → P) → extent_after r ≡ Whole → P
whole_after (Ok turns.Followed) P f e = absurd (cc)
whole_after (Ok turns.Whole) P f e = f refl
whole_after (Ok (turns.Cut why)) P f e = absurd (cc)
whole_after (Err fault) P f e = absurd (cc)

-- ---- answers

pub if_ok : {T E : Type 0} (r : Result T E) (P Q : T → Type 0) → ((x : T) → P x → Q x) → IfOk r P → IfOk r Q
if_ok (Ok x) P Q f p = f x p
if_ok (Err e) P Q f p = tt
