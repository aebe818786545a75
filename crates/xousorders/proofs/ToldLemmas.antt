-- What the endings that are told say of orders.
use Rattle.std.proofs.Common.{◌≡◌, ◌<◌, ◌≤◌, ◌∙◌, ℕ, true, false, List, [], ◌++◌, length, Option, Some, None, sym, ap, subst, arith}
use Rattle.std.specs.Prelude.{slice_get, get_or}
use Rattle.std.specs.Option.{option_map_or}
use Rattle.std.specs.declared.cmp.Ordering.{Ordering}
use Rattle.std.proofs.lemmas.Option.{get_or_from_slice_get, slice_get_within}
use Rattle.machine_model.specs.Runs.Matched.{Matched}
use Rattle.order_model.proofs.Moving.SearchLemmas.{paths_are_orders}
use Rattle.order_model.specs.declared.moves.Move.{Move}
use Rattle.order_model.specs.declared.moves.Note.{Note}
use Rattle.order_model.specs.Endings.{is_ending, seen_of}
use Rattle.order_model.specs.Failing.{first_failing}
use Rattle.order_model.specs.Moves.{Point, leads_by}
use Rattle.order_model.specs.Nodes.{after, node_of}
use Rattle.order_model.specs.Searches.{IsPointTold, IsSound, IsToldOrder, Telling, note_of}
use Rattle.order_model.specs.Choosing.{IsStand}
use Rattle.order_model.specs.declared.orders.Trail.{Trail}
use Rattle.machine_model.specs.State.Machine.{Machine}
use Rattle.snapshot_rows.specs.declared.state.State.{State}
use Rattle.xk_base.specs.declared.limits.TheConstants.{STEP_LIMIT}
use Rattle.order_search.specs.declared.subject.Subject.{Subject}
use Rattle.order_search.specs.Found.{TellsAllOrders, TellsOrders, finding_of, so_far, telling_in}
use Rattle.order_search.specs.Quests.{start_of}
use Rattle.order_text.specs.Texts.{seen_text}
use Rattle.graph_search.proofs.PathLemmas.{later_no_shorter}
use Rattle.graph_search.specs.Paths.{IsInOrder, labels_to}
use Rattle.graph_search.specs.Told.{IsFound}
use Rattle.graph_search.specs.declared.found.Extent.{Extent}
use Rattle.graph_search.specs.declared.found.Strategy.{Strategy}
use Rattle.graph_search.specs.declared.found.Strategy.TheVariants.{Breadth}
use Rattle.graph_search.specs.declared.search.Search.{Search}
use Rattle.program_status.specs.Notes.{SinkSide}
use Rattle.xousorders.specs.Endings.{AreEndings, AreReal, AreShortest, IsAt, IsEndingOf, IsWithin, Shown, TellsAllEndings, TellsEndings}
use Rattle.order_text.specs.Endings.{failing_of}
use Rattle.xousorders.specs.Endings.{ends_at, node_shown, searching_in, shown_in, shown_of}
use Rattle.xousorders.specs.Halts.{Finds, Follows, HasGot}
use Rattle.xousorders.specs.Reports.{SaysSo}
use Rattle.order_text.specs.declared.endings.Ending.{Ending}
use Rattle.order_text.specs.declared.endings.Endings.{Endings}
use Rattle.xousorders.specs.declared.limits.Limits.{Limits}
use Rattle.xousorders.specs.declared.search.Told.{Told}
use Rattle.xousorders.specs.declared.view.View.{View}
use Rattle.xousorders.proofs.EndingLemmas.{ended}
use Rattle.xousorders.proofs.ShownLemmas.{fails_told, shown_alike}

-- an order leads to a point that was stood at, in a run that could be
pub within_there : (t : Telling) (node : ℕ) (told : IsToldOrder t node) (state : State) (trail : Trail) → IsStand told.last state trail
    → state.steps ≤ STEP_LIMIT → IsWithin t node
within_there t node told state trail stand low p leads =
    let same : p ≡ told.last = (let e = sym leads ∙ told.leads in cc) in
    let steps : state.steps ≡ p.state.steps = ap (λ (m : Machine). m.steps) stand.rows ∙ ap (λ (q : Point). q.state.steps) (sym same) in
    omega (arith, low, steps)

module _ (t : Telling) (view : View) where
  -- a node is told as it is where its order leads
  pub told_there : (node : ℕ) (p : Point) → leads_by t.asked t.start (labels_to t.edges node) ≡ Some p → node_shown t view node ≡ shown_of view p
  unfolding node_shown
  told_there node p leads = ap (λ (o : Option Point). option_map_or (shown_of view) o (record { text = []; fails = None })) leads

  -- .. as its text is put into an empty one
  pub shown_there : (node : ℕ) (told : IsToldOrder t node) (text empty : List ℕ) (fails : Option ℕ) → empty ≡ []
      → text ≡ empty ++ seen_text view.sights view.hex (seen_of told.last) → fails ≡ first_failing view.fails.items told.last
      → record { text = text; fails = fails } ≡ node_shown t view node
  unfolding shown_of
  shown_there node told text empty fails none put first =
      let is : text ≡ seen_text view.sights view.hex (seen_of told.last) =
      put ∙ ap (λ (xs : List ℕ). xs ++ seen_text view.sights view.hex (seen_of told.last)) none in
      (λ i. record { text = is i; fails = first i }) ∙ sym (told_there node told.last told.leads)

  -- .. and at each point of it
  told_alike : Matched t.start.state → (number : ℕ) (p : Point)
      → IsFound (after t.asked) (node_of t.asked t.start) t.edges number (node_of t.asked p) → node_shown t view number ≡ shown_of view p
  told_alike matched number p found =
      let to = paths_are_orders t.asked (labels_to t.edges number) t.start (node_of t.asked p) matched found.by_path in
      told_there number to.last to.leads ∙ shown_alike view t.asked to.last p to.is

  failing_there : (ending : Ending) (p : Point) → shown_in ending ≡ shown_of view p
      → failing_of view.fails.items ending.fails ≡ failing_of view.fails.items (first_failing view.fails.items p)
  unfolding shown_of
  failing_there ending p seen = ap (λ (s : Shown). failing_of view.fails.items s.fails) seen

  -- endings of nodes that a search found are real
  pub all_real : (n : ℕ) (endings : Endings) → AreEndings t view n endings → IsSound t → TellsOrders t
      → AreReal (searching_in t) view endings.list.items
  all_real n endings are sound tells = record {
    orders = λ k d low.
        (let ending : Ending = get_or endings.list.items k d in
        let is : IsEndingOf t view ending = are.each k d low in
        let has = ended (slice_get t.notes ending.first) is.ends in
        let noted : ending.first < length t.notes = slice_get_within t.notes ending.first has.note has.is in
        let few = sound.few in
        let told = tells ending.first (omega (arith, noted, few)) in
        let seen : shown_in ending ≡ shown_of view told.last = is.seen ∙ told_there ending.first told.last told.leads in
        record {
          last = told.last;
          leads = ap (leads_by t.asked t.start) is.order ∙ told.leads;
          ends = sym (ap (λ (note : Note). note.ends) (told.noted has.note has.is)) ∙ has.ends;
          within = is.within told.last told.leads;
          seen = seen;
          fails = λ failing so. fails_told view.fails.items told.last failing (sym (failing_there ending told.last seen) ∙ so);
        });
    different = are.different;
  }

  each_told : (endings : Endings) → AreEndings t view (length t.notes) endings → IsSound t → TellsOrders t → TellsEndings t view endings
  each_told endings are sound tells = record {
    real = all_real (length t.notes) endings are sound tells;
    nodes = are.nodes;
    counts = are.counts;
  }

  module _ (matched : Matched t.start.state) (endings : Endings) (are : AreEndings t view (length t.notes) endings) (all : TellsAllOrders t) where
    -- where an order ends its node is told, and its note says so
    record IsToldEnd (order : List Move) (last : Point) : Type 0 where
      told : IsPointTold t last (length order)
      ends : ends_at t told.number ≡ true
      low : told.number < length t.notes

    told_end : (order : List Move) (last : Point) → leads_by t.asked t.start order ≡ Some last → is_ending t.asked last.state ≡ true
        → IsToldEnd order last
    told_end order last leads ends =
        let told = all order last leads in
        record {
          told = told;
          ends = ap (λ (o : Option Note). option_map_or (λ (note : Note). note.ends) o false) told.noted ∙ ends;
          low = slice_get_within t.notes told.number (note_of t.asked last.state) told.noted;
        }

    all_told : TellsAllEndings t view endings
    all_told order last leads ends =
        let end = told_end order last leads ends in
        let look = are.all end.told.number end.low end.ends in
        record {
          node = end.told.number;
          found = end.told.found;
          look = look;
          alike = subst (IsAt endings.list.items look.look.ending) (told_alike matched end.told.number last end.told.found) look.alike;
        }

    all_shortest : IsSound t → t.strategy ≡ Breadth → AreShortest t view endings
    all_shortest sound breadth place ending order last there leads ends alike =
        let end = told_end order last leads ends in
        let same : node_shown t view end.told.number ≡ shown_in ending = told_alike matched end.told.number last end.told.found ∙ alike in
        let first : ending.first ≤ end.told.number = (are.first place ending there).least end.told.number end.low end.ends same in
        let shorter : length (labels_to t.edges ending.first) ≤ length (labels_to t.edges end.told.number) =
        later_no_shorter t.edges sound.tree (subst (λ (by : Strategy). IsInOrder by t.edges) breadth sound.in_order) ending.first end.told.number first end.told.found.told in
        let here : get_or endings.list.items place ending ≡ ending = get_or_from_slice_get endings.list.items place ending ending there in
        let is : IsEndingOf t view ending =
        subst (IsEndingOf t view) here (are.each place ending (slice_get_within endings.list.items place ending there)) in
        let size : length ending.order.items ≡ length (labels_to t.edges ending.first) = ap length is.order in
        let most = end.told.no_longer breadth in
        omega (arith, shorter, size, most)

-- ---- what a search says

-- what was followed this far, as it was found
module _ (cmp : List ℕ → List ℕ → Ordering) (limits : Limits) (view : View) (s : Subject) (matched : Matched (start_of s).state)
    (search : Search Move (List ℕ) Note) (endings : Endings) (sink : SinkSide) (extent : Extent)
    (follows : Follows cmp limits view s search endings sink extent) (strategy : search.strategy ≡ limits.strategy) where
  says_so_far : SaysSo cmp limits view (record { finding = so_far s search extent; endings = endings })
  says_so_far = record {
    nodes = follows.nodes;
    endings = each_told (telling_in (so_far s search extent)) view endings follows.endings_are follows.nodes.found follows.nodes.orders;
    whole = λ is tell.
        (let all = follows.orders is tell in
        record {
          orders = all;
          endings = all_told (telling_in (so_far s search extent)) view matched endings follows.endings_are all;
          shortest = all_shortest (telling_in (so_far s search extent)) view matched endings follows.endings_are all follows.nodes.found;
        });
    strategy = strategy;
    stopped = follows.stopped;
    first = follows.first;
    alone = follows.alone;
  }

  -- .. and as it was put
  pub finds_so : (told : Told) → told.found.strategy ≡ search.strategy → told.found.edges.items ≡ search.edges.items
      → told.found.notes.items ≡ search.notes.items → told.found.extent ≡ extent → told.endings ≡ endings
      → Finds cmp limits view s sink told
  finds_so told by edges notes ends same =
      let finding : so_far s search extent ≡ finding_of s told.found =
      λ i. record { searched = s; strategy = sym by i; edges = sym edges i; notes = sym notes i; extent = sym ends i } in
      record {
        so = subst (SaysSo cmp limits view) (λ i. record { finding = finding i; endings = sym same i }) says_so_far;
        got = subst (λ (e : Endings). HasGot view sink e.list.items) (sym same) follows.got;
      }
