use Rattle.std.proofs.Common.{◌≡◌, ◌≤◌, ◌+◌, ◌∙◌, ap, arith, length, List, subst, sym}
use Rattle.order_model.specs.Moves.{leads_by}
use Rattle.order_search.specs.Quests.{first_node, next_node, searching_of}
use Rattle.graph_search.specs.declared.found.Edge.{Edge}
use Rattle.graph_search.specs.Graph.{node_by}
use Rattle.graph_search.specs.Paths.{IsTree, labels_to}
use Rattle.order_model.specs.declared.failing.Failing.{Failing}
use Rattle.order_model.specs.declared.moves.Move.{Move}
use Rattle.order_model.specs.Failing.{first_failing}
use Rattle.xousorders.specs.Searched.{telling_at}
use Rattle.xousorders.proofs.EndingLemmas.{node_told, one_added}
use Rattle.xousorders.proofs.ToldLemmas.{shown_there, within_there}
use Rattle.xousorders.proofs.RowLemmas.{tellable}
use Rattle.xousorders.proofs.endings.see.Goals as goal

pub path_to-requires-clause-tree : goal.path_to-requires-clause-tree
path_to-requires-clause-tree c = subst (λ (es : List (Edge Move)). IsTree es) (sym c.edges.ensures) c.requires.sound.tree

pub path_to-requires-clause-node : goal.path_to-requires-clause-node
path_to-requires-clause-node c =
    let few : length c.args.search.now.notes.items ≤ length c.args.search.now.edges.items + 1 = c.requires.sound.few in
    let same : length c.edges.result.now ≡ length c.args.search.now.edges.items = ap length c.edges.ensures in
    omega (arith, few, same, c.requires.node)

pub stand-requires : goal.stand-requires
stand-requires c =
    let q = searching_of c.args.quest.now.subject in
    let few : length c.args.search.now.notes.items ≤ length c.args.search.now.edges.items + 1 = c.requires.sound.few in
    let led = c.requires.sound.led_to c.args.node (omega (arith, few, c.requires.node)) in
    record {
      path = (
        led.0,
        ap (node_by (next_node q) (first_node q))
            (c.deref.ensures.value ∙ (c.in_ok-order.ensures ∙ ap (λ (es : List (Edge Move)). labels_to es c.args.node) c.edges.ensures))
            ∙ led.1.by_path,
      );
    }

pub put_seen-requires : goal.put_seen-requires
put_seen-requires c =
    let read = c.in-Ok.ensures.read in
    tellable _ read.file read.spelled read.matched

pub returns-clause-adds : goal.returns-clause-adds
returns-clause-adds c =
    let q = searching_of c.args.quest.now.subject in
    let t = telling_at c.args.quest.now.subject c.args.search.now in
    let few : length c.args.search.now.notes.items ≤ length c.args.search.now.edges.items + 1 = c.requires.sound.few in
    let told = c.requires.told c.args.node (omega (arith, few, c.requires.node)) in
    let labels = c.in_ok-order.ensures ∙ ap (λ (es : List (Edge Move)). labels_to es c.args.node) c.edges.ensures in
    let stand = c.in-Ok.ensures.stands told.last (ap (leads_by q.asked q.start) (c.deref.ensures.value ∙ labels) ∙ told.leads) in
    let view = c.args.view.now in
    let fails : c.first_failing-fails.result ≡ first_failing view.fails.items told.last =
    c.first_failing-fails.ensures told.last stand ∙ ap (λ (list : List Failing). first_failing list told.last) c.deref-2.ensures.value in
    node_told t view c.args.node _ _ c.args.endings.now _ c.requires.ends labels
    (shown_there t view c.args.node told _ _ _ c.new-seen.ensures.items (c.in_ok-put_seen.ensures told.last stand) fails)
    (within_there t c.args.node told _ _ stand c.in-Ok.ensures.within) c.in_ok-add.ensures

pub returns-clause-one : goal.returns-clause-one
returns-clause-one c = one_added c.args.node _ _ c.args.endings.now _ c.in_ok-add.ensures

pub returns-in-Err-clause-stopped : goal.returns-in-Err-clause-stopped
returns-in-Err-clause-stopped c = c.unplayed.ensures c.args.quest.now.subject c.in-Err.ensures.fault
