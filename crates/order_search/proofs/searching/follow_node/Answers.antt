use Rattle.std.proofs.Common.{◌≤◌, ◌+◌, IfErr, length, subst, sym}
use Rattle.std.specs.Cmp.Lexicographic.{slice_cmp}
use Rattle.std.specs.Ordering.{nat_cmp}
use Rattle.graph_search.specs.Searches.{IsWhole}
use Rattle.order_search.specs.declared.subject.Subject.{Subject}
use Rattle.order_search.specs.Faults.{IsFault}
use Rattle.order_search.specs.Found.{FindsAllOrders, FindsNodes, IsUnderWay, extent_after, so_far}
use Rattle.order_search.specs.Quests.{IsKeyOf, first_node, next_node, searching_of}
use Rattle.order_search.proofs.SpaceLemmas.{cut_after, finds_all, finds_so_far, whole_after}
use Rattle.order_search.proofs.searching.follow_node.Goals as goal

pub returns-clause-under_way : goal.returns-clause-under_way
returns-clause-under_way c =
    subst (λ (s : Subject). IsUnderWay (slice_cmp nat_cmp) c.args.limit s c.follow.new.search) (sym c.follow.ensures.kept)
    (record { is = c.follow.ensures.search; within = c.follow.ensures.goes.within c.requires.within })

pub returns-clause-nodes : goal.returns-clause-nodes
returns-clause-nodes c =
    let quest = c.args.quest.now in
    subst (λ (s : Subject). FindsNodes c.args.limit (so_far s c.follow.new.search (extent_after c.follow.result))) (sym c.follow.ensures.kept)
    (finds_so_far quest.subject quest.lawful quest.can_start c.follow.new.search c.follow.ensures.search c.args.limit (extent_after c.follow.result)
    (c.follow.ensures.goes.within c.requires.within)
    (cut_after c.follow.result (c.args.limit ≤ length c.follow.new.search.edges.items + 1) c.follow.ensures.goes.cut))

pub returns-clause-whole : goal.returns-clause-whole
returns-clause-whole c =
    let quest = c.args.quest.now in
    let q = searching_of quest.subject in
    subst (λ (s : Subject). FindsAllOrders (slice_cmp nat_cmp) (so_far s c.follow.new.search (extent_after c.follow.result))) (sym c.follow.ensures.kept)
    (finds_all quest.subject quest.lawful quest.can_start c.follow.new.search c.follow.ensures.search (extent_after c.follow.result)
    (whole_after c.follow.result (IsWhole (next_node q) (IsKeyOf q) (slice_cmp nat_cmp) (first_node q) c.follow.new.search) c.follow.ensures.whole))

pub returns-clause-fault : goal.returns-clause-fault
returns-clause-fault c =
    subst (λ (s : Subject). IfErr c.follow.result (IsFault s)) (sym c.follow.ensures.kept) c.follow.ensures.fault
