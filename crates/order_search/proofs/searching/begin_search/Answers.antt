use Rattle.std.proofs.Common.{IfErr, IfOk, ℕ, subst, sym}
use Rattle.std.proofs.lemmas.Result.{IfOk-weaker}
use Rattle.std.specs.Cmp.Lexicographic.{slice_cmp}
use Rattle.std.specs.Ordering.{nat_cmp}
use Rattle.graph_search.specs.declared.found.Cut.TheVariants.{Stopped}
use Rattle.graph_search.specs.declared.found.Extent.TheVariants.{Cut}
use Rattle.graph_search.specs.Edges.{HasCause}
use Rattle.order_search.specs.declared.subject.Subject.{Subject}
use Rattle.order_search.specs.Faults.{IsFault}
use Rattle.order_search.specs.Found.{FindsNodes, IsUnderWay, so_far}
use Rattle.order_search.proofs.SpaceLemmas.{begun_so_far}
use Rattle.order_search.proofs.searching.begin_search.Goals as goal

pub returns-clause-under_way : goal.returns-clause-under_way
returns-clause-under_way c =
    let quest = c.args.quest.now in
    subst (λ (s : Subject). IfOk c.begin.result (λ search. (limit : ℕ) → IsUnderWay (slice_cmp nat_cmp) limit s search)) (sym c.begin.ensures.kept)
    (IfOk-weaker c.begin.result _ _ (λ search both limit. (both limit).0)
    (begun_so_far quest.subject quest.lawful quest.can_start c.args.strategy c.begin.result c.begin.ensures.begins c.begin.ensures.search))

pub returns-clause-nodes : goal.returns-clause-nodes
returns-clause-nodes c =
    let quest = c.args.quest.now in
    subst (λ (s : Subject). IfOk c.begin.result (λ search. (limit : ℕ) → FindsNodes limit (so_far s search (Cut Stopped)))) (sym c.begin.ensures.kept)
    (IfOk-weaker c.begin.result _ _ (λ search both limit. (both limit).1)
    (begun_so_far quest.subject quest.lawful quest.can_start c.args.strategy c.begin.result c.begin.ensures.begins c.begin.ensures.search))

pub returns-clause-fault : goal.returns-clause-fault
returns-clause-fault c =
    subst (λ (s : Subject). IfErr c.begin.result (HasCause (IsFault s))) (sym c.begin.ensures.kept) c.begin.ensures.fault
