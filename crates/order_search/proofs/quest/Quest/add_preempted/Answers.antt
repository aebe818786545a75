use Rattle.std.proofs.Common.{◌∙◌, ◌++◌, ℕ, List, OnOk, ap, subst, sym}
use Rattle.std.specs.List.{flat_map}
use Rattle.graph_search.specs.declared.space.Successor.{Successor}
use Rattle.order_model.specs.declared.moves.Move.{Move}
use Rattle.order_model.specs.declared.choices.Choice.{Choice}
use Rattle.order_model.specs.Choosing.{choices_at, preemptions_by}
use Rattle.order_model.specs.Edges.{AreEdgesBy}
use Rattle.order_model.specs.Asking.{asked_of}
use Rattle.order_search.specs.Quests.{IsKeyOf, searching_of}
use Rattle.order_search.proofs.ChoiceLemmas.{all_preempted, no_preemptions, preemptions_are}
use Rattle.order_search.proofs.quest.Quest.add_preempted.Goals as goal

abbrev by_slices : List (Successor Move (List ℕ)) → List Choice
by_slices edges = flat_map (λ edge. preemptions_by edge.label) edges

pub returns-then-not-may_preempt-clause-edges : goal.returns-then-not-may_preempt-clause-edges
returns-then-not-may_preempt-clause-edges c p arrives =
    no_preemptions (IsKeyOf (searching_of c.args.self.now.subject)) (asked_of c.args.self.now.subject.orders) p c.args.edges.now.items
    (sym (c.may_preempt.ensures p (c.requires.preempted p arrives)) ∙ c.if-not-may_preempt.true) (c.requires.edges p arrives)

pub add_edges-requires-clause-may : goal.add_edges-requires-clause-may
add_edges-requires-clause-may c p arrives =
    all_preempted (asked_of c.args.self.now.subject.orders) p c.deref-2.result.now
    (preemptions_are (IsKeyOf (searching_of c.args.self.now.subject)) (asked_of c.args.self.now.subject.orders) p c.args.edges.now.items
    c.deref-2.result.now (sym (c.may_preempt.ensures p (c.requires.preempted p arrives)) ∙ c.if-not-may_preempt.false) (c.requires.edges p arrives)
    (c.deref-2.ensures.value ∙ (c.in-Ok.ensures ∙ ap by_slices c.deref.ensures.value)))

pub returns-clause-edges : goal.returns-clause-edges
returns-clause-edges c p arrives =
    let IsKey = IsKeyOf (searching_of c.args.self.now.subject) in
    let asked = asked_of c.args.self.now.subject.orders in
    let all = preemptions_are IsKey asked p c.args.edges.now.items c.deref-2.result.now
    (sym (c.may_preempt.ensures p (c.requires.preempted p arrives)) ∙ c.if-not-may_preempt.false) (c.requires.edges p arrives)
    (c.deref-2.ensures.value ∙ (c.in-Ok.ensures ∙ ap by_slices c.deref.ensures.value)) in
    subst (λ (cs : List Choice). OnOk c.add_edges.result (AreEdgesBy IsKey asked p (choices_at asked p ++ cs) c.add_edges.new.edges.items)) all
    (c.add_edges.ensures.edges p (choices_at asked p) arrives (c.requires.edges p arrives))
