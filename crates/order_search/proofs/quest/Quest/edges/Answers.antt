use Rattle.std.proofs.Common.{List, [], ◌∷◌, ◌++◌, subst, sym}
use Rattle.std.proofs.lemmas.List.Elements.{All-head, All-tail}
use Rattle.std.specs.Prelude.{All}
use Rattle.order_model.specs.Moves.{Point}
use Rattle.order_model.specs.Asking.{asked_of}
use Rattle.order_model.specs.declared.choices.Choice.{Choice}
use Rattle.order_model.specs.Edges.{AreEdgesBy}
use Rattle.order_search.specs.declared.subject.Subject.{Subject}
use Rattle.order_search.specs.Quests.{Arrives, IsChoice, IsKeyOf, IsPath, searching_of}
use Rattle.order_search.proofs.ChoiceLemmas.{all_chosen}
use Rattle.order_search.proofs.EdgeLemmas.{one_edge}
use Rattle.order_search.proofs.quest.Quest.edges.Goals as goal

pub edge_on-requires-clause-may : goal.edge_on-requires-clause-may
edge_on-requires-clause-may c p arrives =
    let asked = asked_of c.args.self.now.subject.orders in
    All-head (IsChoice asked p) c.in-Some.first.now c.in-Some.rest.now
    (subst (All (IsChoice asked p)) c.in-Some.ensures.cases.0 (all_chosen asked p c.args.choices.now (c.requires.may p arrives)))

pub add_edges-requires-clause-path : goal.add_edges-requires-clause-path
add_edges-requires-clause-path c = subst (λ (s : Subject). IsPath (searching_of s) c.args.path.now) (sym c.edge_on.ensures.subject) c.requires.path

pub add_edges-requires-clause-may : goal.add_edges-requires-clause-may
add_edges-requires-clause-may c =
    let s : Subject = c.args.self.now.subject in
    subst (λ (x : Subject). (p : Point) → Arrives (searching_of x) c.args.path.now p → All (IsChoice (asked_of x.orders) p) c.in-Some.rest.now)
    (sym c.edge_on.ensures.subject)
    (λ p arrives. All-tail (IsChoice (asked_of s.orders) p) c.in-Some.first.now c.in-Some.rest.now
    (subst (All (IsChoice (asked_of s.orders) p)) c.in-Some.ensures.cases.0
    (all_chosen (asked_of s.orders) p c.args.choices.now (c.requires.may p arrives))))

pub returns-clause-edges : goal.returns-clause-edges
returns-clause-edges c p arrives =
    let s : Subject = c.args.self.now.subject in
    let F : Subject → Type 0 =
    λ x. (p : Point) (before : List Choice) → Arrives (searching_of x) c.args.path.now p
    → AreEdgesBy (IsKeyOf (searching_of x)) (asked_of x.orders) p before c.push.new.self.items
    → AreEdgesBy (IsKeyOf (searching_of x)) (asked_of x.orders) p (before ++ c.in-Some.rest.now) c.add_edges.new.edges.items in
    let there : F c.edge_on.new.self.subject = c.in_ok-add_edges.ensures.edges in
    let here : F s = subst F c.edge_on.ensures.subject there in
    let first = one_edge (IsKeyOf (searching_of s)) (asked_of s.orders) p c.in-Some.first.now c.new-edges.result.items c.push.new.self.items
    c.in_ok-edge.edge c.new-edges.ensures.items (c.in_ok-edge.ensures.edge p arrives) c.in_ok-edge.ensures.choice c.in-Ok.ensures.items in
    subst (λ (choices : List Choice). AreEdgesBy (IsKeyOf (searching_of s)) (asked_of s.orders) p choices c.add_edges.new.edges.items)
    (sym c.in-Some.ensures.cases.0) (here p (c.in-Some.first.now ∷ []) arrives first)
