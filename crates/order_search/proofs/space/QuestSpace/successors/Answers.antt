use Rattle.std.proofs.Common.{◌≡◌, ◌∙◌, ℕ, List, ap, length, subst, sym}
use Rattle.graph_search.specs.Edges.{AreEdges}
use Rattle.graph_search.specs.declared.space.Successor.{Successor}
use Rattle.order_model.specs.declared.moves.Move.{Move}
use Rattle.order_model.specs.declared.orders.Trail.{Trail}
use Rattle.order_model.specs.Moves.{Point}
use Rattle.order_model.specs.Asking.{asked_of}
use Rattle.order_model.specs.declared.choices.Choice.{Choice}
use Rattle.order_model.specs.Choosing.{all_choices_at, choices_at}
use Rattle.order_model.specs.Edges.{AreEdgesBy}
use Rattle.order_search.specs.declared.subject.Subject.{Subject}
use Rattle.order_search.specs.Quests.{Arrives, IsKeyOf, IsPath, next_node, searching_of, start_of}
use Rattle.order_search.proofs.RunLemmas.{room_still}
use Rattle.order_search.proofs.SpaceLemmas.{node_edges, node_note}
use Rattle.order_search.proofs.StandLemmas.{arrives_still, one_point}
use Rattle.order_search.proofs.TurnLemmas.{still_edges}
use Rattle.order_search.proofs.space.QuestSpace.successors.Goals as goal

pub edges-requires-clause-path : goal.edges-requires-clause-path
edges-requires-clause-path c = subst (λ (s : Subject). IsPath (searching_of s) c.args.path.now) (sym c.look.ensures.subject) c.requires

pub edges-requires-clause-arrives : goal.edges-requires-clause-arrives
edges-requires-clause-arrives c =
    arrives_still c.args.self.now.subject c.look.new.self.subject c.args.path.now _ _ c.in_ok-run.run'.trail c.look.new.run.trail
    c.look.ensures.subject c.look.ensures.machine c.look.ensures.trail c.in_ok-run.ensures.arrives

pub edges-requires-clause-came : goal.edges-requires-clause-came
edges-requires-clause-came c =
    ap (λ (t : Trail). length t.came.items) c.look.ensures.trail
    ∙ (c.in_ok-run.ensures.came ∙ ap (λ (s : Subject). length s.orders.once.items) (sym c.look.ensures.subject))

pub edges-requires-clause-room : goal.edges-requires-clause-room
edges-requires-clause-room c =
    room_still c.args.self.now.sheet.room c.look.new.self.sheet.room c.look.ensures.sheet c.look.ensures.keeps c.in_ok-run.ensures.room

pub edges-requires-clause-may : goal.edges-requires-clause-may
edges-requires-clause-may c =
    subst (λ (s : Subject). (p : Point) → Arrives (searching_of s) c.args.path.now p → c.deref.result.now ≡ choices_at (asked_of s.orders) p)
    (sym c.look.ensures.subject) (λ p arrives. c.deref.ensures.value ∙ (c.in-Ok.ensures.sight p arrives).choices_are)

-- those of the choices that rows tell are the edges, and all are
abbrev AreTold : Subject → List Move → List (Successor Move (List ℕ)) → Type 0
AreTold s path edges = (p : Point) → Arrives (searching_of s) path p
    → AreEdgesBy (IsKeyOf (searching_of s)) (asked_of s.orders) p (choices_at (asked_of s.orders) p) edges

abbrev AreAll : Subject → List Move → List (Successor Move (List ℕ)) → Type 0
AreAll s path edges = (p : Point) → Arrives (searching_of s) path p
    → AreEdgesBy (IsKeyOf (searching_of s)) (asked_of s.orders) p (all_choices_at (asked_of s.orders) p) edges

pub add_preempted-requires-clause-path : goal.add_preempted-requires-clause-path
add_preempted-requires-clause-path c =
    subst (λ (s : Subject). IsPath (searching_of s) c.args.path.now) (sym (c.edges.ensures.subject ∙ c.look.ensures.subject)) c.requires

pub add_preempted-requires-clause-preempted : goal.add_preempted-requires-clause-preempted
add_preempted-requires-clause-preempted c =
    let s : Subject = c.args.self.now.subject in
    let here : (p : Point) → Arrives (searching_of s) c.args.path.now p → c.look.new.run.trail.preempted ≡ p.preempted = λ p arrives.
    ap (λ (t : Trail). t.preempted) c.look.ensures.trail
    ∙ ap (λ (q : Point). q.preempted)
    (one_point (asked_of s.orders) (start_of s) c.args.path.now _ p c.in_ok-run.ensures.arrives arrives) in
    subst (λ (x : Subject). (p : Point) → Arrives (searching_of x) c.args.path.now p → c.look.new.run.trail.preempted ≡ p.preempted)
    (sym (c.edges.ensures.subject ∙ c.look.ensures.subject)) here

pub add_preempted-requires-clause-edges : goal.add_preempted-requires-clause-edges
add_preempted-requires-clause-edges c =
    let s : Subject = c.args.self.now.subject in
    let F : Subject → Type 0 =
    λ x. (p : Point) → Arrives (searching_of x) c.args.path.now p
    → AreEdgesBy (IsKeyOf (searching_of x)) (asked_of x.orders) p c.deref.result.now c.in_ok-edges.edges.items in
    let there : F c.look.new.self.subject = c.in_ok-edges.ensures.edges in
    let here : F s = subst F c.look.ensures.subject there in
    let told : AreTold s c.args.path.now c.in_ok-edges.edges.items = λ p arrives.
    subst (λ (cs : List Choice). AreEdgesBy (IsKeyOf (searching_of s)) (asked_of s.orders) p cs c.in_ok-edges.edges.items)
    (c.deref.ensures.value ∙ (c.in-Ok.ensures.sight p arrives).choices_are) (here p arrives) in
    subst (λ (x : Subject). AreTold x c.args.path.now c.in_ok-edges.edges.items) (sym (c.edges.ensures.subject ∙ c.look.ensures.subject)) told

pub returns-clause-edges : goal.returns-clause-edges
returns-clause-edges c node led =
    let s : Subject = c.args.self.now.subject in
    let there : AreAll c.edges.new.self.subject c.args.path.now c.add_preempted.new.edges.items = c.in_ok-add_preempted.ensures.edges in
    let here : AreAll s c.args.path.now c.add_preempted.new.edges.items =
    subst (λ (x : Subject). AreAll x c.args.path.now c.add_preempted.new.edges.items) (c.edges.ensures.subject ∙ c.look.ensures.subject) there in
    let before =
    node_edges s c.args.self.now.lawful c.args.self.now.can_start c.args.path.now c.in-Ok.sight.choices.items c.in-Ok.sight.note
    c.in-Ok.ensures.sight node led c.add_preempted.new.edges.items here in
    subst (AreEdges (next_node (searching_of s)) (IsKeyOf (searching_of s)) node) (sym c.in_ok-edges-2.ensures.order)
    (still_edges (next_node (searching_of s)) (IsKeyOf (searching_of s)) node c.add_preempted.new.self.subject.orders.preemptions
    c.args.path.now c.add_preempted.new.edges.items before)

pub returns-clause-note : goal.returns-clause-note
returns-clause-note c node led =
    node_note c.args.self.now.subject c.args.self.now.lawful c.args.self.now.can_start c.args.path.now c.in-Ok.sight.choices.items
    c.in-Ok.sight.note c.in-Ok.ensures.sight node led
