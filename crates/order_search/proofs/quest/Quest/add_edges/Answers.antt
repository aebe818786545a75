use Rattle.std.proofs.Common.{◌∙◌, ◌++◌, List, append-nil, arith, refl, subst, sym, take_all}
use Rattle.std.specs.Prelude.{get_or}
use Rattle.std.proofs.lemmas.List.Elements.{All-get_or}
use Rattle.graph_search.specs.Edges.{HasCause}
use Rattle.order_model.specs.Moves.{Point}
use Rattle.order_model.specs.Asking.{asked_of}
use Rattle.order_model.specs.declared.choices.Choice.{Choice}
use Rattle.order_model.specs.declared.choices.Choice.TheVariants.{Goes}
use Rattle.order_model.specs.Edges.{AreEdgesBy, IsEdge}
use Rattle.order_search.specs.Faults.{IsFault}
use Rattle.order_search.specs.declared.subject.Subject.{Subject}
use Rattle.order_search.specs.Quests.{Arrives, IsChoice, IsKeyOf, IsPath, searching_of}
use Rattle.order_search.proofs.EdgeLemmas.{next_edge}
use Rattle.order_search.proofs.FaultLemmas.{exit_says}
use Rattle.order_search.proofs.quest.Quest.add_edges.Goals as goal

abbrev nobody : Choice
nobody = Goes (record { pid = record { 0 = 0 }; tid = record { 0 = 0 } })

pub loop-choice-init : goal.loop-choice-init
loop-choice-init c = record {
  subject = refl;
  edges = λ p before arrives by.
      subst (λ (choices : List Choice). AreEdgesBy (IsKeyOf (searching_of c.args.self.now.subject)) (asked_of c.args.self.now.subject.orders) p
      choices c.args.edges.now.items) (sym (append-nil before)) by;
}

pub edge-requires-clause-path : goal.edge-requires-clause-path
edge-requires-clause-path c =
    subst (λ (s : Subject). IsPath (searching_of s) c.args.path.now) (sym c.loop-choice.invariant.subject) c.requires.path

pub edge-requires-clause-may : goal.edge-requires-clause-may
edge-requires-clause-may c =
    let M : Subject → Type 0 =
    λ x. (p : Point) → Arrives (searching_of x) c.args.path.now p
    → IsChoice (asked_of x.orders) p (get_or c.args.choices.now c.loop-choice.choice-index nobody) in
    let may : M c.args.self.now.subject = λ p arrives.
    All-get_or (IsChoice (asked_of c.args.self.now.subject.orders) p) c.args.choices.now c.loop-choice.choice-index nobody
    c.loop-choice-test.true (c.requires.may p arrives) in
    subst M (sym c.loop-choice.invariant.subject) may

pub loop-choice-preserved : goal.loop-choice-preserved
loop-choice-preserved c =
    let s : Subject = c.args.self.now.subject in
    let E : Subject → Type 0 =
    λ x. (p : Point) → Arrives (searching_of x) c.args.path.now p → IsEdge (IsKeyOf (searching_of x)) (asked_of x.orders) p c.in_ok-edge.edge in
    let is : E s = subst E c.loop-choice.invariant.subject c.in_ok-edge.ensures.edge in
    record {
      subject = c.edge.ensures.subject ∙ c.loop-choice.invariant.subject;
      edges = λ p before arrives by.
          next_edge (IsKeyOf (searching_of s)) (asked_of s.orders) p before c.args.choices.now c.loop-choice.choice-index c.loop-choice.edges.items
          c.push.new.self.items c.in_ok-edge.edge nobody c.loop-choice-test.true (c.loop-choice.invariant.edges p before arrives by)
          (is p arrives) c.in_ok-edge.ensures.choice c.in-Ok.ensures.items;
    }

pub returns-clause-edges : goal.returns-clause-edges
returns-clause-edges c p before arrives by =
    subst (λ (choices : List Choice). AreEdgesBy (IsKeyOf (searching_of c.args.self.now.subject)) (asked_of c.args.self.now.subject.orders) p
    (before ++ choices) c.loop-choice.edges.items)
    (take_all c.loop-choice.choice-index c.args.choices.now (omega (arith, c.loop-choice-test.false)))
    (c.loop-choice.invariant.edges p before arrives by)

pub returns-in_err-edge-clause-fault : goal.returns-in_err-edge-clause-fault
returns-in_err-edge-clause-fault c =
    exit_says c.from_residual.result _ (HasCause (IsFault c.args.self.now.subject)) c.from_residual.ensures.1
    (subst (λ (s : Subject). HasCause (IsFault s) c.in_err-edge.field-0.0) c.loop-choice.invariant.subject c.in_err-edge.ensures.fault)
