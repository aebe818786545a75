use Rattle.std.proofs.Common.{◌≡◌, ◌++◌, List, take}
use Rattle.order_model.specs.Moves.{Point}
use Rattle.order_model.specs.Edges.{AreEdgesBy}
use Rattle.order_model.specs.declared.choices.Choice.{Choice}
use Rattle.order_search.specs.Quests.{Arrives, IsKeyOf, searching_of}
use Rattle.order_search.proofs.quest.Quest.add_edges.Given as goal

-- the edges by the choices before
abbrev pub invariant-loop-choice : goal.invariant-loop-choice
invariant-loop-choice l =
    let q = searching_of l.fn.self.subject in
    record {
      subject : l.self.subject ≡ l.fn.self.subject;
      edges : (p : Point) (before : List Choice) → Arrives q l.path p → AreEdgesBy (IsKeyOf q) q.asked p before l.fn.edges.items
          → AreEdgesBy (IsKeyOf q) q.asked p (before ++ take l.choice-index l.choices) l.edges.items;
    }
