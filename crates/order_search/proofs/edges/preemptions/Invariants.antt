use Rattle.std.proofs.Common.{◌≡◌, take}
use Rattle.std.specs.List.{flat_map}
use Rattle.order_model.specs.Choosing.{preemptions_by}
use Rattle.order_search.proofs.edges.preemptions.Given as goal

-- those of the edges before
abbrev pub invariant-loop-edge : goal.invariant-loop-edge
invariant-loop-edge l = l.choices.items ≡ flat_map (λ edge. preemptions_by edge.label) (take l.edge-index l.edges)
