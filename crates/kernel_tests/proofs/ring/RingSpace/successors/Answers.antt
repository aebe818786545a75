use Rattle.std.proofs.Common.{◌≡◌, ℕ, List, [], ◌∷◌, Some, refl, ap}
use Rattle.std.specs.Prelude.{slice_get}
use Rattle.graph_search.specs.declared.space.Successor.{Successor}
use Rattle.graph_search.specs.Edges.{AreEdges}
use Rattle.kernel_tests.proofs.ring.RingSpace.successors.Goals as goal

-- the only edge leads on
only_edge : (edges : List (Successor (Unit {0}) ℕ)) (key : ℕ) (node : Unit {0}) → edges ≡ (record { label = tt; key = key }) ∷ []
    → AreEdges (λ (at label : Unit {0}). Some tt) (λ (at : Unit {0}) (k : ℕ). Unit {0}) node edges
only_edge edges key node is = record {
  each = λ i edge there. record { node = tt; there = refl; is_key = tt };
  all = λ label next there. record { place = 0; edge = record { label = tt; key = key }; is = ap (λ (es : List (Successor (Unit {0}) ℕ)). slice_get es 0) is; label_is = refl };
}

pub returns-in-Ok-clause-edges : goal.returns-in-Ok-clause-edges
returns-in-Ok-clause-edges c node is = only_edge c.in-Ok.edges.items _ node c.in-Ok.ensures
