use Rattle.std.proofs.Common.{◌≡◌, ◌≤◌, ◌++◌, ℕ, List, Option, length}
use Rattle.xk_ports.specs.Told.{Grows}
use Rattle.xk_ports.proofs.sink.put_all.Given as goal

-- the sink took a front of the bytes, and the rest comes after it; the count didn't fall
pub record Progress (old new : Option (List ℕ)) (bytes rest : List ℕ) (before now : ℕ) : Type 0 where
  pub front : List ℕ
  pub whole : bytes ≡ front ++ rest
  pub grown : Grows old new front
  pub later : before ≤ now

abbrev pub invariant-loop-rest : goal.invariant-loop-rest
invariant-loop-rest g l =
    Progress (g.K.Sink.written l.fn.out) (g.K.Sink.written l.out) l.bytes l.rest (g.K.Sink.faults l.fn.out) (g.K.Sink.faults l.out)

abbrev pub decreases-loop-rest : goal.decreases-loop-rest
decreases-loop-rest g l = length l.rest
