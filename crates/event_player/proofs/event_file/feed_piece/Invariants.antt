use Rattle.std.proofs.Common.{◌≡◌, ◌≤◌, ◌+◌, ◌++◌, List, ℕ, length}
use Rattle.machine_model.specs.State.Machine.{Machine}
use Rattle.xk_kernel.specs.Sound.{IsSound, IsUsable, Keeps}
use Rattle.xk_kernel.specs.State.{machine_of}
use Rattle.xk_kernel.specs.declared.kernel.Kernel.{Kernel}
use Rattle.event_player.specs.Playing.{HasPlayed, run_from}
use Rattle.event_player.specs.Reading.{WaitsForBytes}
use Rattle.event_player.specs.Standing.{stand}
use Rattle.event_player.specs.Gathering.{Text, text}
use Rattle.event_player.proofs.event_file.feed_piece.Given as goal

-- The front of the piece was fed, and what became known by it was played.
abbrev pub invariant-rest : goal.invariant-rest
invariant-rest g l = record {
  front : (done : List ℕ) × (l.piece ≡ done ++ l.rest)
      × ((first : Kernel g.row.W.Denot) (start : Machine) (begun : Text) (taken : List ℕ) → Keeps g.W.SwapStore first l.fn.kernel
      → HasPlayed (run_from g.W.SwapStore first l.tells l.limit start begun) taken l.fn.reader (stand g.W.SwapStore l.fn.kernel (text (g.K.Sink.written l.fn.out) l.fn.held.items))
      → HasPlayed (run_from g.W.SwapStore first l.tells l.limit start begun) (taken ++ done) l.reader (stand g.W.SwapStore l.kernel (text (g.K.Sink.written l.out) l.held.items)));
  waits : WaitsForBytes l.reader;
  offset : l.reader.start + length l.reader.held + length l.rest ≡ l.fn.reader.start + length l.fn.reader.held + length l.piece;
  sound : IsSound g.W.SwapStore l.kernel;
  usable : IsUsable l.kernel;
  keeps : Keeps g.W.SwapStore l.fn.kernel l.kernel;
  within : (machine_of g.W.SwapStore.held l.kernel).steps ≤ l.limit;
  later : g.K.Sink.faults l.fn.out ≤ g.K.Sink.faults l.out;
}

abbrev pub decreases-rest : goal.decreases-rest
decreases-rest g l = length l.rest
