use Rattle.std.proofs.Common.{◌≡◌, ◌≤◌, ◌+◌, List, ℕ, length}
use Rattle.machine_model.specs.State.Machine.{Machine}
use Rattle.xk_kernel.specs.Sound.{IsSound, IsUsable, Keeps}
use Rattle.xk_kernel.specs.State.{machine_of}
use Rattle.xk_kernel.specs.declared.kernel.Kernel.{Kernel}
use Rattle.event_player.specs.Playing.{HasPlayed, run_from}
use Rattle.event_player.specs.Standing.{stand}
use Rattle.event_player.specs.Gathering.{Text, text}
use Rattle.event_player.proofs.events.play_known.Given as goal

-- What was played before the call was played on.
abbrev pub invariant-answers : goal.invariant-answers
invariant-answers g l = record {
  goes : (first : Kernel g.row.W.Denot) (start : Machine) (begun : Text) (taken : List ℕ) → Keeps g.W.SwapStore first l.fn.kernel
      → HasPlayed (run_from g.W.SwapStore first l.tells l.limit start begun) taken l.fn.reader (stand g.W.SwapStore l.fn.kernel (text (g.K.Sink.written l.fn.out) l.fn.held.items))
      → HasPlayed (run_from g.W.SwapStore first l.tells l.limit start begun) taken l.reader (stand g.W.SwapStore l.kernel (text (g.K.Sink.written l.out) l.held.items));
  sound : IsSound g.W.SwapStore l.kernel;
  usable : IsUsable l.kernel;
  keeps : Keeps g.W.SwapStore l.fn.kernel l.kernel;
  within : (machine_of g.W.SwapStore.held l.kernel).steps ≤ l.limit;
  offset : l.reader.start + length l.reader.held ≡ l.fn.reader.start + length l.fn.reader.held;
  finished : l.reader.finished ≡ l.fn.reader.finished;
  later : g.K.Sink.faults l.fn.out ≤ g.K.Sink.faults l.out;
}

abbrev pub decreases-answers : goal.decreases-answers
decreases-answers g l = length l.reader.held
