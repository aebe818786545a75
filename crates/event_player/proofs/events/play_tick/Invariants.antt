use Rattle.std.proofs.Common.{◌≤◌, Result}
use Rattle.xk_base.specs.declared.events.Event.TheVariants.{Tick}
use Rattle.xk_kernel.specs.Moments.{Stood}
use Rattle.xk_kernel.specs.Sound.{IsSound, IsUsable, Keeps}
use Rattle.xk_kernel.specs.State.{machine_of}
use Rattle.event_player.specs.declared.ending.Ending.{Ending}
use Rattle.event_player.specs.declared.events.PlayFault.{PlayFault}
use Rattle.event_player.specs.Gathering.{text}
use Rattle.event_player.specs.Playing.{Plays}
use Rattle.event_player.specs.Standing.{Stand, stand}
use Rattle.event_player.proofs.events.play_tick.Given as goal

-- Whatever comes of the rest comes of the whole.
abbrev pub invariant-runs : goal.invariant-runs
invariant-runs g l = record {
  plays : (new : Stand) (result : Result Ending PlayFault)
      → Plays (Stood g.W.SwapStore l.kernel) l.tells (Tick l.left) l.limit (stand g.W.SwapStore l.kernel (text (g.K.Sink.written l.out) l.held.items)) new result
      → Plays (Stood g.W.SwapStore l.fn.kernel) l.tells (Tick l.count) l.limit (stand g.W.SwapStore l.fn.kernel (text (g.K.Sink.written l.fn.out) l.fn.held.items)) new result;
  later : g.K.Sink.faults l.fn.out ≤ g.K.Sink.faults l.out;
  sound : IsSound g.W.SwapStore l.kernel;
  usable : IsUsable l.kernel;
  keeps : Keeps g.W.SwapStore l.fn.kernel l.kernel;
  within : (machine_of g.W.SwapStore.held l.kernel).steps ≤ l.limit;
}

abbrev pub decreases-runs : goal.decreases-runs
decreases-runs g l = l.left
