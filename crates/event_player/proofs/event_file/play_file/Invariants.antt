use Rattle.std.proofs.Common.{◌≡◌, ◌≤◌, ◌+◌, ◌-◌, List, ℕ, length}
use Rattle.machine_model.specs.State.Machine.{Machine}
use Rattle.xk_kernel.specs.Sound.{IsSound, IsUsable, Keeps}
use Rattle.xk_kernel.specs.State.{machine_of}
use Rattle.xk_base.specs.declared.limits.TheConstants.{EVENT_FILE_LIMIT}
use Rattle.xk_ports.specs.Told.{Consumes}
use Rattle.xk_ports.specs.declared.host.FileSlot.TheVariants.{First, Second}
use Rattle.event_player.specs.Gathering.{put}
use Rattle.event_player.specs.Playing.{HasPlayed, run_from}
use Rattle.event_player.specs.Reading.{WaitsForBytes}
use Rattle.event_player.specs.Standing.{Begins, stand}
use Rattle.event_player.proofs.event_file.play_file.Given as goal

-- The front of the file was read and fed, and what became known by it was played.
abbrev pub invariant-pieces : goal.invariant-pieces
invariant-pieces g l = record {
  front : (taken : List ℕ) × Consumes (g.H.Host.left l.fn.host Second) (g.H.Host.left l.host Second) taken
      × ((start : Machine) → Begins start (stand g.W.SwapStore l.fn.kernel (put (g.K.Sink.written l.fn.out)))
      → HasPlayed (run_from g.W.SwapStore l.fn.kernel l.tells l.limit start (put (g.K.Sink.written l.fn.out))) taken l.reader (stand g.W.SwapStore l.kernel (put (g.K.Sink.written l.out))));
  waits : WaitsForBytes l.reader;
  sound : IsSound g.W.SwapStore l.kernel;
  usable : IsUsable l.kernel;
  keeps : Keeps g.W.SwapStore l.fn.kernel l.kernel;
  within : (machine_of g.W.SwapStore.held l.kernel).steps ≤ l.limit;
  picked : g.H.Host.is_picked l.host Second ≡ g.H.Host.is_picked l.fn.host Second;
  asked : g.H.Host.asked l.host ≡ g.H.Host.asked l.fn.host;
  first : g.H.Host.left l.host First ≡ g.H.Host.left l.fn.host First;
  host_later : g.H.Host.faults l.fn.host ≤ g.H.Host.faults l.host;
  out_later : g.K.Sink.faults l.fn.out ≤ g.K.Sink.faults l.out;
}

abbrev pub decreases-pieces : goal.decreases-pieces
decreases-pieces g l = EVENT_FILE_LIMIT - (l.reader.start + length l.reader.held)
