use Rattle.std.proofs.Common.{◌≡◌, ◌≤◌, ◌+◌, ◌-◌, ◌++◌, List}
use Rattle.xk_base.specs.declared.events.Event.TheVariants.{Tick}
use Rattle.xk_base.specs.declared.limits.TheConstants.{DEFAULT_STEPS}
use Rattle.xk_base.specs.declared.records.Rec.{Rec}
use Rattle.machine_laws.specs.History.{play}
use Rattle.machine_laws.specs.HistoryMoments.{event_moments}
use Rattle.xk_kernel.specs.Moments.{Stood, Throughout}
use Rattle.xk_kernel.specs.Sound.{IsSound, IsUsable, Keeps}
use Rattle.xk_kernel.specs.State.{machine_of}
use Rattle.demo_load.specs.Totals.{IsWithin, totals_of}
use Rattle.event_player.specs.Rooms.{ComesFull}
use Rattle.event_player.specs.Standing.{room_in}
use Rattle.demo_load.proofs.playing.play_tick.Given as goal

-- What was counted, with what is left of the tick, is the whole.
abbrev pub invariant-steps : goal.invariant-steps
invariant-steps g l = record {
  rest : (before : List Rec) → l.fn.totals ≡ totals_of before
      → (mid : List Rec) × (l.totals ≡ totals_of mid)
      × (mid ++ (play (Tick (l.count - l.done)) DEFAULT_STEPS (machine_of g.W.SwapStore.held l.kernel)).records
      ≡ before ++ (play (Tick l.count) DEFAULT_STEPS (machine_of g.W.SwapStore.held l.fn.kernel)).records);
  machine : (play (Tick (l.count - l.done)) DEFAULT_STEPS (machine_of g.W.SwapStore.held l.kernel)).machine
      ≡ (play (Tick l.count) DEFAULT_STEPS (machine_of g.W.SwapStore.held l.fn.kernel)).machine;
  full : ComesFull (room_in l.kernel) (machine_of g.W.SwapStore.held l.kernel) (event_moments (Tick (l.count - l.done)) DEFAULT_STEPS (machine_of g.W.SwapStore.held l.kernel))
      → ComesFull (room_in l.fn.kernel) (machine_of g.W.SwapStore.held l.fn.kernel) (event_moments (Tick l.count) DEFAULT_STEPS (machine_of g.W.SwapStore.held l.fn.kernel));
  stood : Throughout (Stood g.W.SwapStore l.kernel) (machine_of g.W.SwapStore.held l.kernel) (event_moments (Tick (l.count - l.done)) DEFAULT_STEPS (machine_of g.W.SwapStore.held l.kernel))
      → Throughout (Stood g.W.SwapStore l.fn.kernel) (machine_of g.W.SwapStore.held l.fn.kernel) (event_moments (Tick l.count) DEFAULT_STEPS (machine_of g.W.SwapStore.held l.fn.kernel));
  steps : (machine_of g.W.SwapStore.held l.kernel).steps ≤ (machine_of g.W.SwapStore.held l.fn.kernel).steps + l.done;
  within : IsWithin (machine_of g.W.SwapStore.held l.kernel).steps l.totals;
  sound : IsSound g.W.SwapStore l.kernel;
  usable : IsUsable l.kernel;
  keeps : Keeps g.W.SwapStore l.fn.kernel l.kernel;
}
