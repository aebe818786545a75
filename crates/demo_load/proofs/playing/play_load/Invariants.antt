use Rattle.std.proofs.Common.{◌≡◌, ◌≤◌, ◌*◌, false}
use Rattle.xk_base.specs.declared.limits.TheConstants.{DEFAULT_STEPS}
use Rattle.machine_laws.specs.History.{history}
use Rattle.machine_laws.specs.HistoryMoments.{moments_of}
use Rattle.xk_kernel.specs.Moments.{Stood, Throughout}
use Rattle.xk_kernel.specs.Sound.{IsSound, IsUsable, Keeps}
use Rattle.xk_kernel.specs.State.{machine_of}
use Rattle.demo_load.specs.Events.{first_events}
use Rattle.demo_load.specs.Totals.{IsWithin, totals_of}
use Rattle.demo_load.proofs.playing.play_load.Given as goal

-- the events so far were played, and their records counted
abbrev pub invariant-events : goal.invariant-events
invariant-events g l = record {
  unmet : (history (first_events l.i) DEFAULT_STEPS (machine_of g.W.SwapStore.held l.fn.kernel)).met ≡ false;
  there : (history (first_events l.i) DEFAULT_STEPS (machine_of g.W.SwapStore.held l.fn.kernel)).machine ≡ machine_of g.W.SwapStore.held l.kernel;
  stood : Throughout (Stood g.W.SwapStore l.fn.kernel) (machine_of g.W.SwapStore.held l.fn.kernel) (moments_of (first_events l.i) DEFAULT_STEPS (machine_of g.W.SwapStore.held l.fn.kernel));
  counted : l.totals ≡ totals_of (history (first_events l.i) DEFAULT_STEPS (machine_of g.W.SwapStore.held l.fn.kernel)).records;
  steps : (machine_of g.W.SwapStore.held l.kernel).steps ≤ 13 * l.i;
  within : IsWithin (machine_of g.W.SwapStore.held l.kernel).steps l.totals;
  sound : IsSound g.W.SwapStore l.kernel;
  usable : IsUsable l.kernel;
  keeps : Keeps g.W.SwapStore l.fn.kernel l.kernel;
}
