-- What the timer makes of a step that was counted.
use Rattle.std.specs.Prelude.{◌≡◌, IsTrue, List, Some}
pub use Rattle.irq_path.specs.Placing.{LogTells, log_of}
use Rattle.machine_model.specs.State.Changes.{Told}
use Rattle.machine_model.specs.State.Machine.{Claim, Machine}
use Rattle.machine_model.specs.Stepping.Timer.{timed}
use Rattle.sv32_space.specs.Tie.{Held}
use Rattle.xk_base.specs.Tables.Circle.{is_pid}
use Rattle.xk_base.specs.declared.limits.TheConstants.{TIMER_INTERRUPT}
use Rattle.xk_base.specs.declared.records.What.{What}
use Rattle.xk_kernel.specs.State.{machine_of}
use Rattle.xk_kernel.specs.declared.kernel.Kernel.{Kernel}

-- a process that exists has claimed the timer's interrupt, if one has
abbrev pub IsTimersClaimThere : Machine → Type 0
IsTimersClaimThere m = (claim : Claim) → m.claims TIMER_INTERRUPT ≡ Some claim → IsTrue (is_pid m.processes claim.pid.0)

-- the machine and what its step did so far, before the timer
abbrev pub so_far : Machine → List What → Told
so_far m told = record { machine = m; told = told }

-- where the log tells this of the step so far, the machine and the log become what the timer makes of them
pub record Rings {W : Type 0} (held : W → Held) (old new : Kernel W) (told : List What) : Type 0 where
  pub machine : machine_of held new ≡ (timed (so_far (machine_of held old) told)).machine
  pub log : new.log ≡ log_of (timed (so_far (machine_of held old) told)).told old.log
