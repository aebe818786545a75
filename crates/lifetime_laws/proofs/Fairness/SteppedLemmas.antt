-- A step is that of the thread that acts.
use Rattle.std.proofs.Common.{◌≡◌, ◌+◌, map, Option, Some, ap}
use Rattle.xk_base.specs.declared.ids.ThreadId.{ThreadId}
use Rattle.machine_model.specs.State.Machine.{Machine, Thread}
use Rattle.machine_model.specs.State.Order.{actor}
use Rattle.machine_model.specs.Stepping.Step.{Recorded, acted_if_there, counted, record_of, step, step_by, step_by_if}
use Rattle.machine_model.specs.Stepping.Timer.{timed}
use Rattle.machine_laws.proofs.Threading.ThreadStepLemmas.{turned_to}

abbrev pub stepped : Machine → ThreadId → Option Thread → Recorded
stepped m who o = record {
  machine = (timed (counted (turned_to who m) o (acted_if_there (turned_to who m) o))).machine;
  records = map (record_of (m.steps + 1)) (timed (counted (turned_to who m) o (acted_if_there (turned_to who m) o))).told;
}

pub step_is : (m : Machine) (who : ThreadId) → actor m ≡ Some who → step m ≡ stepped m who (m.threads who)
unfolding step step_by
step_is m who acts = ap (λ a. step_by_if a m) acts
