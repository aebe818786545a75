-- Every call keeps the machine matched, so every step does, and whatever leads from a state to the next.
use Rattle.std.proofs.Common.{ℕ, List}
use Rattle.machine_model.specs.Runs.Kept.{AllKeepMatched, StepKeepsMatched}
use Rattle.machine_model.specs.Runs.Matched.{Matched}
use Rattle.machine_model.specs.Runs.Moments.{IsRun, Moment, state_at}
use Rattle.machine_model.specs.State.Machine.{Machine}
use Rattle.machine_model.proofs.Runs.KeptLemmas.{all_keep, run_keeps}
use Rattle.machine_laws.proofs.Dying.DeathLemmas.{kill_keeps}
use Rattle.machine_laws.proofs.Interrupting.IrqDeliveryLemmas.{irq_keeps}
use Rattle.machine_laws.proofs.Stepping.StepCaseLemmas.{CallsKeep, steps_keep}
use Rattle.machine_laws.proofs.Stepping.EveryCallLemmas.{every_call_keeps}
use Rattle.machine_laws.proofs.Threading.ThreadStepLemmas.{actor_ready, call_step_keeps, turned_to}
use Rattle.machine_model.proofs.Runs.KeptLemmas.{matched_at}

pub calls_keep : CallsKeep
calls_keep m who w h acts called =
    call_step_keeps m who w acts called (every_call_keeps (turned_to who m) (matched_at who m h) (actor_ready m who acts) w)

-- ---- steps, and all that leads from a state to the next

pub every_step_keeps : StepKeepsMatched
every_step_keeps = steps_keep calls_keep

pub every_cause_keeps : AllKeepMatched
every_cause_keeps = all_keep every_step_keeps irq_keeps kill_keeps

pub every_run_keeps : (start : Machine) (moments : List Moment) → Matched start → IsRun start moments → (i : ℕ) → Matched (state_at start moments i)
every_run_keeps = run_keeps every_cause_keeps
