-- Laws of the machine's order and step.
use Rattle.std.proofs.Common.{◌≡◌, ℕ, ◌+◌, true, false, List, [], map, Option, Some, None, refl, ap, ◌∙◌}
use Rattle.std.specs.List.{All}
use Rattle.std.proofs.lemmas.List.Elements.{All-nil, All-map}
use Rattle.xk_base.specs.declared.errors.XousError.{XousError}
use Rattle.xk_base.specs.declared.ids.ThreadId.{ThreadId}
use Rattle.xk_base.specs.declared.records.What.{What}
use Rattle.xk_base.specs.Tables.Circle.{is_pid, is_thread_id}
use Rattle.xk_base.proofs.CircleLemmas.{next_id-passes, next_id-none}
use Rattle.machine_model.specs.State.Changes.{Refused, call_settled, with_refusal}
use Rattle.machine_model.specs.Hart.Instructions.{following}
use Rattle.machine_model.specs.State.Machine.{Machine, Thread}
use Rattle.machine_model.specs.State.Order.{ready_at, next_ready, actor}
use Rattle.machine_model.specs.Stepping.Step.{step, step_by, step_by_if, record_of, acted_if_there, counted}
use Rattle.machine_model.specs.Stepping.Timer.{timed}
use Rattle.machine_model.specs.State.Threads.{change_thread}
use Rattle.machine_model.proofs.Runs.TimerLemmas.{timed_raised}

pub next_ready_passes : (m : Machine) (c d : ThreadId) → next_ready m c ≡ Some d → ready_at m d ≡ true
unfolding next_ready
next_ready_passes m c d e = next_id-passes m.processes (ready_at m) c d e

pub none_is_ready : (m : Machine) (c d : ThreadId) → is_pid m.processes c.pid.0 ≡ true → next_ready m c ≡ None
    → is_thread_id m.processes d ≡ true → ready_at m d ≡ false
unfolding next_ready
none_is_ready m c d p e h = next_id-none m.processes (ready_at m) c p e d h

-- ---- steps

-- a step is that of its actor
step_is : (m : Machine) → step m ≡ step_by_if (actor m) m
unfolding step
step_is m = refl

step_by_counts : (who : ThreadId) (m : Machine) → (step_by who m).machine.steps ≡ m.steps + 1
unfolding step_by
step_by_counts who m =
    let turned : Machine = record m { cursor = who } in
    ap (λ n. n.steps) (timed_raised (counted turned (m.threads who) (acted_if_there turned (m.threads who)))).is

pub one_step : (m : Machine) (who : ThreadId) → actor m ≡ Some who → (step m).machine.steps ≡ m.steps + 1
one_step m who e =
    ap (λ s. s.machine.steps) (step_is m ∙ ap (λ a. step_by_if a m) e) ∙ step_by_counts who m

pub no_step : (m : Machine) → actor m ≡ None → step m ≡ record { machine = m; records = [] }
no_step m e = step_is m ∙ ap (λ a. step_by_if a m) e

-- records that are given the number of a step carry it
all_numbered : (n : ℕ) (told : List What) → All (λ r. r.step ≡ n) (map (record_of n) told)
all_numbered n told = All-map (λ r. r.step ≡ n) (record_of n) told (λ k d l. refl)

step_by_numbered : (who : ThreadId) (m : Machine) → All (λ r. r.step ≡ m.steps + 1) (step_by who m).records
unfolding step_by
step_by_numbered who m =
    let turned : Machine = record m { cursor = who } in
    all_numbered (m.steps + 1) (timed (counted turned (m.threads who) (acted_if_there turned (m.threads who)))).told

numbered_if : (a : Option ThreadId) (m : Machine) → All (λ r. r.step ≡ m.steps + 1) (step_by_if a m).records
numbered_if None m = All-nil (λ r. r.step ≡ m.steps + 1)
numbered_if (Some who) m = step_by_numbered who m

pub records_of_step : (m : Machine) → All (λ r. r.step ≡ m.steps + 1) (step m).records
unfolding step
records_of_step m = numbered_if (actor m) m

pub refusal_settled : (m : Machine) (error : XousError) → (call_settled m (Refused error)).machine ≡ change_thread m.cursor (with_refusal error) m
unfolding call_settled
refusal_settled m error = refl

pub refusal_passes : (t : Thread) (error : XousError) → ((with_refusal error t).pc ≡ following t.pc) × ((with_refusal error t).state ≡ t.state)
refusal_passes t error = (refl, refl)
