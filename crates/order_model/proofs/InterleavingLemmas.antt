-- Slices of one step.
use Rattle.std.proofs.Common.{◌≡◌, true, List, [], ◌∷◌, ◌++◌, Option, Some, is_some, refl, sym, ap, ◌∙◌, subst}
use Rattle.std.specs.Prelude.{if◌then◌else◌}
use Rattle.xk_base.specs.declared.ids.ThreadId.{ThreadId}
use Rattle.xk_base.specs.declared.records.Rec.{Rec}
use Rattle.machine_model.specs.State.Machine.{Machine}
use Rattle.machine_model.specs.State.Order.{actor, ready_at, turn}
use Rattle.machine_model.specs.Stepping.Events.{picked}
use Rattle.machine_model.specs.Stepping.Step.{Recorded, step, step_by, step_by_if}
use Rattle.machine_laws.specs.Interleaving.{AreReadyInTurn, after_step_of, steps_in_turn}
use Rattle.order_model.specs.SlicesInTurn.{AreReadyInSlices, AreSteps, InterleavingsAreOrders, after_slice, slices_in_turn}
use Rattle.order_model.specs.Slices.{last_or, no_step, slice, steps_up_to, turned}

-- the machine as its turn goes to the thread
abbrev at : ThreadId → Machine → Machine
at who m = record m { cursor = who }

pick_is : (who : ThreadId) (m : Machine) → ready_at m who ≡ true → (picked who m).machine ≡ at who m
unfolding picked
pick_is who m ready = rw ready refl

actor_is : (who : ThreadId) (m : Machine) → ready_at m who ≡ true → actor (at who m) ≡ Some who
unfolding actor
actor_is who m ready = rw ready refl

step_at : (who : ThreadId) (m : Machine) → ready_at m who ≡ true → step (at who m) ≡ step_by who m
unfolding step step_by
step_at who m ready = ap (λ (a : Option ThreadId). step_by_if a (at who m)) (actor_is who m ready)

-- a slice of one step is that step
one_or_none : (records : List Rec) (m : Machine) → turned (last_or records m (no_step m)) ≡ record { machine = turn m; records = records }
one_or_none [] m = refl
one_or_none (first ∷ records) m = refl

one_step : (who : ThreadId) (m : Machine) → ready_at m who ≡ true
    → turned (slice 1 who m) ≡ record { machine = after_step_of who m; records = (step_by who m).records }
unfolding slice steps_up_to
one_step who m ready =
    ap (λ x. turned (steps_up_to 1 x)) (pick_is who m ready)
    ∙ (ap (λ (a : Option ThreadId). turned (if is_some a
    then last_or (step (at who m)).records (step (at who m)).machine (no_step (step (at who m)).machine) else no_step (at who m)))
    (actor_is who m ready)
    ∙ (one_or_none (step (at who m)).records (step (at who m)).machine
    ∙ ap (λ (done : Recorded). record { machine = turn done.machine; records = done.records }) (step_at who m ready)))

are_steps : (order : List ThreadId) (m : Machine) → AreReadyInTurn order m → AreSteps order m
unfolding AreReadyInTurn AreReadyInSlices slices_in_turn steps_in_turn
are_steps [] m ready = record { ready = tt; same = refl }
are_steps (who ∷ later) m ready =
    let one = one_step who m ready.0 in
    let next : after_slice 1 who m ≡ after_step_of who m = ap (λ (done : Recorded). done.machine) one in
    let rest = are_steps later (after_step_of who m) ready.1 in
    record {
      ready = (ready.0, subst (AreReadyInSlices 1 later) (sym next) rest.ready);
      same =
          ap (λ (done : Recorded). record {
            machine = (slices_in_turn 1 later done.machine).machine;
            records = done.records ++ (slices_in_turn 1 later done.machine).records;
          }) one
          ∙ ap (λ (done : Recorded). record { machine = done.machine; records = (step_by who m).records ++ done.records }) rest.same;
    }

pub interleavings_are_orders : InterleavingsAreOrders
interleavings_are_orders order m ready = are_steps order m ready
