-- A step forgets the count of steps, where nobody has claimed the timer's interrupt.
use Rattle.std.proofs.Common.{◌≡◌, ℕ, ◌+◌, true, List, map, Option, Some, None, is_some, refl, sym, ap, ◌∙◌}
use Rattle.std.proofs.lemmas.Bool.{false≢true}
use Rattle.std.proofs.lemmas.Simd.{map-map}
use Rattle.xk_base.specs.declared.ids.ThreadId.{ThreadId}
use Rattle.xk_base.specs.declared.limits.TheConstants.{TIMER_INTERRUPT}
use Rattle.xk_base.specs.declared.records.What.{What}
use Rattle.machine_model.specs.Runs.Matched.{Matched}
use Rattle.machine_model.specs.State.Changes.{Told}
use Rattle.machine_model.specs.State.Machine.{Claim, Machine}
use Rattle.machine_model.specs.State.Order.{actor, next_ready}
use Rattle.machine_model.specs.Stepping.Step.{acted_if_there, counted, record_of, step, step_by, step_by_if}
use Rattle.machine_model.specs.Stepping.Timer.{timed}
use Rattle.machine_model.proofs.Runs.TimerLemmas.{timed_unarmed}
use Rattle.machine_laws.proofs.Threading.ThreadStepLemmas.{turned_to}
use Rattle.order_model.specs.Counts.{IsUncounted, StepForgetsCount, numbered, recorded_as, with_count}
use Rattle.order_model.proofs.Counting.ActLemmas.{acted_with, left_with}
use Rattle.order_model.proofs.Counting.EffectLemmas.{told_with, unarmed_with}

-- without a claim the timer isn't armed
unarmed : (o : Option ℕ) (c : Option Claim) → (is_some o ≡ true → is_some c ≡ true) → c ≡ None → o ≡ None
unarmed None c matched e = refl
unarmed (Some compare) c matched e = absurd (false≢true (sym (ap is_some e) ∙ matched refl))

-- what was told with its number, with another one
renumbered : (n k : ℕ) (told : List What) → map (record_of n) told ≡ map (numbered n) (map (record_of k) told)
renumbered n k told = sym (map-map (numbered n) (record_of k) told)

module _ (m : Machine) (who : ThreadId) where
  abbrev turned : Machine
  turned = turned_to who m

  -- what the step does before the timer, from this machine
  abbrev done_from : Machine → Told
  done_from before = counted before (m.threads who) (acted_if_there before (m.threads who))

  abbrev done : Told
  done = done_from turned

  module _ (h : Matched m) (none : IsUncounted m) where
    -- ---- before the timer

    unarmed_before : (n : ℕ) → with_count n turned ≡ unarmed_with n turned
    unarmed_before n =
        ap (λ o. record turned { steps = n; compare = o }) (unarmed m.compare (m.claims TIMER_INTERRUPT) h.rest.timer none)

    counts : (n : ℕ) → told_with (n + 1) done ≡ done_from (with_count n turned)
    counts n = same ∙ ap done_from (sym (unarmed_before n))
      where
        acts : told_with n (acted_if_there turned (m.threads who)) ≡ acted_if_there (unarmed_with n turned) (m.threads who)
        acts = acted_with n turned none (m.threads who) (h.body.threads.pcs who)

        same : told_with (n + 1) done ≡ done_from (unarmed_with n turned)
        same = λ i. record (acts i) {
          machine = record (acts i).machine { steps = n + 1; reserved = left_with n turned none (m.threads who) i };
        }

    -- the step doesn't arm it
    pub left_unarmed : done.machine.compare ≡ None
    left_unarmed = sym (ap (λ (told : Told). told.machine.compare) (counts m.steps))

    -- ---- the timer does nothing

    untimed : timed done ≡ done
    untimed = timed_unarmed done left_unarmed

    untimed_with : (n : ℕ) → timed (done_from (with_count n turned)) ≡ record done { machine = with_count (n + 1) done.machine }
    untimed_with n =
        ap timed (sym (counts n))
        ∙ (timed_unarmed (told_with (n + 1) done) refl
        ∙ ap (λ o. record done { machine = record done.machine { steps = n + 1; compare = o } }) (sym left_unarmed))

    step_by_with : (n : ℕ) → step_by who (with_count n m) ≡ recorded_as (n + 1) (step_by who m)
    unfolding step_by
    step_by_with n =
        ap (λ (told : Told). record { machine = told.machine; records = map (record_of (n + 1)) told.told }) (untimed_with n)
        ∙ (ap (λ records. record { machine = with_count (n + 1) done.machine; records = records }) (renumbered (n + 1) (m.steps + 1) done.told)
        ∙ ap (λ (told : Told). record {
          machine = with_count (n + 1) told.machine;
          records = map (numbered (n + 1)) (map (record_of (m.steps + 1)) told.told);
        }) (sym untimed))

pub actor_with : (n : ℕ) (m : Machine) → actor (with_count n m) ≡ actor m
unfolding actor next_ready
actor_with n m = refl

-- the next step is that of the thread whose turn it is
pub step_of : (m : Machine) (who : ThreadId) → actor m ≡ Some who → step m ≡ step_by who m
unfolding step
step_of m who e = ap (λ o. step_by_if o m) e

pub step_forgets : StepForgetsCount
step_forgets n m h none some = go (actor m) refl some
  where
    go : (o : Option ThreadId) → actor m ≡ o → is_some o ≡ true → step (with_count n m) ≡ recorded_as (n + 1) (step m)
    go None e is = absurd (false≢true is)
    go (Some who) e is =
        step_of (with_count n m) who (actor_with n m ∙ e)
        ∙ (step_by_with m who h none n ∙ ap (recorded_as (n + 1)) (sym (step_of m who e)))
