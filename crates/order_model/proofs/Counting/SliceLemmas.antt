-- A slice forgets the count of steps, where nobody has claimed the timer's interrupt.
use Rattle.std.proofs.Common.{◌≡◌, ℕ, zero, suc, ◌+◌, Bool, true, false, List, [], ◌∷◌, map, Option, Some, None, is_some, refl, sym, ap, ◌∙◌, arith}
use Rattle.std.specs.Prelude.{if◌then◌else◌}
use Rattle.std.proofs.lemmas.Bool.{false≢true}
use Rattle.xk_base.specs.declared.ids.ThreadId.{ThreadId}
use Rattle.xk_base.specs.declared.limits.TheConstants.{TIMER_INTERRUPT}
use Rattle.xk_base.specs.declared.records.Rec.{Rec}
use Rattle.xk_base.specs.declared.records.What.{What}
use Rattle.machine_model.specs.Hart.Instructions.{Executed, Next, Stores, StoresToConsole, StoresToTimer, CallsKernel, Traps}
use Rattle.machine_model.specs.Runs.Matched.{Matched}
use Rattle.machine_model.specs.Runs.Moments.{ByPick}
use Rattle.machine_model.specs.State.Changes.{Told}
use Rattle.machine_model.specs.State.Machine.{Claim, Machine, Thread}
use Rattle.machine_model.specs.State.Order.{actor}
use Rattle.machine_model.specs.State.Views.{stored, timer_set}
use Rattle.machine_model.specs.Stepping.Events.{picked}
use Rattle.machine_model.specs.Stepping.Step.{Recorded, acted_if_there, counted, ends_handler, ends_thread, executed, performed, record_of, step, step_by}
use Rattle.machine_model.proofs.Runs.TimerLemmas.{timed_unarmed}
use Rattle.machine_laws.proofs.Stepping.EveryStepLemmas.{every_cause_keeps, every_step_keeps}
use Rattle.machine_laws.proofs.Threading.ThreadStepLemmas.{then_acted, turned_to}
use Rattle.order_model.specs.Slices.{Slice, last_or, no_step, slice, steps_up_to}
use Rattle.order_model.specs.Counts.{IsUncounted, SliceForgetsCount, numbered, slice_from, with_count}
use Rattle.order_model.proofs.Counting.StepLemmas.{actor_with, left_unarmed, step_forgets, step_of}

-- ---- a step of which nothing is told leaves the claims

-- nothing is told of it, and so the claims are as they were
abbrev Leaves : Machine → Told → Type 0
Leaves m told = told.told ≡ [] → told.machine.claims ≡ m.claims

told_first : {A : Type 0} (what : What) (told : List What) → what ∷ told ≡ [] → A
told_first what told e = absurd (false≢true (ap is_none_told (sym e)))
  where
    is_none_told : List What → Bool
    is_none_told [] = false
    is_none_told (first ∷ rest) = true

executed_leaves : (m : Machine) (t : Thread) (x : Executed) → Leaves m (executed m t x)
unfolding stored timer_set
executed_leaves m t (Next regs pc) e = refl
executed_leaves m t (Stores address width value regs pc) e = refl
executed_leaves m t (StoresToConsole offset value regs pc) e = refl
executed_leaves m t (StoresToTimer offset width value regs pc) e = refl
executed_leaves m t CallsKernel e = told_first _ _ e
executed_leaves m t (Traps cause value) e = told_first _ _ e

acted_leaves : (m : Machine) (who : ThreadId) (t : Thread) (a b : Bool) (x : Executed) → Leaves m (then_acted m who [] t a b x)
acted_leaves m who t true b x e = told_first _ _ e
acted_leaves m who t false true x e = told_first _ _ e
acted_leaves m who t false false x e = executed_leaves (turned_to who m) t x e

map_none : (n : ℕ) (told : List What) → map (record_of n) told ≡ [] → told ≡ []
map_none n [] e = refl
map_none n (what ∷ told) e = absurd (false≢true (ap is_none_recorded (sym e)))
  where
    is_none_recorded : List Rec → Bool
    is_none_recorded [] = false
    is_none_recorded (first ∷ rest) = true

module _ (m : Machine) (who : ThreadId) (h : Matched m) (none : IsUncounted m) (acts : actor m ≡ Some who) where
  abbrev turned : Machine
  turned = turned_to who m

  abbrev done : Told
  done = counted turned (m.threads who) (acted_if_there turned (m.threads who))

  done_leaves : (o : Option Thread) → Leaves m (counted turned o (acted_if_there turned o))
  done_leaves None e = refl
  done_leaves (Some t) e =
      acted_leaves m who t (ends_thread who t.pc) (ends_handler who t.pc) (performed turned who t).executed e

  step_is : step m ≡ record { machine = done.machine; records = map (record_of (m.steps + 1)) done.told }
  unfolding step_by
  step_is =
      step_of m who acts
      ∙ ap (λ (told : Told). record { machine = told.machine; records = map (record_of (m.steps + 1)) told.told })
      (timed_unarmed done (left_unarmed m who h none))

  quiet_leaves : (step m).records ≡ [] → (step m).machine.claims ≡ m.claims
  quiet_leaves e =
      ap (λ (r : Recorded). r.machine.claims) step_is
      ∙ done_leaves (m.threads who) (map_none (m.steps + 1) done.told (sym (ap (λ (r : Recorded). r.records) step_is) ∙ e))

stays_uncounted : (m : Machine) → Matched m → IsUncounted m → is_some (actor m) ≡ true → (step m).records ≡ [] → IsUncounted (step m).machine
stays_uncounted m h none some e = go (actor m) refl some
  where
    go : (o : Option ThreadId) → actor m ≡ o → is_some o ≡ true → IsUncounted (step m).machine
    go None q is = absurd (false≢true is)
    go (Some who) q is = ap (λ (claims : ℕ → Option Claim). claims TIMER_INTERRUPT) (quiet_leaves m who h none q e) ∙ none

-- ---- steps up to the first with a record

-- the same last step, or those after it
last_from : (n : ℕ) (m : Machine) (records : List Rec) (later : Slice)
    → last_or (map (numbered (n + 1)) records) (with_count (n + 1) m) (slice_from (n + 1) later) ≡ slice_from n (last_or records m later)
last_from n m [] later =
    let same : (n + 1) + later.done ≡ n + (later.done + 1) = omega arith in
    ap (λ k. record { done = later.done + 1; machine = with_count k later.machine; records = map (numbered k) later.records }) same
last_from n m (first ∷ records) later = refl

steps_from : (most n : ℕ) (m : Machine) → Matched m → IsUncounted m → steps_up_to most (with_count n m) ≡ slice_from n (steps_up_to most m)
unfolding steps_up_to
steps_from zero n m h none =
    let same : n ≡ n + 0 = omega arith in
    ap (λ k. record { done = 0; machine = with_count k m; records = [] }) same
steps_from (suc most) n m h none =
    by_actor (λ some e. steps_from most (n + 1) (step m).machine (every_step_keeps m h) (stays_uncounted m h none some e)) (is_some (actor m)) refl
  where
    later : Slice
    later = steps_up_to most (step m).machine

    -- where nothing is told, the steps after it are those from there
    after_quiet : ((step m).records ≡ [] → steps_up_to most (with_count (n + 1) (step m).machine) ≡ slice_from (n + 1) later)
        → (records : List Rec) → (step m).records ≡ records
        → last_or (map (numbered (n + 1)) records) (with_count (n + 1) (step m).machine) (steps_up_to most (with_count (n + 1) (step m).machine))
        ≡ last_or (map (numbered (n + 1)) records) (with_count (n + 1) (step m).machine) (slice_from (n + 1) later)
    after_quiet rest [] e = ap (last_or [] (with_count (n + 1) (step m).machine)) (rest e)
    after_quiet rest (first ∷ records) e = refl

    by_actor : (is_some (actor m) ≡ true → (step m).records ≡ [] → steps_up_to most (with_count (n + 1) (step m).machine) ≡ slice_from (n + 1) later)
        → (b : Bool) → is_some (actor m) ≡ b
        → (if is_some (actor (with_count n m))
        then last_or (step (with_count n m)).records (step (with_count n m)).machine (steps_up_to most (step (with_count n m)).machine)
        else no_step (with_count n m))
        ≡ slice_from n (if is_some (actor m) then last_or (step m).records (step m).machine later else no_step m)
    by_actor rest false e =
        let same : n ≡ n + 0 = omega arith in
        ap (λ o. if is_some o
        then last_or (step (with_count n m)).records (step (with_count n m)).machine (steps_up_to most (step (with_count n m)).machine)
        else no_step (with_count n m)) (actor_with n m)
        ∙ (ap (λ b. if b
        then last_or (step (with_count n m)).records (step (with_count n m)).machine (steps_up_to most (step (with_count n m)).machine)
        else no_step (with_count n m)) e
        ∙ (ap (λ k. record { done = 0; machine = with_count k m; records = [] }) same
        ∙ sym (ap (λ b. slice_from n (if b then last_or (step m).records (step m).machine later else no_step m)) e)))
    by_actor rest true e =
        ap (λ o. if is_some o
        then last_or (step (with_count n m)).records (step (with_count n m)).machine (steps_up_to most (step (with_count n m)).machine)
        else no_step (with_count n m)) (actor_with n m)
        ∙ (ap (λ b. if b
        then last_or (step (with_count n m)).records (step (with_count n m)).machine (steps_up_to most (step (with_count n m)).machine)
        else no_step (with_count n m)) e
        ∙ (ap (λ (r : Recorded). last_or r.records r.machine (steps_up_to most r.machine)) (step_forgets n m h none e)
        ∙ (after_quiet (rest e) (step m).records refl
        ∙ (last_from n (step m).machine (step m).records later
        ∙ sym (ap (λ b. slice_from n (if b then last_or (step m).records (step m).machine later else no_step m)) e)))))

-- ---- a slice

picked_with : (n : ℕ) (who : ThreadId) (m : Machine) → (picked who (with_count n m)).machine ≡ with_count n (picked who m).machine
unfolding picked
picked_with n who m = refl

picked_uncounted : (who : ThreadId) (m : Machine) → IsUncounted m → IsUncounted (picked who m).machine
unfolding picked
picked_uncounted who m none = none

pub slice_forgets : SliceForgetsCount
unfolding slice
slice_forgets quantum n who m h none ready =
    ap (steps_up_to quantum) (picked_with n who m)
    ∙ steps_from quantum n (picked who m).machine (every_cause_keeps (ByPick who) m h) (picked_uncounted who m none)
