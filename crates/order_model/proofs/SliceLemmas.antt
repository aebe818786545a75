-- One slice.
use Rattle.std.proofs.Common.{◌≡◌, ◌≢◌, ◌+◌, ◌-◌, ◌≤◌, ◌<◌, ℕ, zero, suc, Bool, true, false, List, [], ◌∷◌, is_some, refl, ap, ◌∙◌, arith, append-nil}
use Rattle.std.specs.Prelude.{if◌then◌else◌}
use Rattle.xk_base.specs.declared.events.Event.TheVariants.{Tick, Pick}
use Rattle.xk_base.specs.declared.ids.ThreadId.{ThreadId}
use Rattle.xk_base.specs.declared.records.Rec.{Rec}
use Rattle.machine_model.specs.State.Machine.{Machine}
use Rattle.machine_model.specs.State.Order.{actor, turn, ready_at}
use Rattle.machine_model.specs.Stepping.Events.{picked}
use Rattle.machine_model.specs.Stepping.Step.{step}
use Rattle.machine_laws.specs.History.{History, reached, behind, followed_by, play, history}
use Rattle.machine_laws.proofs.Histories.HistoryLemmas.{history_first, history_none, pick_plays, tick_steps, tick_zero}
use Rattle.machine_laws.proofs.Histories.LimitLemmas.{pick_steps, step_steps, turn_steps}
use Rattle.order_model.specs.Slices.{Slice, no_step, last_or, steps_up_to, slice, slice_events, turned}

-- a tick of as many steps as were done
ticked : (most limit : ℕ) (m : Machine) → m.steps + (steps_up_to most m).done ≤ limit
    → play (Tick (steps_up_to most m).done) limit m ≡ reached (turned (steps_up_to most m))
unfolding steps_up_to
ticked zero limit m within = tick_zero limit m
ticked (suc most) limit m within = by_actor (λ h. ticked most limit (step m).machine h) (is_some (actor m)) refl within
  where
    later : Slice
    later = steps_up_to most (step m).machine

    by_records : (records : List Rec) → (step m).records ≡ records → is_some (actor m) ≡ true
        → ((step m).machine.steps + later.done ≤ limit → play (Tick later.done) limit (step m).machine ≡ reached (turned later))
        → m.steps + (last_or records (step m).machine later).done ≤ limit
        → play (Tick (last_or records (step m).machine later).done) limit m ≡ reached (turned (last_or records (step m).machine later))
    by_records [] none some rest fits =
        let one : 1 ≤ later.done + 1 = omega arith in
        let more : m.steps ≢ limit = λ e. absurd (omega (arith, e, fits)) in
        let less : (later.done + 1) - 1 ≡ later.done = omega arith in
        let counts : (step m).machine.steps ≡ m.steps + 1 = step_steps m some in
        tick_steps (later.done + 1) limit m one some more
        ∙ (ap (λ (records : List Rec). behind records (play (Tick ((later.done + 1) - 1)) limit (step m).machine)) none
        ∙ (ap (λ (k : ℕ). behind [] (play (Tick k) limit (step m).machine)) less
        ∙ ap (behind []) (rest (omega (arith, counts, fits)))))
    by_records (first ∷ records) is some rest fits =
        let one : 1 ≤ 1 = omega arith in
        let more : m.steps ≢ limit = λ e. absurd (omega (arith, e, fits)) in
        tick_steps 1 limit m one some more
        ∙ (ap (λ (all : List Rec). behind all (play (Tick 0) limit (step m).machine)) is
        ∙ (ap (behind (first ∷ records)) (tick_zero limit (step m).machine)
        ∙ ap (λ (all : List Rec). reached (record { machine = turn (step m).machine; records = all })) (append-nil (first ∷ records))))

    by_actor : ((step m).machine.steps + later.done ≤ limit → play (Tick later.done) limit (step m).machine ≡ reached (turned later))
        → (b : Bool) → is_some (actor m) ≡ b
        → m.steps + (if b then last_or (step m).records (step m).machine later else no_step m).done ≤ limit
        → play (Tick (if b then last_or (step m).records (step m).machine later else no_step m).done) limit m
        ≡ reached (turned (if b then last_or (step m).records (step m).machine later else no_step m))
    by_actor rest false none fits = tick_zero limit m
    by_actor rest true some fits = by_records (step m).records refl some rest fits

-- as many steps are counted
counted_steps : (most : ℕ) (m : Machine) → (steps_up_to most m).machine.steps ≡ m.steps + (steps_up_to most m).done
unfolding steps_up_to
counted_steps zero m = omega arith
counted_steps (suc most) m = by_actor (counted_steps most (step m).machine) (is_some (actor m)) refl
  where
    later : Slice
    later = steps_up_to most (step m).machine

    by_records : (records : List Rec) → is_some (actor m) ≡ true → later.machine.steps ≡ (step m).machine.steps + later.done
        → (last_or records (step m).machine later).machine.steps ≡ m.steps + (last_or records (step m).machine later).done
    by_records [] some rest = let counts : (step m).machine.steps ≡ m.steps + 1 = step_steps m some in omega (arith, counts, rest)
    by_records (first ∷ records) some rest = step_steps m some

    by_actor : later.machine.steps ≡ (step m).machine.steps + later.done → (b : Bool) → is_some (actor m) ≡ b
        → (if b then last_or (step m).records (step m).machine later else no_step m).machine.steps
        ≡ m.steps + (if b then last_or (step m).records (step m).machine later else no_step m).done
    by_actor rest false none = omega arith
    by_actor rest true some = by_records (step m).records some rest

pub slice_counts : (quantum : ℕ) (who : ThreadId) (m : Machine) → (turned (slice quantum who m)).machine.steps ≡ m.steps + (slice quantum who m).done
unfolding slice
slice_counts quantum who m =
    let at : Machine = (picked who m).machine in
    let steps : at.steps ≡ m.steps = pick_steps who m in
    turn_steps (steps_up_to quantum at).machine ∙ (counted_steps quantum at ∙ ap (λ (n : ℕ). n + (steps_up_to quantum at).done) steps)

-- there are no more than the quantum
most_done : (most : ℕ) (m : Machine) → (steps_up_to most m).done ≤ most
unfolding steps_up_to
most_done zero m = omega arith
most_done (suc most) m = by_actor (most_done most (step m).machine) (is_some (actor m))
  where
    later : Slice
    later = steps_up_to most (step m).machine

    by_records : later.done ≤ most → (records : List Rec) → (last_or records (step m).machine later).done ≤ suc most
    by_records rest [] = omega (arith, rest)
    by_records rest (first ∷ records) = omega arith

    by_actor : later.done ≤ most → (b : Bool)
        → (if b then last_or (step m).records (step m).machine later else no_step m).done ≤ suc most
    by_actor rest false = omega arith
    by_actor rest true = by_records rest (step m).records

pub slice_at_most : (quantum : ℕ) (who : ThreadId) (m : Machine) → (slice quantum who m).done ≤ quantum
unfolding slice
slice_at_most quantum who m = most_done quantum (picked who m).machine

-- ---- the first steps of a slice

-- so many steps were done, and none left a record
pub record IsQuiet (steps : ℕ) (s : Slice) : Type 0 where
  pub done : s.done ≡ steps
  pub records : s.records ≡ []

begins : (few most : ℕ) (m : Machine) → few < (steps_up_to most m).done → IsQuiet few (steps_up_to few m)
unfolding steps_up_to
begins zero most m less = record { done = refl; records = refl }
begins (suc few) zero m less = absurd (omega (arith, less))
begins (suc few) (suc most) m less = by_actor (λ h. begins few most (step m).machine h) (is_some (actor m)) less
  where
    whole : Slice
    whole = steps_up_to most (step m).machine

    part : Slice
    part = steps_up_to few (step m).machine

    by_records : (few < whole.done → IsQuiet few part) → (records : List Rec) → suc few < (last_or records (step m).machine whole).done
        → IsQuiet (suc few) (last_or records (step m).machine part)
    by_records rest [] fewer =
        let quiet = rest (omega (arith, fewer)) in
        let done : part.done ≡ few = quiet.done in
        record { done = omega (arith, done); records = quiet.records }
    by_records rest (first ∷ records) fewer = absurd (omega (arith, fewer))

    by_actor : (few < whole.done → IsQuiet few part) → (b : Bool)
        → suc few < (if b then last_or (step m).records (step m).machine whole else no_step m).done
        → IsQuiet (suc few) (if b then last_or (step m).records (step m).machine part else no_step m)
    by_actor rest false fewer = absurd (omega (arith, fewer))
    by_actor rest true fewer = by_records rest (step m).records fewer

-- fewer steps than a slice has leave no record
pub slice_begins : (steps quantum : ℕ) (who : ThreadId) (m : Machine) → steps < (slice quantum who m).done → IsQuiet steps (slice steps who m)
unfolding slice
slice_begins steps quantum who m less = begins steps quantum (picked who m).machine less

-- ---- its events

-- a pick has no record
picked_first : (who : ThreadId) (m : Machine) (next : Machine → History) → followed_by (reached (picked who m)) next ≡ next (picked who m).machine
unfolding picked
picked_first who m next = refl

-- `pick` and the tick
pub slice_plays : (quantum limit : ℕ) (who : ThreadId) (m : Machine) → ready_at m who ≡ true → m.steps + (slice quantum who m).done ≤ limit
    → history (slice_events quantum who m) limit m ≡ reached (turned (slice quantum who m))
unfolding slice
slice_plays quantum limit who m ready within =
    let at : Machine = (picked who m).machine in
    let steps : at.steps ≡ m.steps = pick_steps who m in
    let fits : at.steps + (steps_up_to quantum at).done ≤ limit = omega (arith, steps, within) in
    history_first (Pick who.pid who.tid) (Tick (slice quantum who m).done ∷ []) limit m
    ∙ (ap (λ (h : History). followed_by h (history (Tick (slice quantum who m).done ∷ []) limit)) (pick_plays who.pid who.tid limit m)
    ∙ (picked_first who m (λ n. history (Tick (slice quantum who m).done ∷ []) limit n)
    ∙ (history_first (Tick (slice quantum who m).done) [] limit at
    ∙ (ap (λ (h : History). followed_by h (history [] limit)) (ticked quantum limit at fits)
    ∙ (ap (behind (steps_up_to quantum at).records) (history_none limit (turn (steps_up_to quantum at).machine))
    ∙ ap (λ (all : List Rec). reached (record { machine = turn (steps_up_to quantum at).machine; records = all })) (append-nil (steps_up_to quantum at).records))))))

-- a pick forgets whose turn it was
pub slice_from_any_turn : (quantum : ℕ) (who cursor : ThreadId) (m : Machine) → ready_at m who ≡ true
    → slice quantum who (record m { cursor = cursor }) ≡ slice quantum who m
unfolding slice picked
slice_from_any_turn quantum who cursor m ready = rw ready refl
